-- Where the number of a tree that is a single number stands: it is the word behind each `(` in front.
use mathlib.Core.Path.{◌≡◌, refl, ap, sym, ◌∙◌}
use mathlib.Core.Bool.{Bool, true, false, cond, ◌&&◌}
use mathlib.Core.List.{List, [], ◌∷◌}
use Prim.Native.Nat.{ℕ, zero, suc, ◌-◌, ◌≤◌}
use native.Mathlib.Omega.{arith}
use lib.Dec.{leb, eqb}
use lib.ListN.{length, take, drop}
use Rattle.rules.specs.declared.Op.{Op}
use Rattle.rules.specs.Limits.{open_most}
use Rattle.rules.specs.Names.{is_short}
use Rattle.rules.specs.Operators.{level, left_level, right_level, atom_level}
use Rattle.rules.specs.Trees.{Tree, num, read, two, negation}
use Rattle.text_laws.specs.Reader.{Out, fail, got, Found, missing, found, word, behind, word_value, is_number_word}
use Rattle.text_laws.specs.Reader.{leaf}
use Rattle.text_laws.specs.Reader.{close, inside, atom, step, and_then, expr, more, operator_at}
use Rattle.text_laws.specs.LineReader.{hit, of_out, read_tree}
use Rattle.texts.specs.PartPlaces.{past_open}
use Rattle.texts.proofs.ExprLeaves.{word_part}

-- a single number that was read is the word in front of y
abbrev NumberTree : List ℕ → Tree (List ℕ) → Type 0
NumberTree y (num m) = (is_number_word (word y) ≡ true) × (m ≡ word_value (word y))
NumberTree y (read a) = Unit {0}
NumberTree y (two o a b) = Unit {0}
NumberTree y (negation a) = Unit {0}

abbrev NumberIn : List ℕ → Out → Type 0
NumberIn y fail = Unit {0}
NumberIn y (got t q) = NumberTree y t

leaf_number : (y q : List ℕ) → NumberIn y (leaf (word y) q)
unfolding leaf
leaf_number y q = go (is_short (word y)) (is_number_word (word y)) refl
  where
    go : (a b : Bool) → is_number_word (word y) ≡ b
        → NumberIn y (cond a (got (read (word y)) q) (cond b (got (num (word_value (word y))) q) fail))
    go true b e = tt
    go false true e = (e, refl)
    go false false e = tt

close_same : (y : List ℕ) (o : Out) → NumberIn y o → NumberIn y (close (λ t. t) o)
unfolding close
close_same y fail h = tt
close_same y (got t []) h = tt
close_same y (got t (c ∷ r)) h = go (eqb c 41)
  where
    go : (x : Bool) → NumberIn y (cond x (got t r) fail)
    go true = h
    go false = tt

close_not : (y : List ℕ) (o : Out) → NumberIn y (close negation o)
unfolding close
close_not y fail = tt
close_not y (got t []) = tt
close_not y (got t (c ∷ r)) = go (eqb c 41)
  where
    go : (x : Bool) → NumberIn y (cond x (got (negation t) r) fail)
    go true = tt
    go false = tt

inside_not : (y : List ℕ) (p : ℕ → List ℕ → Out) (b : ℕ) (s : List ℕ) → NumberIn y (inside p b negation s)
unfolding inside
inside_not y p b [] = tt
inside_not y p zero (c ∷ s) = tt
inside_not y p (suc b) (c ∷ s) = go (eqb c 40) (close_not y (p b s))
  where
    go : (x : Bool) → NumberIn y (close negation (p b s)) → NumberIn y (cond x (close negation (p b s)) fail)
    go true h = h
    go false h = tt

inside_same : (p : ℕ → List ℕ → Out) (b c : ℕ) (s : List ℕ) → ((b : ℕ) → NumberIn (past_open s) (p b s))
    → NumberIn (past_open s) (inside p b (λ t. t) (c ∷ s))
unfolding inside
inside_same p zero c s h = tt
inside_same p (suc b) c s h = go (eqb c 40) (close_same (past_open s) (p b s) (h b))
  where
    go : (x : Bool) → NumberIn (past_open s) (close (λ t. t) (p b s))
        → NumberIn (past_open s) (cond x (close (λ t. t) (p b s)) fail)
    go true h = h
    go false h = tt

atom_number : (p : ℕ → List ℕ → Out) (b : ℕ) (s : List ℕ)
    → ((b : ℕ) (s : List ℕ) → NumberIn (past_open s) (p b s)) → NumberIn (past_open s) (atom p b s)
unfolding atom past_open
atom_number p b [] h = tt
atom_number p b (c ∷ s) h =
    go (eqb c 33) (eqb c 40) (inside_not (cond (eqb c 40) (past_open s) (c ∷ s)) p b s)
    (inside_same p b c s (λ b. h b s)) (leaf_number (c ∷ s) (behind (c ∷ s)))
  where
    go : (x y : Bool) → NumberIn (cond y (past_open s) (c ∷ s)) (inside p b negation s)
        → NumberIn (past_open s) (inside p b (λ t. t) (c ∷ s))
        → NumberIn (c ∷ s) (leaf (word (c ∷ s)) (behind (c ∷ s)))
        → NumberIn (cond y (past_open s) (c ∷ s)) (cond x (inside p b negation s)
        (cond y (inside p b (λ t. t) (c ∷ s)) (leaf (word (c ∷ s)) (behind (c ∷ s)))))
    go true y i j k = i
    go false true i j k = j
    go false false i j k = k

then_number : (y : List ℕ) (o : Out) (f : Tree (List ℕ) → List ℕ → Out)
    → ((t : Tree (List ℕ)) (q : List ℕ) → NumberIn y (got t q) → NumberIn y (f t q)) → NumberIn y o
    → NumberIn y (and_then o f)
unfolding and_then
then_number y fail f h w = tt
then_number y (got t q) f h w = h t q w

then_other : (y : List ℕ) (o : Out) (f : Tree (List ℕ) → List ℕ → Out)
    → ((t : Tree (List ℕ)) (q : List ℕ) → NumberIn y (f t q)) → NumberIn y (and_then o f)
unfolding and_then
then_other y fail f h = tt
then_other y (got t q) f h = h t q

step_number : (y : List ℕ) (k h : ℕ) (o : Out) (g : Found) (f : Op → List ℕ → Out) → NumberIn y o
    → ((p : Op) (q : List ℕ) → NumberIn y (f p q)) → NumberIn y (step k h o g f)
unfolding step
step_number y k h o missing f w v = w
step_number y k h o (found p r) f w v = go (leb k (level p) && leb (left_level p) h) w (v p r)
  where
    go : (x : Bool) → NumberIn y o → NumberIn y (f p r) → NumberIn y (cond x (f p r) o)
    go true a b = b
    go false a b = a

more_number : (f k h b : ℕ) (t : Tree (List ℕ)) (s y : List ℕ) → NumberIn y (got t s)
    → NumberIn y (more f k h b t s)
unfolding more
more_number zero k h b t s y w = tt
more_number (suc f) k h b t s y w =
    step_number y k h (got t s) (operator_at s)
    (λ o r. and_then (expr f (right_level o) b r) (λ z q. more f k (level o) b (two o t z) q)) w
    (λ o r. then_other y (expr f (right_level o) b r) (λ z q. more f k (level o) b (two o t z) q)
    (λ z q. more_number f k (level o) b (two o t z) q y tt))

expr_number : (f k b : ℕ) (s : List ℕ) → NumberIn (past_open s) (expr f k b s)
unfolding expr
expr_number zero k b s = tt
expr_number (suc f) k b s =
    then_number (past_open s) (atom (expr f 0) b s) (λ t r. more f k atom_level b t r)
    (λ t q w. more_number f k atom_level b t q (past_open s) w)
    (atom_number (expr f 0) b s (λ b s. expr_number f 0 b s))

-- the number of a tree that is a single one
pub single_number : (s : List ℕ) (m : ℕ) (q : List ℕ) → read_tree s ≡ hit (num m) q
    → (is_number_word (word (past_open s)) ≡ true) × (m ≡ word_value (word (past_open s)))
unfolding read_tree
single_number s m q = go (expr (suc (length s)) 0 open_most s) (expr_number (suc (length s)) 0 open_most s)
  where
    go : (o : Out) → NumberIn (past_open s) o → of_out o ≡ hit (num m) q
        → (is_number_word (word (past_open s)) ≡ true) × (m ≡ word_value (word (past_open s)))
    go fail h e = let z : ◌≡◌ {A = ℕ} 0 1 = cc in absurd (omega arith)
    go (got t r) h e = let p : t ≡ num m = cc in number t p h
      where
        number : (t : Tree (List ℕ)) → t ≡ num m → NumberTree (past_open s) t
            → (is_number_word (word (past_open s)) ≡ true) × (m ≡ word_value (word (past_open s)))
        number (num n) p h = let u : m ≡ n = cc in (h.0, u ∙ h.1)
        number (read a) p h = let z : ◌≡◌ {A = ℕ} 0 1 = cc in absurd (omega arith)
        number (two o a b) p h = let z : ◌≡◌ {A = ℕ} 0 1 = cc in absurd (omega arith)
        number (negation a) p h = let z : ◌≡◌ {A = ℕ} 0 1 = cc in absurd (omega arith)

-- the code reads it off the word
pub number_at : (s : List ℕ) (at from end : ℕ) → drop from s ≡ past_open (drop at s) → from ≤ end → end ≤ length s
    → drop end s ≡ behind (drop from s) → (r : ℕ)
    → (is_number_word (take (end - from) (drop from s)) ≡ true → r ≡ word_value (take (end - from) (drop from s)))
    → (m : ℕ) (q : List ℕ) → read_tree (drop at s) ≡ hit (num m) q → r ≡ m
number_at s at from end e lo hi b r h m q t =
    let w : take (end - from) (drop from s) ≡ word (past_open (drop at s)) =
    word_part s from end lo hi b ∙ ap word e in
    let x = single_number (drop at s) m q t in
    h (ap is_number_word w ∙ x.0) ∙ ap word_value w ∙ sym x.1
