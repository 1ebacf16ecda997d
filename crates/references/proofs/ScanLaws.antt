-- The code behind a code, and stored trees scanned.
use mathlib.Core.Path.{◌≡◌, refl, ap, sym, ◌∙◌}
use mathlib.Core.Bool.{Bool, true, false, not, ◌&&◌, ◌||◌}
use mathlib.Core.List.{List, [], ◌∷◌, ◌++◌, append_assoc, append-nil}
use Prim.Native.Nat.{ℕ, zero, suc, ◌+◌, ◌≤◌, ◌<◌}
use native.Mathlib.Omega.{arith}
use lib.Dec.{eqb}
use lib.ListN.{length, get_or, drop, drop_of_length-le}
use lib.Seq.{drop-cons, drop-drop}
use borrow.Author.Tests.{ne_eqb}
use Rattle.base.specs.Lists.{any, between, joined}
use Rattle.rules.specs.declared.Op.{Op}
use Rattle.rules.specs.declared.Op.TheVariants.{Or, And, Eq, Ne, Lt, Le, Gt, Ge, Add, Sub, Mul, Div, Rem, Pow}
use Rattle.rules.specs.Operators.{operator, code, is_added, number_code, field_code, not_code}
use Rattle.rules.specs.Trees.{Tree, num, read, two, negation, le4, stored_tree, has_operators}
use Rattle.rules.specs.Stored.{stored_expression}
use Rattle.rules.specs.References.{tree_reads}
use Rattle.references.specs.declared.scans.Wanted.{Wanted}
use Rattle.references.specs.declared.scans.Wanted.TheVariants.{Added, Run}
use Rattle.references.specs.Scans.{behind, codes_from, index_in, references, is_wanted, has_code}

or_false : (a : Bool) → (a || false) ≡ a
or_false true = refl
or_false false = refl

-- ── from one code to the next ──

codes_pass : (n : ℕ) (s : List ℕ) → codes_from n s ≡ codes_from 0 (drop n s)
unfolding codes_from
codes_pass zero [] = refl
codes_pass (suc n) [] = refl
codes_pass zero (c ∷ s) = refl
codes_pass (suc n) (c ∷ s) = codes_pass n s

pub codes_cons : (c : ℕ) (s : List ℕ) → codes_from 0 (c ∷ s) ≡ (c ∷ s) ∷ codes_from 0 (drop (behind c) s)
unfolding codes_from
codes_cons c s = ap (λ (l : List (List ℕ)). (c ∷ s) ∷ l) (codes_pass (behind c) s)

-- the next code stands behind as many bytes
pub codes_next : (s : List ℕ) (at b r : ℕ) → at < length s → behind (get_or s at 0) ≡ b
    → drop (suc at + b) s ≡ drop r s → codes_from 0 (drop at s) ≡ drop at s ∷ codes_from 0 (drop r s)
codes_next s at b r lt e f =
    rw (drop-cons s at 0 lt, codes_cons (get_or s at 0) (drop (suc at) s), e, drop-drop b (suc at) s, f)

-- or there is none
pub codes_last : (s : List ℕ) (at b : ℕ) → at < length s → behind (get_or s at 0) ≡ b → length s ≤ suc at + b
    → codes_from 0 (drop at s) ≡ drop at s ∷ codes_from 0 (drop (length s) s)
codes_last s at b lt e le =
    codes_next s at b (length s) lt e
    (drop_of_length-le s {i = suc at + b} le ∙ sym (drop_of_length-le s {i = length s} (omega arith)))

pub behind_number : (c : ℕ) → c ≡ 1 → behind c ≡ 4
unfolding behind
behind_number c e = rw e refl

pub behind_field : (c : ℕ) → c ≡ 2 → behind c ≡ 1
unfolding behind
behind_field c e = rw e refl

pub behind_other : (c : ℕ) → (c ≡ 1 → ⊥) → (c ≡ 2 → ⊥) → behind c ≡ 0
unfolding behind
behind_other c e f = rw (ne_eqb c 1 e, ne_eqb c 2 f)

-- ── what a code reads ──

index_none : (c : ℕ) (s : List ℕ) → eqb c field_code ≡ false → index_in (c ∷ s) ≡ []
unfolding index_in
index_none c [] e = refl
index_none c (i ∷ s) e = rw e

refs_cons : (c : ℕ) (s : List ℕ) → references (c ∷ s) ≡ index_in (c ∷ s) ++ references (drop (behind c) s)
unfolding references joined
refs_cons c s = ap (λ (l : List (List ℕ)). joined index_in l) (codes_cons c s)

has_cons : (w : Wanted) (c : ℕ) (s : List ℕ)
    → has_code w (c ∷ s) ≡ (is_wanted w (c ∷ s) || has_code w (drop (behind c) s))
unfolding has_code any
has_cons w c s = ap (λ (l : List (List ℕ)). any (is_wanted w) l) (codes_cons c s)

pub codes_none : (s : List ℕ) → length s ≡ 0 → codes_from 0 s ≡ []
unfolding codes_from
codes_none [] e = refl
codes_none (c ∷ s) e = absurd (omega arith)

-- ── at a code ──

pub index_field : (s : List ℕ) → 1 < length s → get_or s 0 0 ≡ 2 → index_in s ≡ get_or s 1 0 ∷ []
unfolding index_in
index_field [] lt e = absurd (omega arith)
index_field (c ∷ []) lt e = absurd (omega arith)
index_field (c ∷ i ∷ s) lt e = rw e refl

pub index_other : (s : List ℕ) → (1 < length s → get_or s 0 0 ≡ 2 → ⊥) → index_in s ≡ []
unfolding index_in
index_other [] n = refl
index_other (c ∷ []) n = refl
index_other (c ∷ i ∷ s) n = rw (ne_eqb c 2 (n (omega arith))) refl

-- a field of a run is read by its code
pub run_field : (first last i : ℕ) (s : List ℕ) → index_in s ≡ i ∷ []
    → is_wanted (Run first last) s ≡ between first i last
unfolding any
run_field first last i s e = rw e (or_false (between first i last))

pub run_other : (first last : ℕ) (s : List ℕ) → index_in s ≡ [] → is_wanted (Run first last) s ≡ false
unfolding any
run_other first last s e = rw e refl

-- ── stored trees ──

pub op_codes : (o : Op) → (behind (code o) ≡ 0) × (eqb (code o) field_code ≡ false)
unfolding behind operator
op_codes Or = (refl, refl)
op_codes And = (refl, refl)
op_codes Eq = (refl, refl)
op_codes Ne = (refl, refl)
op_codes Lt = (refl, refl)
op_codes Le = (refl, refl)
op_codes Gt = (refl, refl)
op_codes Ge = (refl, refl)
op_codes Add = (refl, refl)
op_codes Sub = (refl, refl)
op_codes Mul = (refl, refl)
op_codes Div = (refl, refl)
op_codes Rem = (refl, refl)
op_codes Pow = (refl, refl)

refs_front : (t : Tree ℕ) (r : List ℕ) → references (stored_expression t ++ r) ≡ tree_reads t ++ references r
unfolding stored_tree le4 tree_reads behind index_in
refs_front (num n) r = refs_cons number_code (le4 n ++ r)
refs_front (read i) r = refs_cons field_code (i ∷ r)
refs_front (two o a b) r =
    let s = stored_expression a in
    let u = stored_expression b in
    refs_cons (code o) ((s ++ u) ++ r)
    ∙ rw (
      index_none (code o) ((s ++ u) ++ r) (op_codes o).1,
      (op_codes o).0,
      append_assoc s u r,
      refs_front a (u ++ r),
      refs_front b r,
    )
    (sym (append_assoc (tree_reads a) (tree_reads b) (references r)))
refs_front (negation a) r =
    refs_cons not_code (stored_expression a ++ r)
    ∙ rw (index_none not_code (stored_expression a ++ r) refl) (refs_front a r)

pub references_stored : (t : Tree ℕ) → references (stored_expression t) ≡ tree_reads t
unfolding references codes_from joined
references_stored t =
    ap references (sym (append-nil (stored_expression t))) ∙ refs_front t [] ∙ append-nil (tree_reads t)

-- ── what is found in them ──

-- an operator, and what is in its operands
either : (p x y z : Bool) → (p || (not x || (not y || z))) ≡ (not (not p && (x && y)) || z)
either true x y z = refl
either false true y z = refl
either false false y z = refl

added_front : (t : Tree ℕ) (r : List ℕ)
    → has_code Added (stored_expression t ++ r) ≡ (not (has_operators (λ o. not (is_added o)) t) || has_code Added r)
unfolding stored_tree le4 has_operators behind
added_front (num n) r = has_cons Added number_code (le4 n ++ r)
added_front (read i) r = has_cons Added field_code (i ∷ r)
added_front (two o a b) r =
    let s = stored_expression a in
    let u = stored_expression b in
    let knows = has_operators (λ o. not (is_added o)) in
    has_cons Added (code o) ((s ++ u) ++ r)
    ∙ rw ((op_codes o).0, append_assoc s u r, added_front a (u ++ r), added_front b r)
    (either (is_added o) (knows a) (knows b) (has_code Added r))
added_front (negation a) r = has_cons Added not_code (stored_expression a ++ r) ∙ added_front a r

pub any_append : {A : Type 0} (p : A → Bool) (l m : List A) → any p (l ++ m) ≡ (any p l || any p m)
unfolding any
any_append p [] m = refl
any_append p (x ∷ l) m = ap (λ (b : Bool). p x || b) (any_append p l m) ∙ or_assoc (p x) (any p l) (any p m)
  where
    or_assoc : (a b c : Bool) → (a || (b || c)) ≡ ((a || b) || c)
    or_assoc true b c = refl
    or_assoc false b c = refl

pub any_joined : {A : Type 0} (p : ℕ → Bool) (f : A → List ℕ) (l : List A)
    → any (λ x. any p (f x)) l ≡ any p (joined f l)
unfolding any joined
any_joined p f [] = refl
any_joined p f (x ∷ l) =
    ap (λ (b : Bool). any p (f x) || b) (any_joined p f l) ∙ sym (any_append p (f x) (joined f l))

-- the tree has what is looked for
abbrev pub tree_has : Wanted → Tree ℕ → Bool
tree_has Added t = not (has_operators (λ o. not (is_added o)) t)
tree_has (Run first last) t = any (λ i. between first i last) (tree_reads t)

pub has_stored : (w : Wanted) (t : Tree ℕ) → has_code w (stored_expression t) ≡ tree_has w t
unfolding has_code codes_from references any
has_stored Added t =
    ap (has_code Added) (sym (append-nil (stored_expression t)))
    ∙ added_front t []
    ∙ or_false (not (has_operators (λ o. not (is_added o)) t))
has_stored (Run first last) t =
    any_joined (λ i. between first i last) index_in (codes_from 0 (stored_expression t))
    ∙ ap (any (λ i. between first i last)) (references_stored t)
