-- Constraint and condition of a field line: what the reader finds there.
use mathlib.Core.Path.{◌≡◌, refl, ap}
use mathlib.Core.Bool.{Bool, false, not}
use mathlib.Core.Logic.{◌⊎◌, inl, inr}
use mathlib.Core.List.{List, [], ◌∷◌, ◌++◌, append_assoc}
use mathlib.Core.Option.{Option, none, some}
use Prim.Native.Nat.{ℕ}
use Rattle.base.specs.Bytes.{bytes}
use Rattle.base.specs.Lists.{is_none}
use Rattle.rules.specs.Trees.{Tree}
use Rattle.rules.specs.Lines.{SpellsMaybe, Unresolved}
use Rattle.text_laws.specs.Reader.{after}
use Rattle.text_laws.proofs.ReaderComplete.{Stop, stop_semicolon, stop_dot}
use Rattle.text_laws.specs.LineReader.{hit, bind, literal, begins, read_tree, read_phrase}
use Rattle.text_laws.specs.LineReader.{read_maybe, is_condition, is_constraint, read_constraint, read_condition}
use Rattle.text_laws.proofs.Combine.{Holds, holds_cond, holds_bind, literal_sound, literal_finds}
use Rattle.text_laws.proofs.LineTrees.{TreeFront, tree_sound, tree_finds, barren_not, present_barren}

-- ── what may stand behind ──

-- `;` or `.` stands in front
abbrev pub Closes : List ℕ → Type 0
Closes r = ((z : List ℕ) × (r ≡ 59 ∷ z)) ⊎ ((z : List ℕ) × (r ≡ 46 ∷ z))

pub closes_stop : (r : List ℕ) → Closes r → Stop 0 r
closes_stop r (inl (z, e)) = rw e (stop_semicolon 0 z)
closes_stop r (inr (z, e)) = rw e (stop_dot 0 z)

-- a phrase that begins with `;`, or nothing
pub maybe_closes : (phrase : List ℕ) (o : Option (Tree (List ℕ))) (u r : List ℕ)
    → SpellsMaybe Unresolved (59 ∷ phrase) o u → Closes r → Closes (u ++ r)
maybe_closes phrase none u r e c = rw e c
maybe_closes phrase (some t) u r w c = inl ((phrase ++ w.0) ++ r, ap (λ (l : List ℕ). l ++ r) w.1)

-- ── a phrase and an expression ──

-- a phrase and an expression, or nothing, stand in front of s, and r is behind
abbrev pub MaybeFront : List ℕ → List ℕ → Option (Tree (List ℕ)) → List ℕ → Type 0
MaybeFront phrase s o r = (u : List ℕ) × (s ≡ u ++ r) × SpellsMaybe Unresolved phrase o u

phrase_sound : (phrase s : List ℕ) → Holds (MaybeFront phrase s) (read_phrase phrase s)
unfolding read_phrase
phrase_sound phrase s =
    holds_bind (λ _ r. s ≡ phrase ++ r) (MaybeFront phrase s) (literal phrase s)
    (λ _ r. bind (read_tree r) (λ t q. hit (some t) q)) (literal_sound phrase s)
    (λ _ r e. holds_bind (TreeFront r) (MaybeFront phrase s) (read_tree r) (λ t q. hit (some t) q) (tree_sound r)
    (λ t q w. (phrase ++ w.0, spread r q w.0 e w.1, (w.0, refl, w.2))))
  where
    spread : (r q u : List ℕ) → s ≡ phrase ++ r → r ≡ u ++ q → s ≡ (phrase ++ u) ++ q
    spread r q u e f = rw (e, f, append_assoc phrase u q)

pub maybe_sound : (b : Bool) (phrase s : List ℕ) → Holds (MaybeFront phrase s) (read_maybe b phrase s)
unfolding read_maybe
maybe_sound b phrase s =
    holds_cond (MaybeFront phrase s) b (read_phrase phrase s) (hit none s) (λ _. phrase_sound phrase s)
    (λ _. ([], refl, refl))

phrase_finds : (phrase u r : List ℕ) (t : Tree (List ℕ)) → SpellsMaybe Unresolved phrase (some t) u → Stop 0 r
    → read_phrase phrase (u ++ r) ≡ hit (some t) r
unfolding read_phrase
phrase_finds phrase u r t w st =
    let e : u ++ r ≡ phrase ++ (w.0 ++ r) = rw w.1 (append_assoc phrase w.0 r) in
    rw (e, literal_finds phrase (w.0 ++ r), tree_finds t w.0 r w.2 st)

pub maybe_finds : (b : Bool) (phrase : List ℕ) (o : Option (Tree (List ℕ))) (u r : List ℕ)
    → SpellsMaybe Unresolved phrase o u → Stop 0 r → b ≡ not (is_none o) → read_maybe b phrase (u ++ r) ≡ hit o r
unfolding read_maybe
maybe_finds b phrase none u r w st e = rw (e, w)
maybe_finds b phrase (some t) u r w st e = rw e (phrase_finds phrase u r t w st)

-- ── condition ──

condition_there : (o : Option (Tree (List ℕ))) (u r : List ℕ)
    → SpellsMaybe Unresolved (bytes "; present only when ") o u
    → is_condition (u ++ (46 ∷ r)) ≡ not (is_none o)
unfolding is_condition begins after
condition_there none u r e = rw e refl
condition_there (some t) u r w = rw w.1 refl

pub condition_finds : (o : Option (Tree (List ℕ))) (u r : List ℕ)
    → SpellsMaybe Unresolved (bytes "; present only when ") o u → read_condition (u ++ (46 ∷ r)) ≡ hit o (46 ∷ r)
unfolding read_condition
condition_finds o u r w =
    maybe_finds (is_condition (u ++ (46 ∷ r))) (bytes "; present only when ") o u (46 ∷ r) w (stop_dot 0 r)
    (condition_there o u r w)

-- ── constraint ──

-- a condition or the full stop is no constraint
pub no_constraint : (o : Option (Tree (List ℕ))) (u r : List ℕ)
    → SpellsMaybe Unresolved (bytes "; present only when ") o u → is_constraint (u ++ (46 ∷ r)) ≡ false
unfolding is_constraint is_condition begins after
no_constraint none u r e = rw e refl
no_constraint (some t) u r w = rw w.1 refl

constraint_there : (o : Option (Tree (List ℕ))) (u r : List ℕ) → SpellsMaybe Unresolved (bytes "; ") o u → Stop 0 r
    → is_constraint r ≡ false → is_constraint (u ++ r) ≡ not (is_none o)
unfolding is_constraint is_condition begins after
constraint_there none u r e st n = rw e n
constraint_there (some t) u r w st n =
    let e : u ++ r ≡ 59 ∷ 32 ∷ (w.0 ++ r) = ap (λ (l : List ℕ). l ++ r) w.1 in
    rw (e, barren_not (bytes "present only when ") present_barren t w.0 r w.2 st) refl

pub constraint_finds : (o : Option (Tree (List ℕ))) (u r : List ℕ) → SpellsMaybe Unresolved (bytes "; ") o u → Stop 0 r
    → is_constraint r ≡ false → read_constraint (u ++ r) ≡ hit o r
unfolding read_constraint
constraint_finds o u r w st n =
    maybe_finds (is_constraint (u ++ r)) (bytes "; ") o u r w st (constraint_there o u r w st n)
