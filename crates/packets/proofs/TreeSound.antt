-- What a check finds is a tree of that type that stands there.
use mathlib.Core.Path.{◌≡◌, refl, subst, subst₂}
use mathlib.Core.Bool.{Bool, true, false, cond}
use mathlib.Core.List.{List, [], ◌∷◌}
use Prim.Native.Nat.{ℕ, zero, suc, ◌+◌, ◌-◌, ◌<◌, ◌≤◌}
use native.Mathlib.Omega.{arith}
use lib.Dec.{ltb}
use lib.ListN.{length, get_or}
use borrow.Author.Tests.{le-leb, ltb-true, ltb-false}
use Rattle.laws.specs.Places.{Stands, IsBytes, four_at}
use Rattle.base.proofs.Lists.{and_both}
use Rattle.laws.proofs.Places.{stands_none, stands_front, stands_join, four_below}
use Rattle.laws.proofs.PlacesOfNumbers.{four_stands}
use Rattle.rules.specs.declared.Op.{Op}
use Rattle.rules.specs.declared.ValueType.{ValueType}
use Rattle.rules.specs.declared.ValueType.TheVariants.{Number, YesNo}
use Rattle.rules.specs.Limits.{number_most}
use Rattle.rules.specs.Operators.{code, takes, gives, number_code, field_code, not_code}
use Rattle.rules.specs.Trees.{Tree, num, read, two, negation, le4, depth, stored_tree, is_in_range, same_type, has_type}
use Rattle.rules.specs.Stored.{stored_expression}
use Rattle.packets.specs.declared.trees.Cursor.{Cursor}
use Rattle.operators.specs.declared.codes.Code.{Code}
use Rattle.operators.specs.Codes.{code_of}
use Rattle.packets.specs.declared.trees.Checked.{Checked}
use Rattle.packets.specs.declared.trees.Checked.TheVariants.{Typed, Bad}
use Rattle.packets.specs.StoredTrees.{cursor, marked, check_number, check_field, check_not, check_two}
use Rattle.packets.specs.StoredTrees.{on_tree, check_code, check_at}
use Rattle.operators.proofs.CodeLaws.{Codes, codes}
use Rattle.packets.proofs.TreeTypes.{same_type_true, same_type_self}

-- what a check promises of the tree that it found
abbrev pub Found : ℕ → List ℕ → List ℕ → ℕ → ValueType → Cursor → Type 0
Found d s marks at ty c =
    (t : Tree ℕ)
    × (has_type (marked marks) ty t ≡ true)
    × (is_in_range t ≡ true)
    × (depth t ≤ d)
    × Stands s at (stored_expression t) c.at
    × (c.at ≤ length s)

clash : (k : ValueType) (c : Cursor) → Bad ≡ Typed k c → ⊥
clash k c h = let z : ◌≡◌ {A = ℕ} 0 1 = cc in omega arith

-- the type and the place that a check names
moved : (d : ℕ) (s marks : List ℕ) (at : ℕ) (k ty : ValueType) (n c : Cursor)
    → Typed k n ≡ Typed ty c → Found d s marks at k n → Found d s marks at ty c
moved d s marks at k ty n c h w =
    let e : k ≡ ty = cc in
    let f : n ≡ c = cc in
    subst₂ (λ (j : ValueType) (m : Cursor). Found d s marks at j m) e f w

-- ── numbers and fields ──

number_found : (d : ℕ) (s marks : List ℕ) (at : ℕ) → IsBytes s → get_or s at 0 ≡ number_code → at + 4 < length s
    → Found (suc d) s marks at Number (cursor (at + 5))
unfolding stored_tree depth is_in_range has_type
number_found d s marks at bs e lt =
    let n = four_at s (at + 1) in
    let most : n ≤ number_most = omega (arith, four_below s (at + 1) bs) in
    let five : at + 5 ≡ at + 1 + 4 = omega arith in
    let four : Stands s (at + 1) (le4 n) (at + 5) = rw five (four_stands s (at + 1) bs (omega arith)) in (
      num n,
      refl,
      le-leb n number_most most,
      omega arith,
      stands_front s at (at + 1) (at + 5) number_code (le4 n) (omega arith) refl e four,
      omega arith,
    )

sound_number : (d : ℕ) (s marks : List ℕ) (at : ℕ) (ty : ValueType) (c : Cursor) → IsBytes s → at < length s
    → get_or s at 0 ≡ number_code → check_number s at ≡ Typed ty c → Found (suc d) s marks at ty c
sound_number d s marks at ty c bs lt e h = go (ltb (length s - at) 5) refl h
  where
    go : (b : Bool) → ltb (length s - at) 5 ≡ b
        → cond b Bad (Typed Number (cursor (at + 5))) ≡ Typed ty c
        → Found (suc d) s marks at ty c
    go true f g = absurd (clash ty c g)
    go false f g = moved (suc d) s marks at Number ty (cursor (at + 5)) c g
        (number_found d s marks at bs e (omega (arith, ltb-false (length s - at) 5 f)))

field_found : (d : ℕ) (s marks : List ℕ) (at : ℕ) → get_or s at 0 ≡ field_code → at + 1 < length s
    → marked marks (get_or s (at + 1) 0) ≡ true → Found (suc d) s marks at Number (cursor (at + 2))
unfolding stored_tree depth is_in_range has_type
field_found d s marks at e lt f =
    let i = get_or s (at + 1) 0 in (
      read i,
      f,
      refl,
      omega arith,
      stands_front s at (at + 1) (at + 2) field_code (i ∷ []) (omega arith) refl e
          (stands_front s (at + 1) (at + 2) (at + 2) i [] lt (omega arith) refl (stands_none s (at + 2))),
      omega arith,
    )

sound_field : (d : ℕ) (s marks : List ℕ) (at : ℕ) (ty : ValueType) (c : Cursor) → at < length s
    → get_or s at 0 ≡ field_code → check_field s marks at ≡ Typed ty c → Found (suc d) s marks at ty c
sound_field d s marks at ty c lt e h = go (ltb (length s - at) 2) (marked marks (get_or s (at + 1) 0)) refl refl h
  where
    go : (b m : Bool) → ltb (length s - at) 2 ≡ b → marked marks (get_or s (at + 1) 0) ≡ m
        → cond b Bad (cond m (Typed Number (cursor (at + 2))) Bad) ≡ Typed ty c
        → Found (suc d) s marks at ty c
    go true m f f' g = absurd (clash ty c g)
    go false true f f' g = moved (suc d) s marks at Number ty (cursor (at + 2)) c g
        (field_found d s marks at e (omega (arith, ltb-false (length s - at) 2 f)) f')
    go false false f f' g = absurd (clash ty c g)

-- ── operands ──

not_found : (d : ℕ) (s marks : List ℕ) (at : ℕ) (c : Cursor) → at < length s → get_or s at 0 ≡ not_code
    → Found d s marks (at + 1) YesNo c → Found (suc d) s marks at YesNo c
unfolding stored_tree depth is_in_range has_type
not_found d s marks at c lt e w = (
  negation w.0,
  w.1,
  w.2,
  omega (arith, w.3),
  stands_front s at (at + 1) c.at not_code (stored_expression w.0) lt refl e w.4,
  w.5,
)

sound_not : (d : ℕ) (s marks : List ℕ) (at : ℕ) (ty : ValueType) (c : Cursor) → at < length s
    → get_or s at 0 ≡ not_code → (r : Checked)
    → ((k : ValueType) (n : Cursor) → r ≡ Typed k n → Found d s marks (at + 1) k n)
    → on_tree r check_not ≡ Typed ty c → Found (suc d) s marks at ty c
sound_not d s marks at ty c lt e (Typed Number n) ih h = absurd (clash ty c h)
sound_not d s marks at ty c lt e (Typed YesNo n) ih h =
    moved (suc d) s marks at YesNo ty n c h (not_found d s marks at n lt e (ih YesNo n refl))
sound_not d s marks at ty c lt e Bad ih h = absurd (clash ty c h)

two_found : (d : ℕ) (s marks : List ℕ) (at : ℕ) (o : Op) (mid c : Cursor) → at < length s → get_or s at 0 ≡ code o
    → Found d s marks (at + 1) (takes o) mid → Found d s marks mid.at (takes o) c
    → Found (suc d) s marks at (gives o) c
unfolding stored_tree depth is_in_range has_type
two_found d s marks at o mid c lt e u v =
    let l = stored_expression u.0 in
    let r = stored_expression v.0 in (
      two o u.0 v.0,
      and_both _ _ (same_type_self (gives o)) (and_both _ _ u.1 v.1),
      and_both _ _ u.2 v.2,
      omega (arith, u.3, v.3),
      stands_front s at (at + 1) c.at (code o) _ lt refl e
          (stands_join s (at + 1) mid.at c.at l r u.4 v.4),
      v.5,
    )

joins : (o : Op) (a b : ValueType) (n : Cursor) (ty : ValueType) (c : Cursor) → check_two o a b n ≡ Typed ty c
    → (a ≡ takes o) × (b ≡ takes o) × (Typed (gives o) n ≡ Typed ty c)
joins o a b n ty c h = go (same_type a (takes o)) (same_type b (takes o)) refl refl h
  where
    go : (p q : Bool) → same_type a (takes o) ≡ p → same_type b (takes o) ≡ q
        → cond p (cond q (Typed (gives o) n) Bad) Bad ≡ Typed ty c
        → (a ≡ takes o) × (b ≡ takes o) × (Typed (gives o) n ≡ Typed ty c)
    go true true f g x = (same_type_true a (takes o) f, same_type_true b (takes o) g, x)
    go true false f g x = absurd (clash ty c x)
    go false q f g x = absurd (clash ty c x)

sound_right : (d : ℕ) (s marks : List ℕ) (at : ℕ) (o : Op) (ty : ValueType) (c : Cursor) → at < length s
    → get_or s at 0 ≡ code o → (a : ValueType) (mid : Cursor) → Found d s marks (at + 1) a mid → (r : Checked)
    → ((k : ValueType) (n : Cursor) → r ≡ Typed k n → Found d s marks mid.at k n)
    → on_tree r (λ b n. check_two o a b n) ≡ Typed ty c → Found (suc d) s marks at ty c
sound_right d s marks at o ty c lt e a mid u (Typed b n) ih h =
    let w = joins o a b n ty c h in
    let left = subst (λ (k : ValueType). Found d s marks (at + 1) k mid) w.0 u in
    let right = subst (λ (k : ValueType). Found d s marks mid.at k n) w.1 (ih b n refl) in
    moved (suc d) s marks at (gives o) ty n c w.2 (two_found d s marks at o mid n lt e left right)
sound_right d s marks at o ty c lt e a mid u Bad ih h = absurd (clash ty c h)

sound_left : (d : ℕ) (s marks : List ℕ) (at : ℕ) (o : Op) (ty : ValueType) (c : Cursor) → at < length s
    → get_or s at 0 ≡ code o → (check : ℕ → Checked)
    → ((p : ℕ) (k : ValueType) (n : Cursor) → check p ≡ Typed k n → Found d s marks p k n)
    → (r : Checked) → check (at + 1) ≡ r
    → on_tree r (λ a mid. on_tree (check mid.at) (λ b n. check_two o a b n)) ≡ Typed ty c
    → Found (suc d) s marks at ty c
sound_left d s marks at o ty c lt e check ih (Typed a mid) f h =
    sound_right d s marks at o ty c lt e a mid (ih (at + 1) a mid f) (check mid.at) (ih mid.at) h
sound_left d s marks at o ty c lt e check ih Bad f h = absurd (clash ty c h)

-- ── the whole ──

sound_code : (d : ℕ) (s marks : List ℕ) (at : ℕ) (k : Code) (ty : ValueType) (c : Cursor) → IsBytes s → at < length s
    → Codes (get_or s at 0) k → (check : ℕ → Checked)
    → ((p : ℕ) (j : ValueType) (n : Cursor) → check p ≡ Typed j n → Found d s marks p j n)
    → check_code k check s marks at ≡ Typed ty c → Found (suc d) s marks at ty c
sound_code d s marks at Code.Number ty c bs lt e check ih h = sound_number d s marks at ty c bs lt e h
sound_code d s marks at Code.Field ty c bs lt e check ih h = sound_field d s marks at ty c lt e h
sound_code d s marks at (Code.Two o) ty c bs lt e check ih h =
    sound_left d s marks at o ty c lt e check ih (check (at + 1)) refl h
sound_code d s marks at Code.Not ty c bs lt e check ih h =
    sound_not d s marks at ty c lt e (check (at + 1)) (ih (at + 1)) h
sound_code d s marks at Code.Other ty c bs lt e check ih h = absurd (clash ty c h)

pub check_sound : (d : ℕ) (s marks : List ℕ) (at : ℕ) (ty : ValueType) (c : Cursor) → IsBytes s
    → check_at d s marks at ≡ Typed ty c
    → (t : Tree ℕ)
    × (has_type (marked marks) ty t ≡ true)
    × (is_in_range t ≡ true)
    × (depth t ≤ d)
    × Stands s at (stored_expression t) c.at
    × (c.at ≤ length s)
unfolding check_at
check_sound zero s marks at ty c bs h = absurd (clash ty c h)
check_sound (suc d) s marks at ty c bs h =
    go (λ p k n. check_sound d s marks p k n bs) (ltb at (length s)) refl h
  where
    go : ((p : ℕ) (k : ValueType) (n : Cursor) → check_at d s marks p ≡ Typed k n → Found d s marks p k n)
        → (b : Bool) → ltb at (length s) ≡ b
        → cond b (check_code (code_of (get_or s at 0)) (check_at d s marks) s marks at) Bad ≡ Typed ty c
        → Found (suc d) s marks at ty c
    go ih true e g = sound_code d s marks at (code_of (get_or s at 0)) ty c bs (ltb-true at (length s) e)
        (codes (get_or s at 0)) (check_at d s marks) ih g
    go ih false e g = absurd (clash ty c g)
