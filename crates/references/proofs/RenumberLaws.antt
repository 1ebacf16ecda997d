-- Stored expressions with other indexes, code by code, and of stored trees.
use mathlib.Core.Path.{◌≡◌, refl, ap, sym, ◌∙◌}
use mathlib.Core.Bool.{Bool, true, false}
use mathlib.Core.List.{List, [], ◌∷◌, ◌++◌, append_assoc, append-nil}
use Prim.Native.Nat.{ℕ, zero, suc, ◌+◌, ◌≤◌, ◌<◌}
use native.Mathlib.Omega.{arith}
use lib.Dec.{eqb}
use lib.ListN.{length, get_or, take, drop, set, length-append, length-drop, take-append-drop, drop_of_length-le}
use lib.Seq.{drop-cons, drop-drop, take-suc, take-add, take-suc-set, drop-set-lt}
use borrow.Author.Tests.{ne_eqb}
use Rattle.laws.proofs.Numbers.{front_same}
use Rattle.rules.specs.Operators.{code, number_code, field_code, not_code}
use Rattle.rules.specs.Trees.{Tree, num, read, two, negation, le4, stored_tree}
use Rattle.rules.specs.Stored.{stored_expression}
use Rattle.rules.specs.Edits.{renumbered_tree}
use Rattle.laws.proofs.RenumberedLaws.{stored_mapped}
use Rattle.references.specs.Scans.{behind, codes_from}
use Rattle.references.specs.Renumbered.{renumbered_from, renumbered_bytes}
use Rattle.references.proofs.ScanLaws.{codes_cons, behind_field, op_codes}

-- ── bytes passed over ──

renumbered_pass : (g : ℕ → ℕ) (n : ℕ) (s : List ℕ)
    → renumbered_from g false n s ≡ take n s ++ renumbered_bytes g (drop n s)
unfolding renumbered_from
renumbered_pass g zero s = refl
renumbered_pass g (suc n) [] = refl
renumbered_pass g (suc n) (b ∷ s) = ap (λ (l : List ℕ). b ∷ l) (renumbered_pass g n s)

at_code : (g : ℕ → ℕ) (b : Bool) (s : List ℕ) → renumbered_from g b 0 s ≡ renumbered_bytes g s
unfolding renumbered_from
at_code g b [] = refl
at_code g b (c ∷ s) = refl

-- a field's code and its index, and another code
field_cons : (g : ℕ → ℕ) (i : ℕ) (s : List ℕ)
    → renumbered_bytes g (field_code ∷ i ∷ s) ≡ field_code ∷ g i ∷ renumbered_bytes g s
unfolding renumbered_from behind
field_cons g i s = ap (λ (l : List ℕ). field_code ∷ g i ∷ l) (at_code g true s)

other_cons : (g : ℕ → ℕ) (c : ℕ) (s : List ℕ) → eqb c field_code ≡ false
    → renumbered_bytes g (c ∷ s) ≡ c ∷ (take (behind c) s ++ renumbered_bytes g (drop (behind c) s))
unfolding renumbered_from
other_cons g c s e = rw e (ap (λ (l : List ℕ). c ∷ l) (renumbered_pass g (behind c) s))

-- ── at a place ──

-- codes tell the bytes that they are from
codes_same : (l m : List ℕ) → codes_from 0 l ≡ codes_from 0 m → l ≡ m
unfolding codes_from
codes_same [] [] h = refl
codes_same [] (y ∷ m) h = absurd (let z : ◌≡◌ {A = ℕ} 0 _ = ap length h in omega (arith, z))
codes_same (x ∷ l) [] h = absurd (let z : ◌≡◌ {A = ℕ} _ 0 = ap length h in omega (arith, z))
codes_same (x ∷ l) (y ∷ m) h = ap (λ (k : List (List ℕ)). get_or k 0 []) h

-- the next code stands behind as many bytes
next_place : (s : List ℕ) (at r : ℕ) → at < length s
    → codes_from 0 (drop at s) ≡ drop at s ∷ codes_from 0 (drop r s)
    → drop r s ≡ drop (suc at + behind (get_or s at 0)) s
next_place s at r lt e =
    let c = get_or s at 0 in
    let d = drop-cons s at 0 lt in
    let f : codes_from 0 (drop at s) ≡ drop at s ∷ codes_from 0 (drop (behind c) (drop (suc at) s)) =
    rw d (codes_cons c (drop (suc at) s)) in
    let h : codes_from 0 (drop r s) ≡ codes_from 0 (drop (behind c) (drop (suc at) s)) =
    ap (λ (k : List (List ℕ)). drop 1 k) (sym e ∙ f) in
    codes_same (drop r s) _ h ∙ drop-drop (behind c) (suc at) s

-- bytes before two places behind which the same stands
take_same : (s : List ℕ) (a b : ℕ) → drop a s ≡ drop b s → take a s ≡ take b s
take_same s a b e =
    let x = take-append-drop a s in
    let y = take-append-drop b s in
    let n : length (take a s) ≡ length (take b s) =
    omega (
      arith,
      ap length e,
      ap length x,
      ap length y,
      length-append (take a s) (drop a s),
      length-append (take b s) (drop b s),
    ) in
    (front_same (take a s) (take b s) (drop a s) (drop b s) n (x ∙ sym y)).0

module _ (g : ℕ → ℕ) (s : List ℕ) (at : ℕ) (lt : at < length s) where
  -- behind a code that is no field's
  pub renumber_other : (r : ℕ) → (get_or s at 0 ≡ 2 → ⊥) → codes_from 0 (drop at s) ≡ drop at s ∷ codes_from 0
      (drop r s)
      → take at s ++ renumbered_bytes g (drop at s) ≡ take r s ++ renumbered_bytes g (drop r s)
  renumber_other r n e =
      let c = get_or s at 0 in
      let b = behind c in
      let d = next_place s at r lt e in
      let front : take r s ≡ (take at s ++ (c ∷ [])) ++ take b (drop (suc at) s) =
      take_same s r (suc at + b) d
      ∙ take-add (suc at) b s
      ∙ ap (λ (l : List ℕ). l ++ take b (drop (suc at) s)) (take-suc s at 0 lt) in
      let back : drop r s ≡ drop b (drop (suc at) s) = d ∙ sym (drop-drop b (suc at) s) in
      rw (front, back, drop-cons s at 0 lt, other_cons g c (drop (suc at) s) (ne_eqb c 2 n))
      (sym (append_assoc (take at s ++ (c ∷ [])) (take b (drop (suc at) s)) _ ∙ append_assoc (take at s) (c ∷ []) _))

  -- behind a field's code and its index, which is put there
  pub renumber_field : (r v : ℕ) → at + 1 < length s → r ≤ length s → get_or s at 0 ≡ 2
      → codes_from 0 (drop at s) ≡ drop at s ∷ codes_from 0 (drop r s) → v ≡ g (get_or s (at + 1) 0)
      → take at s ++ renumbered_bytes g (drop at s)
      ≡ take r (set s (at + 1) v) ++ renumbered_bytes g (drop r (set s (at + 1) v))
  renumber_field r v more le c e w =
      let i = get_or s (suc at) 0 in
      let d : drop r s ≡ drop (suc at + 1) s =
      next_place s at r lt e ∙ ap (λ (b : ℕ). drop (suc at + b) s) (behind_field (get_or s at 0) c) in
      let two_more : r ≡ suc (suc at) = omega (arith, ap length d, length-drop r s, length-drop (suc at + 1) s) in
      let one : at + 1 ≡ suc at = omega arith in
      let next : suc at < length s = omega arith in
      let here : drop at s ≡ field_code ∷ i ∷ drop (suc (suc at)) s =
      drop-cons s at 0 lt
      ∙ ap (λ (x : ℕ). x ∷ drop (suc at) s) c
      ∙ ap (λ (l : List ℕ). field_code ∷ l) (drop-cons s (suc at) 0 next) in
      let value : v ≡ g i = w ∙ ap (λ (k : ℕ). g (get_or s k 0)) one in
      let front : take (suc (suc at)) (set s (suc at) (g i)) ≡ (take at s ++ (field_code ∷ [])) ++ (g i ∷ []) =
      take-suc-set s (suc at) (g i) next
      ∙ ap (λ (l : List ℕ). l ++ (g i ∷ [])) (take-suc s at 0 lt ∙ ap (λ (x : ℕ). take at s ++ (x ∷ [])) c) in
      let back : drop (suc (suc at)) (set s (suc at) (g i)) ≡ drop (suc (suc at)) s =
      drop-set-lt (suc (suc at)) s (suc at) (g i) (omega arith) in
      rw (one, value, two_more, front, back, here, field_cons g i (drop (suc (suc at)) s))
      (sym (append_assoc (take at s ++ (field_code ∷ [])) (g i ∷ []) _ ∙ append_assoc (take at s) (field_code ∷ []) _))

  -- a last code without what comes behind it
  pub renumber_cut : length s ≤ at + 1 → take at s ++ renumbered_bytes g (drop at s) ≡ s
  unfolding renumbered_from
  renumber_cut le =
      let z : drop (suc at) s ≡ [] = drop_of_length-le s {i = suc at} (omega arith) in
      let d : drop at s ≡ get_or s at 0 ∷ [] = drop-cons s at 0 lt ∙ ap (λ (l : List ℕ). get_or s at 0 ∷ l) z in
      rw d (sym (ap (λ (l : List ℕ). take at s ++ l) d) ∙ take-append-drop at s)

pub renumber_end : (g : ℕ → ℕ) (s : List ℕ) (at : ℕ) → length s ≤ at
    → take at s ++ renumbered_bytes g (drop at s) ≡ s
unfolding renumbered_from
renumber_end g s at le =
    let z : drop at s ≡ [] = drop_of_length-le s {i = at} le in
    let w : take at s ++ drop at s ≡ s = take-append-drop at s in
    rw z (rw z at w)

-- ── stored trees ──

renumber_front : (g : ℕ → ℕ) (t : Tree ℕ) (r : List ℕ)
    → renumbered_bytes g (stored_expression t ++ r) ≡ stored_tree g t ++ renumbered_bytes g r
unfolding stored_tree le4 behind
renumber_front g (num n) r = other_cons g number_code (le4 n ++ r) refl
renumber_front g (read i) r = field_cons g i r
renumber_front g (two o a b) r =
    let s = stored_expression a in
    let u = stored_expression b in
    other_cons g (code o) ((s ++ u) ++ r) (op_codes o).1
    ∙ rw ((op_codes o).0, append_assoc s u r, renumber_front g a (u ++ r), renumber_front g b r)
    (ap (λ (l : List ℕ). code o ∷ l) (sym (append_assoc (stored_tree g a) (stored_tree g b) (renumbered_bytes g r))))
renumber_front g (negation a) r =
    other_cons g not_code (stored_expression a ++ r) refl
    ∙ ap (λ (l : List ℕ). not_code ∷ l) (renumber_front g a r)

pub renumber_stored : (g : ℕ → ℕ) (t : Tree ℕ)
    → renumbered_bytes g (stored_expression t) ≡ stored_expression (renumbered_tree g t)
unfolding renumbered_from
renumber_stored g t =
    ap (renumbered_bytes g) (sym (append-nil (stored_expression t)))
    ∙ renumber_front g t []
    ∙ append-nil (stored_tree g t)
    ∙ sym (stored_mapped g t)
