-- What putting in builds: the candidate of the records, which is a table but for its numbers where they join.
use mathlib.Core.Path.{◌≡◌, refl, sym, ap, ap₂, ◌∙◌}
use mathlib.Core.Bool.{Bool, true, false, cond}
use mathlib.Core.List.{List, [], ◌∷◌, ◌++◌, map, append_assoc}
use Prim.Native.Nat.{ℕ, zero, suc, ◌+◌, ◌-◌, ◌%◌, ◌<◌, ◌≤◌}
use native.Mathlib.Omega.{arith}
use lib.Dec.{ltb}
use lib.ListN.{length, take, drop, length-append, length-drop, take-append-drop}
use lib.Seq.{length-take-le, take_at}
use Rattle.base.specs.Lists.{all}
use Rattle.base.proofs.Lists.{all_front, all_back}
use Rattle.laws.specs.Places.{two_at}
use Rattle.laws.proofs.Whole.{is_sound, within_sound, sound_kept}
use Rattle.laws.proofs.ReadsBelow.{reads_below, fields_alike}
use Rattle.laws.proofs.PutCandidate.{moved, candidate}
use Rattle.rules.specs.Limits.{fields_most}
use Rattle.rules.specs.Fields.{Field, Description}
use Rattle.rules.specs.References.{field_reads, readers}
use Rattle.rules.specs.Edits.{renumbered, opened}
use Rattle.rules.specs.Stored.{record_of, records, head_body, Good}
use Rattle.references.specs.declared.renumbering.Shift.{Shift}
use Rattle.references.specs.Renumbered.{new_index}
use Rattle.writing.specs.Puts.{placed, put}
use Rattle.writing.specs.Writes.{Writes}
use Rattle.packets.specs.Parts.{table_most}
use Rattle.packets.specs.Lookups.{place_from}
use Rattle.packets.specs.Shifts.{shifted_from}
use Rattle.packets.specs.EditSteps.{start_with, MayPut}
use Rattle.packets.proofs.TableHead.{head_first, head_count}
use Rattle.packets.proofs.EditWrites.{more_put, rest_of, in_front_lem}
use Rattle.packets.proofs.EditBytes.{
  head_with,
  head_stays,
  parted,
  place_is,
  behind_place,
  start_is,
  place_bounds,
}
use Rattle.packets.proofs.ShiftLaws.{renumbered_length, shifted_stored}

take_map : (f : Field ℕ → Field ℕ) (n : ℕ) (l : List (Field ℕ)) → take n (map f l) ≡ map f (take n l)
take_map f zero l = refl
take_map f (suc n) [] = refl
take_map f (suc n) (x ∷ l) = ap (λ (r : List (Field ℕ)). f x ∷ r) (take_map f n l)

drop_map : (f : Field ℕ → Field ℕ) (n : ℕ) (l : List (Field ℕ)) → drop n (map f l) ≡ map f (drop n l)
drop_map f zero l = refl
drop_map f (suc n) [] = refl
drop_map f (suc n) (x ∷ l) = drop_map f n l

-- a test of each field holds of those before and behind a place
all_parts : (p : Field ℕ → Bool) (at : ℕ) (fs : List (Field ℕ)) → all p fs ≡ true
    → (all p (take at fs) ≡ true) × (all p (drop at fs) ≡ true)
all_parts p at fs h =
    let w : all p (take at fs ++ drop at fs) ≡ true = rw (take-append-drop at fs) h in
    (all_front p (take at fs) (drop at fs) w, all_back p (take at fs) (drop at fs) w)

-- in one byte an index goes up by few fields
up_alike : (at n i : ℕ) → i + n < 256 → new_index (Shift.Up at n) i ≡ opened at n i
unfolding new_index opened
up_alike at n i byte = go (ltb i at)
  where
    go : (b : Bool) → cond b i (i + n) % 256 ≡ cond b i (i + n)
    go true = omega arith
    go false = omega arith

module _ (table : List ℕ) (good : Good table) (at k : ℕ) (bytes : List ℕ)
    (inside : at ≤ length good.description.fields)
  where
    abbrev d : Description
    d = good.description

    abbrev fs : List (Field ℕ)
    fs = d.fields

    abbrev numbers : ℕ → ℕ
    numbers = readers fs

    abbrev xs : List (Field ℕ)
    xs = take at fs

    abbrev ys : List (Field ℕ)
    ys = drop at fs

    abbrev head : List ℕ
    head = head_with d (length fs + k)

    abbrev last : List ℕ
    last = record_of 5 []

    -- with what was put in a table is as much longer
    pub candidate_length : length (candidate at k numbers bytes d) ≡ length table + length bytes
    candidate_length =
        let f = renumbered (opened at k) in
        let x = ap (λ (l : List (Field ℕ)). length (records numbers 0 l)) (take_map f at fs)
        ∙ renumbered_length (opened at k) numbers 0 xs in
        let y = ap (λ (l : List (Field ℕ)). length (records numbers at l)) (drop_map f at fs)
        ∙ renumbered_length (opened at k) numbers at ys in
        let first = record_of 1 (head_body d) in
        let a = records numbers 0 (take at (moved at k d)) in
        let b = records numbers at (drop at (moved at k d)) in
        omega (
          arith,
          x,
          y,
          ap length (parted table good at inside),
          head_stays d (length fs + k),
          length-append (first ++ records numbers 0 xs) (records numbers at ys ++ last),
          length-append first (records numbers 0 xs),
          length-append (records numbers at ys) last,
          length-append head ((a ++ (bytes ++ b)) ++ last),
          length-append (a ++ (bytes ++ b)) last,
          length-append a (bytes ++ b),
          length-append bytes b,
        )

-- ── what the code leaves in the buffer that it builds in ──

module _ (table : List ℕ) (at k : ℕ) (bytes : List ℕ) (may : MayPut table at k bytes) where
  abbrev good : Good table
  good = may.good

  abbrev into : Description
  into = good.description

  abbrev count : ℕ
  count = length into.fields

  abbrev kept : ℕ → ℕ
  kept = readers into.fields

  abbrev before : List (Field ℕ)
  before = take at into.fields

  abbrev behind : List (Field ℕ)
  behind = drop at into.fields

  abbrev first : List ℕ
  first = head_with into (count + k)

  abbrev end : List ℕ
  end = record_of 5 []

  abbrev g : ℕ → ℕ
  g = new_index (Shift.Up at k)

  pub put_bounds : (at ≤ two_at table 6) × (two_at table 6 + k ≤ fields_most)
  put_bounds =
      let c = head_count into table good.is_stored good.within in
      (omega (arith, may.inside, c), omega (arith, may.few, c))

  pub place_room : (place : ℕ) → place ≡ place_from table at (two_at table 0)
      → (8 ≤ place) × (place ≤ length table) × (length table + length bytes ≤ table_most)
  place_room place is =
      let b = place_bounds table good at place may.inside is in
      (b.0, b.1, may.short)

  -- by the new numbering in one byte
  alike : (l : List (Field ℕ)) → all (λ f. all (λ i. ltb i count) (field_reads f)) l ≡ true
      → map (renumbered g) l ≡ map (renumbered (opened at k)) l
  alike l h = fields_alike g (opened at k) count (λ i lt. up_alike at k i (omega (arith, lt, may.few))) l h

  both_alike : (map (renumbered g) before ≡ take at (moved at k into))
      × (map (renumbered g) behind ≡ drop at (moved at k into))
  both_alike =
      let p = all_parts _ at into.fields (reads_below into good.within) in
      let f = renumbered (opened at k) in (
        alike before p.0 ∙ sym (take_map f at into.fields),
        alike behind p.1 ∙ sym
            (drop_map f at into.fields),
      )

  sound : (all is_sound before ≡ true) × (all is_sound behind ≡ true)
  sound = all_parts is_sound at into.fields (within_sound [] into.fields good.within.form good.within.size)

  -- the records before the place and behind it get the new numbering
  shifted_all : (s t u post : List ℕ) (to : ℕ)
      → s ≡ first ++ (records kept 0 before ++ (bytes ++ (records kept at behind ++ (end ++ post))))
      → length first + length (records kept 0 before) + length bytes + length (records kept at behind) ≤ table_most
      → to ≡ length first + length (records kept 0 before) + length bytes
      → t ≡ shifted_from g (length before) (length first) s → u ≡ shifted_from g (length behind) to t
      → u ≡ candidate at k kept bytes into ++ post
  shifted_all s t u post to is low place e₁ e₂ =
      let x = records kept 0 (map (renumbered g) before) in
      let y = records kept at (map (renumbered g) behind) in
      let old = records kept at behind in
      let more = bytes ++ (old ++ (end ++ post)) in
      let k₁ = sound_kept [] before sound.0 in
      let k₂ = sound_kept [] behind sound.1 in
      let one : t ≡ first ++ (x ++ more) =
      e₁ ∙ ap (shifted_from g (length before) (length first)) is
      ∙ shifted_stored g kept 0 first [] before more k₁.0 k₁.1 (omega (arith, low)) in
      let pre = first ++ (x ++ bytes) in
      let size : to ≡ length pre =
      omega (
        arith,
        place,
        length-append first (x ++ bytes),
        length-append x bytes,
        renumbered_length g kept 0 before,
      ) in
      let regrouped : t ≡ pre ++ (old ++ (end ++ post)) =
      one ∙ ap (λ (l : List ℕ). first ++ l) (sym (append_assoc x bytes (old ++ (end ++ post))))
      ∙ sym (append_assoc first (x ++ bytes) (old ++ (end ++ post))) in
      let two : u ≡ pre ++ (y ++ (end ++ post)) =
      e₂ ∙ ap₂ {C = List ℕ} (λ (p : ℕ) (l : List ℕ). shifted_from g (length behind) p l) size regrouped
      ∙ shifted_stored g kept at pre [] behind (end ++ post) k₂.0 k₂.1 (omega (arith, low, place, size)) in
      let x' = records kept 0 (take at (moved at k into)) in
      let y' = records kept at (drop at (moved at k into)) in
      two
      ∙ ap₂ {C = List ℕ} (λ (a b : List ℕ). (first ++ (a ++ bytes)) ++ (b ++ (end ++ post)))
      (ap (records kept 0) both_alike.0) (ap (records kept at) both_alike.1)
      ∙ regroup first x' bytes y' end post
    where
      regroup : (h a b c e p : List ℕ)
          → (h ++ (a ++ b)) ++ (c ++ (e ++ p)) ≡ (h ++ ((a ++ (b ++ c)) ++ e)) ++ p
      regroup h a b c e p = simp append_assoc refl

  module _ (scratch s₁ s₂ s₃ s₄ s₅ : List ℕ) (n head place to next size : ℕ) (is_n : n ≡ two_at table 6)
      (is_head_lem : head ≡ two_at table 0) (is_place : place ≡ place_from table at (two_at table 0))
      (room : length scratch ≡ table_most) where
    n_is : n ≡ count
    n_is = is_n ∙ head_count into table good.is_stored good.within

    start : start_with table place (n + k) ≡ first ++ records kept 0 before
    start =
        ap (start_with table place) (ap (λ (m : ℕ). m + k) n_is)
        ∙ start_is table good at place may.inside is_place (count + k)

    rest_is : drop place table ≡ records kept at behind ++ end
    rest_is = behind_place table good at place may.inside is_place

    lengths : length first + length (records kept 0 before) ≡ place
    lengths =
        let p = is_place ∙ place_is table good at may.inside in
        let h = record_of 1 (head_body into) in
        omega (arith, p, head_stays into (count + k), length-append h (records kept 0 before))

    abbrev rest_there : List ℕ → List ℕ
    rest_there post = records kept at behind ++ (end ++ post)

    -- what was written, and where the records handed in end
    written : Writes scratch 0 (start_with table place (n + k)) s₁ to → placed next s₂ ≡ put s₁ to bytes
        → placed size s₃ ≡ put s₂ next (take (length table - place) (drop place table))
        → (s₃ ≡ first ++ (records kept 0 before ++ (bytes ++ rest_there (drop size s₃))))
        × (next ≡ length first + length (records kept 0 before) + length bytes)
        × (size ≡ length table + length bytes)
    written w e₂ e₃ =
        let r = place_room place is_place in
        let front = start_with table place (n + k) in
        let l₁ = ap length start in
        let l₂ = length-append first (records kept 0 before) in
        let l₃ = length-drop place table in
        let l₄ = length-append front bytes in
        let l₅ = length-append (front ++ bytes) (drop place table) in
        let w₂ = more_put bytes w (omega (arith, l₁, l₂, lengths, r, room)) e₂ in
        let e₃' : placed size s₃ ≡ put s₂ next (drop place table) = rw (rest_of table place) at e₃ in
        let w₃ = more_put (drop place table) w₂ (omega (arith, l₁, l₂, l₃, l₄, lengths, r, room)) e₃' in
        let f₂ = in_front_lem w₂ in
        let f₃ = in_front_lem w₃ in (
          f₃.0
              ∙ ap₂ {C = List ℕ} (λ (a b : List ℕ). ((a ++ bytes) ++ b) ++ drop size s₃) start rest_is
              ∙ regroup first (records kept 0 before) bytes (records kept at behind) end (drop size s₃),
          omega (arith, f₂.1, l₁, l₂, l₄),
          omega (arith, f₃.1, l₅, l₄, l₁, l₂, l₃, lengths, r.1),
        )
      where
        regroup : (h a b c e p : List ℕ)
            → (((h ++ a) ++ b) ++ (c ++ e)) ++ p ≡ h ++ (a ++ (b ++ (c ++ (e ++ p))))
        regroup h a b c e p = simp append_assoc refl

    pub put_ready : Writes scratch 0 (start_with table place (n + k)) s₁ to → placed next s₂ ≡ put s₁ to bytes
        → placed size s₃ ≡ put s₂ next (take (length table - place) (drop place table))
        → s₄ ≡ shifted_from g at head s₃ → s₅ ≡ shifted_from g (n - at) next s₄
        → (candidate at k kept bytes into ≡ take (size - 0) s₅) × (size ≤ length s₅)
    put_ready w e₂ e₃ e₄ e₅ =
        let there = written w e₂ e₃ in
        let r = place_room place is_place in
        let post = drop size s₃ in
        let l₁ = ap length rest_is in
        let l₂ = length-append (records kept at behind) end in
        let l₃ = length-drop place table in
        let before_n : at ≡ length before = sym (length-take-le at into.fields may.inside) in
        let behind_n : n - at ≡ length behind = omega (arith, n_is, length-drop at into.fields) in
        let head_is_lem : head ≡ length first =
        is_head_lem ∙ head_first into table good.is_stored good.within ∙ sym (head_stays into (count + k)) in
        let done = shifted_all s₃ s₄ s₅ post next there.0 (omega (arith, lengths, l₁, l₂, l₃, r)) there.1
        (e₄ ∙ ap₂ {C = List ℕ} (λ (a b : ℕ). shifted_from g a b s₃) before_n head_is_lem)
        (e₅ ∙ ap (λ (a : ℕ). shifted_from g a next s₄) behind_n) in
        let made = candidate at k kept bytes into in
        let sizes : length made ≡ size - 0 =
        omega (arith, candidate_length table good at k bytes may.inside, there.2) in (
          sym (ap (take (size - 0)) done ∙ take_at made post (size - 0) sizes),
          omega (arith, ap length done, length-append made post, sizes),
        )
