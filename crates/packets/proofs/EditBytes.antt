-- A good table parted behind so many records, and its start with another number of fields.
use mathlib.Core.Path.{◌≡◌, refl, sym, ap, ap₂, ◌∙◌}
use mathlib.Core.List.{List, [], ◌∷◌, ◌++◌, append_assoc}
use Prim.Native.Nat.{ℕ, zero, suc, ◌+◌, ◌-◌, ◌≤◌}
use native.Mathlib.Omega.{arith}
use lib.ListN.{length, take, drop, length-append, take-append-drop}
use lib.Seq.{take_at, drop_at, take-take, length-take-le}
use Rattle.laws.specs.Places.{two_at}
use Rattle.laws.proofs.PlacesOfNumbers.{length_le2}
use Rattle.laws.proofs.RecordsJoined.{records_append}
use Rattle.rules.specs.Trees.{le2}
use Rattle.rules.specs.Fields.{Field, Description}
use Rattle.rules.specs.References.{readers}
use Rattle.rules.specs.Stored.{counted, record_of, records, head_body, stored_with, stored_in, Good}
use Rattle.packets.specs.Lookups.{place_from}
use Rattle.packets.specs.EditSteps.{start_with}
use Rattle.packets.proofs.TableHead.{head_first, fields_stand}
use Rattle.packets.proofs.TableParts.{head_length, stored_length_lem}
use Rattle.packets.proofs.LookupStored.{place_upto}

drop_of_take : (n m : ℕ) (l : List ℕ) → drop n (take m l) ≡ take (m - n) (drop n l)
drop_of_take zero m l = let z : m - 0 ≡ m = omega arith in rw z refl
drop_of_take (suc n) zero l = let z : 0 - suc n ≡ 0 = omega arith in rw z refl
drop_of_take (suc n) (suc m) [] = go (suc m - suc n)
  where
    go : (k : ℕ) → ◌≡◌ {A = List ℕ} [] (take k [])
    go zero = refl
    go (suc k) = refl
drop_of_take (suc n) (suc m) (x ∷ l) = let z : suc m - suc n ≡ m - n = omega arith in rw z (drop_of_take n m l)

-- the first record with another number of fields
abbrev pub head_with : Description → ℕ → List ℕ
head_with d count = record_of 1 (le2 d.row_width ++ (le2 count ++ counted d.name))

-- it has the length that it had
pub head_stays : (d : Description) (count : ℕ) → length (head_with d count) ≡ length (record_of 1 (head_body d))
unfolding head_body le2
head_stays d count = refl

module _ (table : List ℕ) (good : Good table) where
  abbrev d : Description
  d = good.description

  abbrev fs : List (Field ℕ)
  fs = d.fields

  abbrev numbers : ℕ → ℕ
  numbers = readers fs

  abbrev head : List ℕ
  head = record_of 1 (head_body d)

  -- the first record, n records, the others, the last record
  pub parted : (i : ℕ) → i ≤ length fs
      → table ≡ (head ++ records numbers 0 (take i fs)) ++ (records numbers i (drop i fs) ++ record_of 5 [])
  unfolding stored_in stored_with
  parted i le =
      let front = records numbers 0 (take i fs) in
      let behind = records numbers i (drop i fs) in
      let size : 0 + length (take i fs) ≡ i = omega (arith, length-take-le i fs le) in
      let both : records numbers 0 fs ≡ front ++ behind =
      ap (records numbers 0) (sym (take-append-drop i fs))
      ∙ records_append numbers 0 (take i fs) (drop i fs)
      ∙ ap (λ (k : ℕ). front ++ records numbers k (drop i fs)) size in
      sym good.is_stored
      ∙ ap (λ (l : List ℕ). head ++ (l ++ record_of 5 [])) both
      ∙ ap (λ (l : List ℕ). head ++ l) (append_assoc front behind (record_of 5 []))
      ∙ sym (append_assoc head front (behind ++ record_of 5 []))

  -- where the first n records end
  pub place_is : (i : ℕ) → i ≤ length fs
      → place_from table i (two_at table 0) ≡ length (head ++ records numbers 0 (take i fs))
  place_is i le =
      let w = good.within in
      let st = fields_stand d table good.is_stored w in
      let p = place_upto numbers table (length table) (record_of 5 []) (stored_length_lem d w table good.is_stored) 0
      fs []
      i (two_at table 0) w.form w.size st le in
      omega (arith, p, head_first d table good.is_stored w, length-append head (records numbers 0 (take i fs)))

  module _ (i place : ℕ) (le : i ≤ length fs) (is : place ≡ place_from table i (two_at table 0)) where
    at_place : length (head ++ records numbers 0 (take i fs)) ≡ place
    at_place = sym (is ∙ place_is i le)

    pub behind_place : drop place table ≡ records numbers i (drop i fs) ++ record_of 5 []
    behind_place = ap (drop place) (parted i le) ∙ drop_at (head ++ records numbers 0 (take i fs)) _ place at_place

    pub before_place : take place table ≡ head ++ records numbers 0 (take i fs)
    before_place = ap (take place) (parted i le) ∙ take_at (head ++ records numbers 0 (take i fs)) _ place at_place

    -- the place lies behind the first record
    pub place_bounds : (8 ≤ place) × (place ≤ length table) × (length head ≤ place)
    place_bounds =
        let n = length-append head (records numbers 0 (take i fs)) in
        let m = ap length (parted i le) in
        let all = length-append (head ++ records numbers 0 (take i fs))
        (records numbers i (drop i fs) ++ record_of 5 []) in
        let h = head_length d in
        let l = length-append (le2 (4 + length (head_body d))) (le2 1 ++ head_body d) in
        let b = length-append (le2 1) (head_body d) in
        let x = length_le2 (4 + length (head_body d)) in
        let y = length_le2 1 in (
          omega (arith, at_place, n, h, l, b, x, y),
          omega (arith, at_place, m, all),
          omega (arith, at_place, n),
        )

    pub start_is : (count : ℕ) → start_with table place count ≡ head_with d count ++ records numbers 0 (take i fs)
    unfolding head_body le2
    start_is count =
        let rest_of = counted d.name ++ records numbers 0 (take i fs) in
        let whole : take place table ≡ le2 (4 + length (head_body d)) ++ (le2 1 ++ (le2 d.row_width
        ++ (le2 (length fs) ++ rest_of))) = before_place in
        let eight = place_bounds.0 in
        let first : take 6 table ≡ le2 (4 + length (head_body d)) ++ (le2 1 ++ le2 d.row_width) =
        sym (take-take 6 place table (omega (arith, eight))) ∙ ap (take 6) whole in
        let more : take (place - 8) (drop 8 table) ≡ rest_of =
        sym (drop_of_take 8 place table) ∙ ap (drop 8) whole in
        ap₂ {C = List ℕ} (λ (a b : List ℕ). a ++ (le2 count ++ b)) first more
