-- What cutting builds: the table of the description without the run, but for its numbers.
use mathlib.Core.Path.{◌≡◌, sym, ap, ap₂, ◌∙◌}
use mathlib.Core.Bool.{Bool, true, false, cond}
use mathlib.Core.List.{List, [], ◌++◌, map, append_assoc}
use Prim.Native.Nat.{ℕ, suc, ◌+◌, ◌-◌, ◌%◌, ◌<◌, ◌≤◌}
use native.Mathlib.Omega.{arith}
use lib.Dec.{ltb}
use lib.ListN.{length, take, drop, length-append, length-map, length-drop}
use lib.Seq.{length-take-le, take-add, take_at}
use Rattle.laws.specs.Places.{two_at}
use Rattle.laws.proofs.CutPut.{run_bounds}
use Rattle.laws.proofs.CutCandidate.{all_outside}
use Rattle.laws.proofs.Whole.{is_sound, within_sound, sound_kept}
use Rattle.laws.proofs.RecordsJoined.{records_append, records_both}
use Rattle.laws.proofs.ReadsBelow.{reads_below, fields_alike}
use Rattle.rules.specs.Limits.{fields_most}
use Rattle.rules.specs.Editions.{current}
use Rattle.rules.specs.Fields.{Field, Description}
use Rattle.rules.specs.References.{readers}
use Rattle.rules.specs.Edits.{renumbered, closed, run_length, remaining, cut}
use Rattle.rules.specs.Stored.{record_of, records, head_body, stored_with, Good}
use Rattle.references.specs.declared.renumbering.Shift.{Shift}
use Rattle.references.specs.Renumbered.{new_index}
use Rattle.writing.specs.Puts.{placed, put}
use Rattle.writing.specs.Writes.{Writes}
use Rattle.packets.specs.Parts.{table_most}
use Rattle.packets.specs.Lookups.{place_from}
use Rattle.packets.specs.Shifts.{shifted_from}
use Rattle.packets.specs.EditSteps.{start_with, MayCut}
use Rattle.packets.proofs.TableHead.{head_first, head_count, count_most}
use Rattle.packets.proofs.TableParts.{stored_length_lem}
use Rattle.packets.proofs.EditBytes.{head_with, head_stays, place_is, behind_place, start_is, place_bounds}
use Rattle.packets.proofs.EditWrites.{more_put, rest_of, in_front_lem}
use Rattle.packets.proofs.ShiftLaws.{renumbered_length, shifted_stored}

-- in one byte an index below 256 stays what it is without a run
down_alike : (first n i : ℕ) → i < 256
    → new_index (Shift.Down first n) i ≡ closed first n i
unfolding new_index closed
down_alike first n i byte = go (ltb i first)
  where
    go : (b : Bool) → cond b i (i - n) % 256 ≡ cond b i (i - n)
    go true = omega arith
    go false = omega arith

module _ (table : List ℕ) (first last : ℕ) (may : MayCut table first last) where
  abbrev good : Good table
  good = may.good

  abbrev d : Description
  d = good.description

  abbrev fs : List (Field ℕ)
  fs = d.fields

  abbrev numbers : ℕ → ℕ
  numbers = readers fs

  abbrev n : ℕ
  n = run_length first last

  abbrev outside : List (Field ℕ)
  outside = remaining first last fs

  -- the new index, in one byte
  abbrev shifts : ℕ → ℕ
  shifts = new_index (Shift.Down first (last + 1 - first))

  bounds : (first ≤ last) × (last < length fs)
  bounds = run_bounds first last fs may.run

  count_is : length outside ≡ length fs - n
  count_is =
      omega (
        arith,
        bounds,
        length-append (take first fs) (drop (suc last) fs),
        length-take-le first fs (omega (arith, bounds)),
        length-drop (suc last) fs,
      )

  -- the records before the run are no longer than those up to its end
  prefix : length (records numbers 0 (take first fs)) ≤ length (records numbers 0 (take (suc last) fs))
  prefix =
      let k = suc last - first in
      let e : first + k ≡ suc last = omega (arith, bounds) in
      let more = records numbers (0 + length (take first fs)) (take k (drop first fs)) in
      let both : records numbers 0 (take (suc last) fs) ≡ records numbers 0 (take first fs) ++ more =
      ap (λ (m : ℕ). records numbers 0 (take m fs)) (sym e)
      ∙ ap (records numbers 0) (take-add first k fs)
      ∙ records_append numbers 0 (take first fs) (take k (drop first fs)) in
      omega (arith, ap length both, length-append (records numbers 0 (take first fs)) more)

  module _ (start next count : ℕ) (at_start : start ≡ place_from table first (two_at table 0))
      (at_next : next ≡ place_from table (last + 1) (two_at table 0))
      (less : count ≡ two_at table 6 - (last + 1 - first))
    where
      abbrev built : List ℕ
      built = start_with table start count ++ drop next table

      one_more : last + 1 ≡ suc last
      one_more = omega arith

      behind : next ≡ place_from table (suc last) (two_at table 0)
      behind = at_next ∙ ap (λ (k : ℕ). place_from table k (two_at table 0)) one_more

      fits_first : first ≤ length fs
      fits_first = omega (arith, bounds)

      fits_last : suc last ≤ length fs
      fits_last = omega (arith, bounds)

      pub cut_room : (8 ≤ start) × (start ≤ next) × (next ≤ length table) × (length table ≤ table_most)
      cut_room =
          let a = place_bounds table good first start fits_first at_start in
          let b = place_bounds table good (suc last) next fits_last behind in
          let p = at_start ∙ place_is table good first fits_first in
          let q = behind ∙ place_is table good (suc last) fits_last in
          let head = record_of 1 (head_body d) in (
            a.0,
            omega (
              arith,
              p,
              q,
              prefix,
              length-append head (records numbers 0 (take first fs)),
              length-append head (records numbers 0 (take (suc last) fs)),
            ),
            b.1,
            stored_length_lem d good.within table good.is_stored,
          )

      count_fields : length outside ≡ count
      count_fields = omega (arith, less, count_is, head_count d table good.is_stored good.within, bounds)

      -- the first record with the new number of fields, the records outside the run, the last record
      built_is : (Q : ℕ → ℕ) × (built ≡ head_with d count ++ (records Q 0 outside ++ record_of 5 []))
      built_is =
          let xs = records numbers 0 (take first fs) in
          let ys = records numbers (suc last) (drop (suc last) fs) in
          let both = records_both numbers numbers 0 (suc last) (take first fs) (drop (suc last) fs) in (
            both.0,
            ap₂ {C = List ℕ} (λ (a b : List ℕ). a ++ b) (start_is table good first start fits_first at_start count)
                (behind_place table good (suc last) next fits_last behind)
                ∙ append_assoc (head_with d count) xs (ys ++ record_of 5 [])
                ∙ ap (λ (l : List ℕ). head_with d count ++ l) (sym (append_assoc xs ys (record_of 5 [])))
                ∙ ap (λ (l : List ℕ). head_with d count ++ (l ++ record_of 5 [])) both.1,
          )

      built_length : length built ≡ start + (length table - next)
      built_length =
          let r = cut_room in
          let p = at_start ∙ place_is table good first fits_first in
          let e = ap length (start_is table good first start fits_first at_start count) in
          let head = record_of 1 (head_body d) in
          omega (
            arith,
            e,
            p,
            head_stays d count,
            length-append (head_with d count) (records numbers 0 (take first fs)),
            length-append head (records numbers 0 (take first fs)),
            length-append (start_with table start count) (drop next table),
            length-drop next table,
          )

      -- the fields outside, by the new numbering
      alike : map (renumbered shifts) outside ≡ map (renumbered (closed first n)) outside
      alike =
          let most = count_most d good.within in
          let e : last + 1 - first ≡ n = omega arith in
          fields_alike shifts (closed first n) (length fs)
          (λ i lt. rw e (down_alike first n i (omega (arith, lt, most)))) outside
          (all_outside first last _ fs (reads_below d good.within))

      -- the records outside, renumbered where they stand
      shifted_outside : (Q : ℕ → ℕ) → built ≡ head_with d count ++ (records Q 0 outside ++ record_of 5 [])
          → (post after : List ℕ) → after ≡ shifted_from shifts count (two_at table 0) (built ++ post)
          → after ≡ head_with d count
          ++ (records Q 0 (map (renumbered (closed first n)) outside) ++ (record_of 5 [] ++ post))
      shifted_outside Q is post after e =
          let head = head_with d count in
          let last5 = record_of 5 [] in
          let sound = all_outside first last is_sound fs (within_sound [] fs good.within.form good.within.size)
          in
          let kept = sound_kept [] outside sound in
          let r = cut_room in
          let l = length-append head (records Q 0 outside ++ last5) in
          let m = length-append (records Q 0 outside) last5 in
          let low : length head + length (records Q 0 outside) ≤ table_most =
          omega (arith, ap length is, l, m, built_length, r) in
          let first_size : two_at table 0 ≡ length head =
          head_first d table good.is_stored good.within ∙ sym (head_stays d count) in
          let whole : built ++ post ≡ head ++ (records Q 0 outside ++ (last5 ++ post)) =
          ap (λ (x : List ℕ). x ++ post) is
          ∙ append_assoc head (records Q 0 outside ++ last5) post
          ∙ ap (λ (x : List ℕ). head ++ x) (append_assoc (records Q 0 outside) last5 post) in
          e
          ∙ ap (λ (k : ℕ). shifted_from shifts k (two_at table 0) (built ++ post)) (sym count_fields)
          ∙ ap (λ (p : ℕ). shifted_from shifts (length outside) p (built ++ post)) first_size
          ∙ ap (shifted_from shifts (length outside) (length head)) whole
          ∙ shifted_stored shifts Q 0 head [] outside (last5 ++ post) kept.0 kept.1 low
          ∙ ap (λ (x : List (Field ℕ)). head ++ (records Q 0 x ++ (last5 ++ post))) alike

      cut_built : (post after : List ℕ) → after ≡ shifted_from shifts count (two_at table 0) (built ++ post)
          → (Q : ℕ → ℕ) × (after ≡ stored_with current Q (cut first last d) ++ post)
          × (length (stored_with current Q (cut first last d)) ≡ length built)
      unfolding cut stored_with head_body
      cut_built post after e =
          let b = built_is in
          let Q = b.0 in
          let head = head_with d count in
          let last5 = record_of 5 [] in
          let result = map (renumbered (closed first n)) outside in
          let fields_are : length result ≡ count = length-map outside (renumbered (closed first n)) ∙ count_fields in
          let table_is : stored_with current Q (cut first last d) ≡ head ++ (records Q 0 result ++ last5) =
          ap (λ (k : ℕ). head_with d k ++ (records Q 0 result ++ last5)) fields_are in (
            Q,
            shifted_outside Q b.1 post after e
                ∙ ap (λ (x : List ℕ). head ++ x) (sym (append_assoc (records Q 0 result) last5 post))
                ∙ sym (append_assoc head (records Q 0 result ++ last5) post)
                ∙ ap (λ (x : List ℕ). x ++ post) (sym table_is),
            omega (
              arith,
              ap length table_is,
              ap length b.1,
              length-append head (records Q 0 outside ++ last5),
              length-append (records Q 0 outside) last5,
              renumbered_length (closed first n) Q 0 outside,
              length-append head (records Q 0 result ++ last5),
              length-append (records Q 0 result) last5,
            ),
          )

  pub cut_bounds : (first ≤ last) × (last < two_at table 6) × (two_at table 6 ≤ fields_most)
  cut_bounds =
      let c = head_count d table good.is_stored good.within in
      (bounds.0, omega (arith, bounds.1, c), omega (arith, count_most d good.within, c))

  -- what the code leaves in the buffer that it builds in
  pub cut_ready : (scratch s₁ s₂ s₃ : List ℕ) (n head start next to size : ℕ) → n ≡ two_at table 6
      → head ≡ two_at table 0
      → start ≡ place_from table first (two_at table 0) → next ≡ place_from table (last + 1) (two_at table 0)
      → length scratch ≡ table_most → Writes scratch 0 (start_with table start (n - (last + 1 - first))) s₁ to
      → placed size s₂ ≡ put s₁ to (take (length table - next) (drop next table))
      → s₃ ≡ shifted_from shifts (n - (last + 1 - first)) head s₂
      → (Q : ℕ → ℕ) × (stored_with current Q (cut first last d) ≡ take (size - 0) s₃) × (size ≤ length s₃)
  cut_ready scratch s₁ s₂ s₃ n head start next to size is_n is_head_lem is_start is_next room w e shifted =
      let count = n - (last + 1 - first) in
      let less : count ≡ two_at table 6 - (last + 1 - first) = ap (λ (m : ℕ). m - (last + 1 - first)) is_n in
      let r = cut_room start next count is_start is_next less in
      let length_is = built_length start next count is_start is_next less in
      let front = start_with table start count in
      let e' : placed size s₂ ≡ put s₁ to (drop next table) = rw (rest_of table next) at e in
      let all_of = length-append front (drop next table) in
      let fits : length front + length (drop next table) ≤ length scratch =
      omega (arith, all_of, length_is, r.1, r.2, r.3, room) in
      let f = in_front_lem (more_put (drop next table) w fits e') in
      let post = drop size s₂ in
      let there : s₃ ≡ shifted_from shifts count (two_at table 0) ((front ++ drop next table) ++ post) =
      shifted
      ∙ ap (λ (p : ℕ). shifted_from shifts count p s₂) is_head_lem
      ∙ ap (shifted_from shifts count (two_at table 0)) f.0 in
      let b = cut_built start next count is_start is_next less post s₃ there in
      let made = stored_with current b.0 (cut first last d) in
      let sizes : length made ≡ size - 0 = omega (arith, b.2, f.1) in (
        b.0,
        sym (ap (take (size - 0)) b.1 ∙ take_at made post (size - 0) sizes),
        omega (arith, ap length b.1, length-append made post, sizes),
      )
