-- The bytes that putting in builds from whole records are a table exactly where the records join.
use mathlib.Core.Path.{◌≡◌, refl, ap, sym, ◌∙◌, subst}
use mathlib.Core.Bool.{true}
use mathlib.Core.List.{List, [], ◌∷◌, ◌++◌, map, append_assoc, append-nil}
use Prim.Native.Nat.{ℕ, zero, suc, ◌+◌, ◌≤◌, ◌<◌}
use native.Mathlib.Omega.{arith}
use lib.ListN.{length, length-append, take, drop, take-append-drop}
use Rattle.base.specs.Lists.{all}
use Rattle.base.proofs.Lists.{all_front, all_back, between_true}
use Rattle.rules.specs.Limits.{fields_most}
use Rattle.rules.specs.Trees.{le2}
use Rattle.rules.specs.Editions.{Edition, current}
use Rattle.rules.specs.Fields.{Field, Description}
use Rattle.rules.specs.Within.{Within}
use Rattle.rules.specs.Edits.{renumbered, opened, with_fields, inserted, put}
use Rattle.rules.specs.Stored.{counted, record_of, records, records_in, stored_field, head_body, stored_with}
use Rattle.rules.specs.Promises.{Joins}
use Rattle.laws.specs.Records.{whole}
use Rattle.laws.proofs.Readers.{read_field, read_fields, described_in}
use Rattle.laws.proofs.ReadsNumbers.{read_two_le2, skip_le2, read_counted_counted}
use Rattle.laws.proofs.ReadsFields.{label_length}
use Rattle.laws.proofs.Unique.{row_bound, described_with}
use Rattle.laws.proofs.Numbers.{front_same}
use Rattle.laws.proofs.FieldSizes.{record_size}
use Rattle.laws.proofs.CutPut.{put_length}
use Rattle.laws.proofs.RecordsJoined.{records_shift, records_both}
use Rattle.laws.proofs.Whole.{is_sound, within_sound, sound_stays, begun, apart, whole_once, sound_whole}

-- ── records that join ──

module _ (at : ℕ) (bytes : List ℕ) (d : Description) where
  joins_sound : (j : Joins at bytes d) → all is_sound j.fields ≡ true
  unfolding put
  joins_sound j =
      let old = map (renumbered (opened at (length j.fields))) d.fields in
      let sound = within_sound [] (put at j.fields d).fields j.within.form j.within.size in
      all_front is_sound j.fields (drop at old) (all_back is_sound (take at old) (j.fields ++ drop at old) sound)

  -- bytes that are no whole records do not join
  pub joins_whole : (j : Joins at bytes d) → whole (length j.fields) bytes ≡ true
  joins_whole j =
      ap (whole (length j.fields)) (sym j.are_stored) ∙ sound_whole j.numbers 0 j.fields (joins_sound j)

  pub whole_count : (k : ℕ) → whole k bytes ≡ true → (j : Joins at bytes d) → length j.fields ≡ k
  whole_count k h j = whole_once (length j.fields) k bytes (joins_whole j) h

  pub joins_few : (j : Joins at bytes d) → length d.fields + length j.fields ≤ fields_most
  joins_few j =
      let few = (between_true 1 (length (put at j.fields d).fields) fields_most j.within.count).1 in
      omega (arith, put_length at j.fields d, few)

-- ── records between known ones ──

no_records : (numbers : ℕ → ℕ) (k : ℕ) (l : List (Field ℕ)) → records numbers k l ≡ [] → l ≡ []
unfolding records_in
no_records numbers k [] h = refl
no_records numbers k (f ∷ l) h =
    absurd
    (omega (
      arith,
      ap length h,
      length-append (stored_field (numbers k) f) (records numbers (suc k) l),
      record_size (numbers k) f,
    ))

-- equal records are those of equal fields, whatever their numbers are
fields_same : (N M : ℕ → ℕ) (j k : ℕ) (xs es : List (Field ℕ)) → all is_sound xs ≡ true → all is_sound es ≡ true
    → records M k es ≡ records N j xs → es ≡ xs
fields_same N M j k xs es p q h =
    let b = begun N M j k xs es [] p q (h ∙ sym (append-nil (records N j xs))) in
    b.parts
    ∙ ap (λ (l : List (Field ℕ)). xs ++ l) (no_records M (k + length xs) b.more b.back)
    ∙ append-nil xs

sound_more : (es xs more : List (Field ℕ)) → es ≡ xs ++ more → all is_sound es ≡ true → all is_sound more ≡ true
sound_more es xs more e sound = all_back is_sound xs more (ap (all is_sound) (sym e) ∙ sound)

-- the fields es are xs and ys with k between them, whose records are the bytes
record Between (k : ℕ) (bytes : List ℕ) (xs ys es : List (Field ℕ)) : Type 0 where
  new : List (Field ℕ)
  kept : ℕ → ℕ
  count : length new ≡ k
  parts : es ≡ xs ++ (new ++ ys)
  are_stored : records kept 0 new ≡ bytes

between : (N M : ℕ → ℕ) (j k : ℕ) (bytes : List ℕ) (xs ys es : List (Field ℕ)) → whole k bytes ≡ true
    → all is_sound xs ≡ true → all is_sound ys ≡ true → all is_sound es ≡ true
    → records M 0 es ≡ records N 0 xs ++ (bytes ++ records N j ys) → Between k bytes xs ys es
between N M j k bytes xs ys es h p q sound same =
    let m = 0 + length xs in
    let b = begun N M 0 0 xs es (bytes ++ records N j ys) p sound same in
    let sound₁ = sound_more es xs b.more b.parts sound in
    let c = apart k bytes (records N j ys) M m b.more h sound₁ b.back in
    let sound₂ = sound_more b.more c.front c.more c.parts sound₁ in
    let last = fields_same N M j (m + length c.front) ys c.more q sound₂ c.back in
    record {
      new = c.front;
      kept = λ i. M (m + i);
      count = c.count;
      parts =
          b.parts ∙ ap (λ (l : List (Field ℕ)). xs ++ l) (c.parts ∙ ap (λ (l : List (Field ℕ)). c.front ++ l) last);
      are_stored = sym (records_shift M m c.front) ∙ c.fore;
    }

-- ── the candidate ──

abbrev head_of : ℕ → ℕ → List ℕ → List ℕ
head_of row n name = record_of 1 (le2 row ++ (le2 n ++ counted name))

head_same : (a b m n : ℕ) (v w : List ℕ) → a ≡ b → m ≡ n → v ≡ w → head_of a m v ≡ head_of b n w
head_same a b m n v w p q r = rw (p, q, r)

abbrev made : List ℕ → ℕ → List (Field ℕ) → Description
made name row fs = record { name = name; row_width = row; fields = fs }

described_as : (v w : List ℕ) (a b : ℕ) (l m : List (Field ℕ)) → v ≡ w → a ≡ b → l ≡ m → made v a l ≡ made w b m
described_as v w a b l m p q r = rw (p, q, r)

read_count : (e : Edition) (n : ℕ) (s : List ℕ) → length (read_fields e n s).0 ≡ n
unfolding read_fields
read_count e zero s = refl
read_count e (suc n) s = ap suc (read_count e n (read_field e s).1)

module _ (at k : ℕ) (d : Description) where
  -- the old fields, renumbered for k new ones
  abbrev pub moved : List (Field ℕ)
  moved = map (renumbered (opened at k)) d.fields

  put_moved : (new : List (Field ℕ)) → length new ≡ k → put at new d ≡ with_fields d (inserted at new moved)
  unfolding put
  put_moved new size =
      ap (λ (n : ℕ). with_fields d (inserted at new (map (renumbered (opened at n)) d.fields))) size

  sound_moved : Within d → (all is_sound (take at moved) ≡ true) × (all is_sound (drop at moved) ≡ true)
  sound_moved w =
      let sound : all is_sound (take at moved ++ drop at moved) ≡ true =
      rw (take-append-drop at moved)
      (sound_stays (opened at k) d.fields (within_sound [] d.fields w.form w.size)) in (
        all_front is_sound (take at moved) (drop at moved) sound,
        all_back is_sound (take at moved) (drop at moved)
            sound,
      )

module _ (at k : ℕ) (numbers : ℕ → ℕ) (bytes : List ℕ) (d : Description) where
  abbrev xs : List (Field ℕ)
  xs = take at (moved at k d)

  abbrev ys : List (Field ℕ)
  ys = drop at (moved at k d)

  abbrev middle : List ℕ
  middle = records numbers 0 xs ++ (bytes ++ records numbers at ys)

  abbrev pub candidate : List ℕ
  candidate =
      record_of 1 (le2 d.row_width ++ (le2 (length d.fields + k) ++ counted d.name))
      ++ ((records numbers 0 (take at (moved at k d))
      ++ (bytes ++ records numbers at (drop at (moved at k d))))
      ++ record_of 5 [])

  -- records that join give the candidate
  pub joins_candidate : (j : Joins at bytes d) → length j.fields ≡ k
      → (Q : ℕ → ℕ) × (candidate ≡ stored_with current Q (put at j.fields d))
  unfolding stored_with head_body
  joins_candidate j size =
      let new = j.fields in
      let back = records_both j.numbers numbers 0 at new ys in
      let both = records_both numbers back.0 0 0 xs (new ++ ys) in
      let filled = inserted at new (moved at k d) in
      let same = put_moved at k d new size in
      let bytes_of : middle ≡ records both.0 0 filled =
      ap (λ (l : List ℕ). records numbers 0 xs ++ (l ++ records numbers at ys)) (sym j.are_stored)
      ∙ ap (λ (l : List ℕ). records numbers 0 xs ++ l) back.1
      ∙ both.1 in
      let count : length d.fields + k ≡ length filled =
      omega (arith, size, put_length at new d, ap (λ (x : Description). length x.fields) same) in (
        both.0,
        ap (λ (n : ℕ). head_of d.row_width n d.name ++ (middle ++ record_of 5 [])) count
            ∙ ap (λ (l : List ℕ). head_of d.row_width (length filled) d.name ++ (l ++ record_of 5 [])) bytes_of
            ∙ ap (stored_with current both.0) (sym same),
      )

  -- ── a table with the candidate's bytes ──

  candidate_described : Within d → length d.fields + k < 65536
      → described_in current candidate
      ≡ made d.name d.row_width (read_fields current (length d.fields + k) (middle ++ record_of 5 [])).0
  unfolding described_in
  candidate_described w few =
      let name : length d.name < 65536 = omega (arith, label_length d.name w.name) in
      simp (
        append_assoc,
        skip_le2,
        read_two_le2 d.row_width (row_bound d.row_width w.row),
        read_two_le2 (length d.fields + k) few,
        read_counted_counted d.name name,
      )

  by_between : (c : Description) → Within c → c.name ≡ d.name → c.row_width ≡ d.row_width
      → Between k bytes xs ys c.fields
      → (j : Joins at bytes d) × (put at j.fields d ≡ c)
  by_between c v name row b =
      let same : c ≡ put at b.new d =
      described_as c.name d.name c.row_width d.row_width c.fields (xs ++ (b.new ++ ys)) name row
      b.parts
      ∙ sym (put_moved at k d b.new b.count) in
      (record { fields = b.new; numbers = b.kept; are_stored = b.are_stored; within = subst Within same v }, sym same)

  -- a description with the candidate's bytes is that with the fields of the records, which join
  pub put_judged : Within d → length d.fields + k < 65536 → whole k bytes ≡ true
      → (M : ℕ → ℕ) (c : Description) → Within c → stored_with current M c ≡ candidate
      → (j : Joins at bytes d) × (put at j.fields d ≡ c)
  unfolding stored_with head_body
  put_judged w few h M c v is =
      let n = length d.fields + k in
      let last = record_of 5 [] in
      let same : c ≡ made d.name d.row_width (read_fields current n (middle ++ last)).0 =
      sym (described_with current M c v) ∙ ap (described_in current) is ∙ candidate_described w few in
      let name : c.name ≡ d.name = ap (λ (x : Description). x.name) same in
      let row : c.row_width ≡ d.row_width = ap (λ (x : Description). x.row_width) same in
      let count : length c.fields ≡ n =
      ap (λ (x : Description). length x.fields) same ∙ read_count current n (middle ++ last) in
      let head = head_same c.row_width d.row_width (length c.fields) n c.name d.name row count name in
      let ours = records M 0 c.fields in
      let ends : ours ++ last ≡ middle ++ last =
      (front_same (record_of 1 (head_body c)) (head_of d.row_width n d.name) _ _ (ap length head) is).1 in
      let size : length ours ≡ length middle =
      omega (arith, ap length ends, length-append ours last, length-append middle last) in
      let sound = sound_moved at k d w in
      by_between c v name row
      (between numbers M at k bytes xs ys c.fields h sound.0 sound.1
      (within_sound [] c.fields v.form v.size) (front_same ours middle last last size ends).0)
