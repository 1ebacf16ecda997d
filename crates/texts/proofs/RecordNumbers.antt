-- The records of fields get their numbers.
use mathlib.Core.Path.{◌≡◌, refl, ap, ap₂, sym, ◌∙◌}
use mathlib.Core.List.{List, [], ◌∷◌, ◌++◌, append_assoc, append-nil}
use Prim.Native.Nat.{ℕ, suc, ◌+◌, ◌-◌, ◌≤◌}
use native.Mathlib.Omega.{arith}
use native.Mathlib.Nat.{zero-add}
use lib.ListN.{length, take, drop, length-append, take-append-drop}
use lib.Seq.{take_at, drop_at, length-take-le}
use borrow.Rule.Slice.PartMut.{put_mid, same_len_mid, Post-is}
use Rattle.base.specs.Lists.{joined}
use Rattle.writing.specs.Writes.{Writes}
use Rattle.writing.specs.Puts.{placed, put}
use Rattle.writing.proofs.PutLaws.{put_writes}
use Rattle.rules.specs.Limits.{fields_most}
use Rattle.rules.specs.Trees.{le2}
use Rattle.rules.specs.Fields.{Field}
use Rattle.rules.specs.References.{readers}
use Rattle.rules.specs.Stored.{stored_field, records, records_in}
use Rattle.laws.proofs.Numbers.{record_length}
use Rattle.references.specs.Numbers.{numbered}
use Rattle.references.proofs.NumberLaws.{numbered_records}
use Rattle.references.proofs.Counted.{counted_numbers}
use Rattle.texts.specs.States.{plain_field, Numbers}
use Rattle.texts.proofs.SlotRows.{writes_keep}

-- ── by the counts ──

-- records with the number 0
plain_records : (k : ℕ) (fs : List (Field ℕ)) → joined plain_field fs ≡ records (λ i. 0) k fs
unfolding joined records_in
plain_records k [] = refl
plain_records k (f ∷ fs) = ap (λ (l : List ℕ). plain_field f ++ l) (plain_records (suc k) fs)

-- are as long as those with any numbers
pub records_length : (numbers : ℕ → ℕ) (k : ℕ) (fs : List (Field ℕ))
    → length (records numbers k fs) ≡ length (joined plain_field fs)
unfolding joined records_in
records_length numbers k [] = refl
records_length numbers k (f ∷ fs) =
    omega (
      arith,
      length-append (stored_field (numbers k) f) (records numbers (suc k) fs),
      length-append (plain_field f) (joined plain_field fs),
      record_length (numbers k) 0 f,
      records_length numbers (suc k) fs,
    )

-- and get theirs by the counts
pub numbered_all : (fs : List (Field ℕ)) (counts : List ℕ) → Numbers fs counts → length fs ≤ fields_most
    → numbered (length fs) counts (joined plain_field fs) ≡ records (readers fs) 0 fs
numbered_all fs counts h few =
    ap (numbered (length fs) counts) (plain_records 0 fs ∙ sym (append-nil (records (λ i. 0) 0 fs)))
    ∙ numbered_records counts (λ i. 0) (readers fs) 0 fs [] h.short (λ j lt.
    counted_numbers fs counts h.counted (omega (arith, h.room, few)) j lt
    ∙ ap (λ (i : ℕ). le2 (readers fs i)) (sym (zero-add j)))
    ∙ append-nil (records (readers fs) 0 fs)

-- ── where they stand in the output ──

module _ (out s : List ℕ) (at : ℕ) {mid : List ℕ} {end : ℕ} (room : at + length s ≤ length out)
    (e : placed end mid ≡ put out at s) where
  pub put_place : (end ≡ at + length s) × (at ≤ end) × (end ≤ length mid)
  put_place = let w = put_writes room e in
      (w.end, omega (arith, w.end), omega (arith, w.end, w.kept, room))

  -- the bytes that were put
  there : take (end - at) (drop at mid) ≡ s
  there =
      let w = put_writes room e in
      let n = length-take-le at out (omega (arith, room)) in
      let m : length s ≡ end - at = omega (arith, w.end) in
      let whole : mid ≡ take at out ++ (s ++ drop end mid) =
      sym (take-append-drop end mid) ∙ ap (λ (l : List ℕ). l ++ drop end mid) w.text
      ∙ append_assoc (take at out) s (drop end mid) in
      ap (λ (l : List ℕ). take (end - at) (drop at l)) whole
      ∙ ap (take (end - at)) (drop_at (take at out) (s ++ drop end mid) at n)
      ∙ take_at s (drop end mid) (end - at) m

  pub numbered_there : (n : ℕ) (counts part : List ℕ) → part ≡ numbered n counts (take (end - at) (drop at mid))
      → length part ≡ length (take (end - at) (drop at mid))
      → (end ≡ at + length s) × Writes out at (numbered n counts s) (put_mid at (end - at) mid part) end
  numbered_there n counts part is long =
      let w = put_writes room e in
      let le : at ≤ end = omega (arith, w.end) in
      let same : part ≡ numbered n counts s = is ∙ ap (numbered n counts) there in
      let m : length part ≡ length s = long ∙ ap length there in
      let k = length-take-le at out (omega (arith, room)) in
      let front : take at mid ≡ take at out = writes_keep (omega (arith, room)) w in
      let z = length-append (take at out) part in
      let whole : put_mid at (end - at) mid part ≡ (take at out ++ part) ++ drop end mid =
      ap₂ {C = List ℕ} (λ (a b : List ℕ). a ++ (part ++ b)) front (Post-is at end mid le)
      ∙ sym (append_assoc (take at out) part (drop end mid)) in
      let size : length (take at out ++ part) ≡ end = omega (arith, z, k, m, w.end) in (
        w.end,
        record {
          text = ap (take end) whole ∙ take_at (take at out ++ part) (drop end mid) end size
              ∙ ap (λ (l : List ℕ). take at out ++ l) same;
          end = (let q = ap length same in omega (arith, q, m, w.end));
          kept = same_len_mid at (end - at) mid part long ∙ w.kept;
          beyond = ap (drop end) whole ∙ drop_at (take at out ++ part) (drop end mid) end size ∙ w.beyond;
        },
      )
