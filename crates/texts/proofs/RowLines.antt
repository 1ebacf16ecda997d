-- The lines of a row as they are kept: its first, and one more.
use mathlib.Core.Path.{◌≡◌, refl, ap, sym, ◌∙◌}
use mathlib.Core.Bool.{true, false, ◌&&◌}
use mathlib.Core.List.{List, [], ◌∷◌, ◌++◌}
use mathlib.Core.Option.{Option, none, some}
use Prim.Native.Nat.{ℕ, zero, suc, ◌+◌, ◌*◌, ◌≤◌, ◌<◌}
use native.Mathlib.Omega.{arith}
use native.Mathlib.Numerals.{add-one}
use lib.ListN.{length, take, drop, get_or, length-append}
use lib.Seq.{take-append_seam, length-take-le}
use lib.Dec.{ltb, eqb}
use borrow.Author.Tests.{ltb-true}
use Rattle.base.specs.Lists.{head_is}
use Rattle.base.proofs.Lists.{and_left, and_right, not_both}
use Rattle.writing.specs.Writes.{Writes}
use Rattle.rules.specs.Limits.{row_lines_most}
use Rattle.rules.specs.Rows.{Row, row_lines, is_drawn_row}
use Rattle.text_laws.specs.Bars.{same_bars}
use Rattle.text_laws.specs.FrameReader.{read_row, more_row}
use Rattle.texts.specs.FramePlaces.{is_some}
use Rattle.bars.specs.Goes.{goes_on}
use Rattle.texts.specs.RowPlaces.{strips_at, RowKept}
use Rattle.bars.proofs.BarLaws.{same_size}
use Rattle.texts.proofs.DrawnLines.{more_goes, more_lines, row_lines_one, drawn_count}
use Rattle.rules.specs.Frames.{is_line}
use Rattle.texts.proofs.RowShown.{strips_length, strips_more}
use Rattle.texts.proofs.SlotRows.{writes_keep, writes_there}

-- ── what may be missing ──

pub some_is : {A : Type 0} (o : Option A) → is_some o ≡ true → (a : A) × (o ≡ some a)
some_is none e = absurd (not_both false e refl)
some_is (some a) e = (a, refl)

pub none_else : {A : Type 0} (o : Option A) → is_some o ≡ false → o ≡ none
none_else none e = refl
none_else (some a) e = absurd (not_both true refl e)

-- ── what was written ──

written_part : {before after : List ℕ} {at next : ℕ} {w : List ℕ} → at ≤ length before → Writes before at w after next
    → take (length w) (drop at after) ≡ w
written_part {after = after} {next = next} {w = w} le k =
    ap (take (length w)) (writes_there le k) ∙ take-append_seam w (drop next after)

-- ── the first line ──

pub first_line : (w : ℕ) (l : List ℕ) {row after : List ℕ} {next : ℕ} (x : Row) → read_row w l ≡ some x
    → Writes row 0 l after next → RowKept (some x) w 1 after
unfolding strips_at
first_line w l {row} {after} {next} x e k =
    let p = row_lines_one w l x e in
    let part : take (2 * w + 1) after ≡ l =
    ap (λ (m : ℕ). take m after) (sym p.2) ∙ written_part {before = row} (omega arith) k in
    record { lines = ap {B = List (List ℕ)} (λ m. m ∷ []) part ∙ sym p.0 }

-- and it stands in front
front_first : (l m : List (List ℕ)) → 1 ≤ length l → get_or (l ++ m) 0 [] ≡ get_or l 0 []
front_first [] m le = absurd (omega (arith, le))
front_first (x ∷ l) m le = refl

strips_first : (row : List ℕ) (size n : ℕ) → 1 ≤ n → get_or (strips_at row 0 size n) 0 [] ≡ take size row
unfolding strips_at
strips_first row size zero le = absurd (omega (arith, le))
strips_first row size (suc zero) le = refl
strips_first row size (suc (suc n)) le =
    front_first (strips_at row 0 size (suc n)) _ (let e = strips_length row 0 size (suc n) in omega (arith, e))
    ∙ strips_first row size (suc n) (omega arith)

-- ── one more ──

-- a line with these bars is as long as the first, and not the fifth
pub goes_size : (n size : ℕ) (row l : List ℕ) → goes_on n (take size row) l ≡ true → size ≤ length row
    → (n < row_lines_most) × (length l ≡ size)
goes_size n size row l h le =
    let first = head_is (λ b. eqb b 124) (take size row) in
    let both = and_right (ltb n row_lines_most) (first && same_bars (take size row) l) h in
    let bars = and_right first (same_bars (take size row) l) both in (
      ltb-true n row_lines_most (and_left (ltb n row_lines_most) (first && same_bars (take size row) l) h),
      sym (same_size (take size row) l bars) ∙ length-take-le size row le,
    )

module _ (w n : ℕ) (x : Row) (row l : List ℕ) (kept : RowKept (some x) w n row)
    (drawn : is_drawn_row row_lines_most w x ≡ true) where
  pub kept_count : n ≡ length (row_lines x)
  kept_count = sym (strips_length row 0 (2 * w + 1) n) ∙ ap length kept.lines

  -- the code's test is that there is a row with this line
  pub goes_more : is_line l ≡ true → goes_on n (take (2 * w + 1) row) l ≡ is_some (more_row w x l)
  goes_more line =
      let c = drawn_count w x drawn in
      let f : take (2 * w + 1) row ≡ get_or (row_lines x) 0 [] =
      sym (strips_first row (2 * w + 1) n (let k = kept_count in omega (arith, c.0, k)))
      ∙ ap {A = List (List ℕ)} (λ m. get_or m 0 []) kept.lines in
      ap (λ (m : ℕ). goes_on m (take (2 * w + 1) row) l) kept_count
      ∙ ap (λ (m : List ℕ). goes_on (length (row_lines x)) m l) f
      ∙ sym (more_goes w x l drawn line)

  pub more_kept : w ≤ 32 → (y : Row) → more_row w x l ≡ some y → length l ≡ 2 * w + 1 → 65 * n ≤ length row
      → {after : List ℕ} {next : ℕ} → Writes row (65 * n) l after next → RowKept (some y) w (n + 1) after
  unfolding strips_at
  more_kept small y e size le {after} {next} k =
      let z : 65 * n + 0 ≡ 65 * n = omega arith in
      let part : take (2 * w + 1) (drop (65 * n + 0) after) ≡ l =
      ap (λ (m : ℕ). take (2 * w + 1) (drop m after)) z
      ∙ ap (λ (m : ℕ). take m (drop (65 * n) after)) (sym size) ∙ written_part le k in
      let front = strips_more row after (2 * w + 1) n (omega (arith, small)) (writes_keep le k) ∙ kept.lines in
      record {
        lines = ap (strips_at after 0 (2 * w + 1)) (add-one n)
            ∙ ap (λ (m : List (List ℕ)). m ++ (take (2 * w + 1) (drop (65 * n + 0) after) ∷ [])) front
            ∙ ap (λ (m : List ℕ). row_lines x ++ (m ∷ [])) part
            ∙ sym (more_lines w x y l e).0;
      }

  pub more_count : (y : Row) → more_row w x l ≡ some y → n + 1 ≡ length (row_lines y)
  more_count y e =
      let a = ap length (more_lines w x y l e).0 in
      let b = length-append (row_lines x) (l ∷ []) in
      let c = kept_count in
      omega (arith, a, b, c)
