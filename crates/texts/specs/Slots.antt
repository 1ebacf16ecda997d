-- The cells of rows as the code keeps them, and what it tests of them: mirrors the code, no public promise rests on it.
use Rattle.std.specs.Prelude.{◌≡◌, Bool, true, false, ◌&&◌, List, ◌∷◌, ℕ, length, take, drop, get_or}
use Rattle.std.specs.Prelude.{Option, None, Some}
use Rattle.base.specs.Lists.{all, is_empty, joined}
use Rattle.writing.specs.Writes.{Writes}
use Rattle.rules.specs.Names.{is_label}
use Rattle.rules.specs.Frames.{Slot}
use Rattle.rules.specs.Values.{yes_no}
use Rattle.text_laws.specs.FrameReader.{rest}
use Rattle.texts.specs.RowPlaces.{slots_at}

-- ── what is kept ──

-- the most bytes of the cells of a row, 7 for each column of its lines
abbrev pub row_most : ℕ
row_most = 455

unfoldable pub stored_slot : Slot → List ℕ
stored_slot c = yes_no c.long ∷ c.bits ∷ length c.text ∷ c.text

-- ── what is put ──

-- the cells cs, at a place behind what was there
pub record PutAs (before : List ℕ) (at : ℕ) (cs : List Slot) (after : List ℕ) (r : Option (ℕ × ℕ)) : Type 0 where
  pub next : ℕ
  pub answer : r ≡ Some (next, length cs)
  pub writes : Writes before at (joined stored_slot cs) after next

-- or a cell that is no label, and what stood before the place stays
abbrev pub RowedBy : Bool → List ℕ → ℕ → List Slot → List ℕ → Option (ℕ × ℕ) → Type 0
RowedBy true before at cs after r = PutAs before at cs after r
RowedBy false before at cs after r =
    (r ≡ None) × (take at after ≡ take at before) × (length after ≡ length before)

-- each part of the first line is ended, and all cells are labels
abbrev pub are_labels : List ℕ → ℕ → ℕ → Bool
are_labels row n size =
    is_empty (rest (get_or row 0 0) (drop 1 (take size row)))
    && all (λ c. is_label c.text) (slots_at row n size 1)

-- the cells of n kept lines of so many bytes
abbrev pub RowedAs : List ℕ → ℕ → ℕ → List ℕ → ℕ → List ℕ → Option (ℕ × ℕ) → Type 0
RowedAs row n size before at after r = RowedBy (are_labels row n size) before at (slots_at row n size 1) after r
