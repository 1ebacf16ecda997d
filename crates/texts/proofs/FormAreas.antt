-- A line that has a form: its label is put, then its record.
use mathlib.Core.Path.{◌≡◌, refl, ◌∙◌, subst}
use mathlib.Core.List.{List}
use Prim.Native.Nat.{ℕ, ◌≤◌}
use native.Mathlib.Omega.{arith}
use lib.ListN.{length}
use borrow.Rule.Slice.PartMut.{put_mid}
use Rattle.writing.specs.Writes.{Writes}
use Rattle.texts.specs.HeldNames.{labels_room, LabelPut}
use Rattle.texts.specs.HeldAreas.{records_most, labels_at, table_at, held_room, cell_bytes, name_bytes}
use Rattle.texts.specs.HeldAreas.{label_bytes, table_bytes}
use Rattle.texts.proofs.AreaLaws.{AreasAre, areas_after, labels_long, labels_back, labels_put, table_put}
use Rattle.texts.proofs.AreaLaws.{table_long}

module _ (held : List ℕ) (room : held_room ≤ length held) {n : ℕ} {label part : List ℕ}
    (put : LabelPut (label_bytes held) n label part) where
  -- behind the label
  abbrev pub labelled : List ℕ
  labelled = put_mid labels_at labels_room held part

  long : length part ≡ labels_room
  long = put.long ∙ labels_long held room

  pub label_back : length labelled ≡ length held
  label_back = labels_back held part room long

  pub label_room : held_room ≤ length labelled
  label_room = let n = label_back in omega (arith, n, room)

  pub label_areas : AreasAre labelled (cell_bytes held) (name_bytes held) part (table_bytes held)
  label_areas = labels_put held part room long

  module _ {at next : ℕ} {w table : List ℕ} (writes : Writes (table_bytes labelled) at w table next) where
    -- and behind the record
    abbrev pub recorded : List ℕ
    recorded = put_mid table_at records_most labelled table

    pub record_areas : AreasAre recorded (cell_bytes held) (name_bytes held) part table
    record_areas =
        areas_after label_areas
        (table_put labelled table label_room (writes.kept ∙ table_long labelled label_room)) refl refl refl

    pub record_writes : Writes (table_bytes held) at w table next
    record_writes = subst (λ (l : List ℕ). Writes l at w table next) label_areas.table_is writes
