-- A line that changes a part of the bytes that hold what is kept.
use mathlib.Core.Path.{◌≡◌, refl, ◌∙◌, subst}
use mathlib.Core.List.{List}
use Prim.Native.Nat.{ℕ, ◌≤◌}
use lib.ListN.{length}
use borrow.Rule.Slice.PartMut.{put_mid}
use Rattle.text_laws.specs.Fold as fold
use Rattle.texts.specs.HeldNames.{names_in, names_room, Kept}
use Rattle.texts.specs.HeldAreas.{slots_most, records_most, names_at, table_at, held_room, cell_bytes, name_bytes}
use Rattle.texts.specs.HeldAreas.{label_bytes, table_bytes}
use Rattle.texts.specs.States.{area, HoldsIn, HeadStep, RowStep, LineStep}
use Rattle.texts.specs.declared.states.Reading.{Reading}
use Rattle.texts.specs.declared.states.Stage.TheVariants as at
use Rattle.texts.proofs.AreaLaws.{AreasAre, areas_hold, cells_long, cells_put, names_long}
use Rattle.texts.proofs.AreaLaws.{names_put, table_long, table_put}
use Rattle.texts.proofs.FieldSteps.{holds_kept}
use Rattle.texts.proofs.StateSteps.{head_stage, more_stage, name_row}

-- ── names ──

module _ (held : List ℕ) (room : held_room ≤ length held) {n : ℕ} {part : List ℕ}
    (kept : Kept (names_in (name_bytes held)) n (names_in part)) (same : length part ≡ length (name_bytes held)) where
  -- behind the names of a line
  abbrev pub named : List ℕ
  named = put_mid names_at names_room held part

  long : length part ≡ names_room
  long = same ∙ names_long held room

  pub named_areas : AreasAre named (cell_bytes held) part (label_bytes held) (table_bytes held)
  named_areas = names_put held part room long

  pub named_holds : (f : fold.Found) (r : Reading) (counts : List ℕ) → n ≡ r.fields → HoldsIn f r held counts
      → HoldsIn f r named counts
  named_holds f r counts e h =
      areas_hold f r counts named_areas
      (holds_kept f r h (subst (λ (m : ℕ). Kept (names_in (name_bytes held)) m (names_in part)) e kept))

-- ── lines of the head ──

module _ (held l : List ℕ) (r q : Reading) (room : held_room ≤ length held) where
  -- NAME is put at the table's start
  pub opening_step : {table row counts : List ℕ} → r.stage ≡ at.Opening → length table ≡ length (table_bytes held)
      → ((cells counts : List ℕ) → HeadStep (λ f. fold.with_name f (fold.opening_name l)) r q cells cells
      (area (table_bytes held) counts) (area table counts))
      → LineStep l r q held (put_mid table_at records_most held table) row row counts counts
  unfolding fold.lined_at
  opening_step {table} {row} {counts} told same step f k g h =
      let w = head_stage r l at.Opening told (λ o. refl) refl (step (cell_bytes held) counts)
      (λ f o. name_row f (fold.opening_name l) ∙ o) f k g h in
      (areas_hold (fold.lined f l) q counts (table_put held table room (same ∙ table_long held room)) w.0, w.1)

  -- cells are put behind those that are there
  pub more_step : {cells row row' counts : List ℕ} → r.stage ≡ at.InRow → length cells ≡ length (cell_bytes held)
      → RowStep l r q (cell_bytes held) cells row row'
      → LineStep l r q held (put_mid 0 slots_most held cells) row row' counts counts
  more_step {cells} {row} {row'} {counts} told same step f k g h =
      let w = more_stage r l at.InRow told refl step f k g h in
      (areas_hold (fold.lined f l) q counts (cells_put held cells room long) w.0, w.1)
    where
      long : length cells ≡ slots_most
      long = same ∙ cells_long held room
