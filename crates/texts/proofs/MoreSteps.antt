-- What the code keeps behind a line in a row: one more line of it, its border, or a wrong one.
use mathlib.Core.Path.{◌≡◌, refl, ap, sym, subst, ◌∙◌}
use mathlib.Core.Bool.{Bool, true, false, cond}
use mathlib.Core.List.{List, ◌++◌}
use mathlib.Core.Option.{Option, none, some}
use Prim.Native.Nat.{ℕ, suc, ◌+◌, ◌*◌, ◌-◌, ◌≤◌}
use native.Mathlib.Omega.{arith}
use lib.Dec.{ltb}
use lib.ListN.{length, take}
use borrow.Author.Tests.{ltb-true, ltb-false}
use Rattle.base.specs.Lists.{same, joined, if_any}
use Rattle.writing.specs.Writes.{Writes}
use Rattle.rules.specs.Limits.{fields_most, row_lines_most}
use Rattle.rules.specs.Rows.{Row, is_drawn_row, is_labelled}
use Rattle.rules.specs.Frames.{Slot, slots_in, border, is_line}
use Rattle.text_laws.specs.FrameReader.{more_row}
use Rattle.text_laws.specs.Fold as fold
use Rattle.text_laws.specs.Steady.{is_head, Steady}
use Rattle.texts.specs.HeldNames.{Names}
use Rattle.bars.specs.Goes.{goes_on}
use Rattle.texts.specs.RowPlaces.{slots_at, row_room, RowKept}
use Rattle.texts.specs.Slots.{stored_slot, are_labels}
use Rattle.texts.specs.Changes.{changed, with_lines, made_wrong, made_wrong_row, row_ended}
use Rattle.texts.specs.HeldAreas.{slots_most}
use Rattle.texts.specs.States.{Room, Area}
use Rattle.texts.specs.States.{Holds}
use Rattle.texts.specs.declared.states.Stage.TheVariants as at
use Rattle.texts.specs.declared.states.Reading.{Reading}
use Rattle.texts.proofs.RowShown.{row_shown, row_labels_like}
use Rattle.texts.proofs.SlotRows.{writes_keep}
use Rattle.texts.proofs.RowSteps.{holds_front, holds_line, holds_few, holds_over}
use Rattle.texts.proofs.RowLines.{some_is, none_else, goes_more, more_kept, more_count}
use Rattle.texts.proofs.StateSteps.{holds_wrong, holds_wrong_row, kept_outside}

-- behind the border no line of a row is kept
cond_row : (c : Bool) (a b : Reading) → a.row ≡ 0 → b.row ≡ 0 → (cond c a b).row ≡ 0
cond_row true a b e g = e
cond_row false a b e g = g

none_kept : (r : Reading) (next n : ℕ) (row : List ℕ)
    → RowKept none (row_ended r next n).width (row_ended r next n).row row
none_kept r next n row = kept_outside refl (cond_row (ltb (fields_most - r.cells) n) _ _ refl refl)

module _ (f : fold.Found) (x : Row) (r : Reading) (l : List ℕ) {cells row : List ℕ} {table : Area}
    {labels : List (List ℕ)} {names : Names} (steady : Steady f) (is : f.row ≡ some x)
    (kept : RowKept (some x) r.width r.row row) (h : Holds f r cells table labels names)
    (room : row_room ≤ length row) where
  -- what is held behind the line
  abbrev Behind : Reading → List ℕ → List ℕ → Type 0
  Behind q after row' =
      Holds (fold.with_more f l (some x)) q after table labels names
      × RowKept (fold.with_more f l (some x)).row q.width q.row row'

  drawn : is_drawn_row row_lines_most r.width x ≡ true
  drawn =
      subst (λ (w : ℕ). is_drawn_row row_lines_most w x ≡ true) (sym h.counts.width)
      (subst (λ (o : Option Row). if_any (is_drawn_row row_lines_most f.width) o ≡ true) is steady.small.row)

  module _ (line : is_line l ≡ true) where
    -- ── one more line ──

    pub behind_line : goes_on r.row (take (2 * r.width + 1) row) l ≡ true → Room r
        → length l ≡ 2 * r.width + 1 → {after : List ℕ} {next : ℕ} → Writes row (65 * r.row) l after next
        → Behind (changed (with_lines r (r.row + 1)) (r.lines + 1) at.InRow r.note) cells after
    behind_line goes safe size {after} writes =
        let y = some_is (more_row r.width x l) (sym (goes_more r.width r.row x row l kept drawn line) ∙ goes) in
        let e : more_row f.width x l ≡ some y.0 =
        subst (λ (w : ℕ). more_row w x l ≡ some y.0) h.counts.width y.1 in
        let few = safe.row in
        subst (λ (o : Option Row). Holds (fold.on_more f f.width x l o)
        (changed (with_lines r (r.row + 1)) (r.lines + 1) at.InRow r.note) cells table labels names
        × RowKept (fold.on_more f f.width x l o).row r.width (r.row + 1) after) (sym e) (
          holds_line f r h y.0 (r.row + 1) (more_count r.width r.row x row l kept drawn y.0 y.1),
          more_kept r.width r.row x row l kept drawn safe.width y.0 y.1 size
              (omega (arith, few, room)) writes,
        )

    -- ── the row's end ──

    module _ (stops : goes_on r.row (take (2 * r.width + 1) row) l ≡ false) where
      no_more : more_row f.width x l ≡ none
      no_more =
          subst (λ (w : ℕ). more_row w x l ≡ none) h.counts.width
          (none_else (more_row r.width x l)
          (sym (goes_more r.width r.row x row l kept drawn line) ∙ stops))

      -- by what the cells are and what the line is
      ends : (a b : Bool) → are_labels row r.row (2 * r.width + 1) ≡ a → same l (border r.width) ≡ b
          → fold.with_more f l (some x)
          ≡ cond a (cond b (fold.with_cells f (f.cells ++ slots_in x)) (fold.wrong f)) (fold.wrong f)
      ends a b e g =
          let labelled : is_labelled x ≡ a =
          sym (row_labels_like row r.row r.width x drawn kept.lines) ∙ e in
          let edge : same l (border f.width) ≡ b =
          subst (λ (w : ℕ). same l (border w) ≡ b) h.counts.width g in
          rw (no_more, labelled, edge) refl

      same_row : RowKept f.row r.width r.row row
      same_row = subst (λ (o : Option Row). RowKept o r.width r.row row) (sym is) kept

      blamed_is : (b : Bool) → is_labelled x ≡ b
          → fold.blamed f.row f.lines ≡ cond b (suc f.lines) f.lines
      blamed_is b e =
          ap (λ (o : Option Row). fold.blamed o f.lines) is
          ∙ ap (λ (c : Bool). cond c (suc f.lines) f.lines) e

      pub behind_bad : are_labels row r.row (2 * r.width + 1) ≡ false → {after : List ℕ}
          → take r.slots after ≡ take r.slots cells → Behind (made_wrong_row r) after row
      behind_bad bad {after} front =
          let labelled = sym (row_labels_like row r.row r.width x drawn kept.lines) ∙ bad in
          subst (λ (g : fold.Found). Holds g (made_wrong_row r) after table labels names
          × RowKept g.row r.width r.row row)
          (sym (ends false (same l (border r.width)) bad refl))
          (holds_wrong_row f r (holds_front f r front h) (blamed_is false labelled), same_row)

      module _ (good : are_labels row r.row (2 * r.width + 1) ≡ true) {after : List ℕ} {next : ℕ}
          (writes : Writes cells r.slots (joined stored_slot (slots_at row r.row (2 * r.width + 1) 1)) after next)
          (safe : Room r) (wide : slots_most ≤ length cells) where
        inside : r.slots ≤ length cells
        inside = let a = safe.slots in let b = safe.cells in omega (arith, a, b, wide)

        pub behind_wrong : same l (border r.width) ≡ false → Behind (made_wrong r) after row
        behind_wrong other =
            let labelled = sym (row_labels_like row r.row r.width x drawn kept.lines) ∙ good in
            subst (λ (g : fold.Found). Holds g (made_wrong r) after table labels names
            × RowKept g.row r.width r.row row)
            (sym (ends true false good other))
            (holds_wrong f r (holds_front f r (writes_keep inside writes) h) (blamed_is true labelled), same_row)

        shown : slots_at row r.row (2 * r.width + 1) 1 ≡ slots_in x
        shown = row_shown row r.row r.width x drawn kept.lines

        put : Writes cells r.slots (joined stored_slot (slots_in x)) after next
        put = subst (λ (cs : List Slot). Writes cells r.slots (joined stored_slot cs) after next) shown writes

        pub behind_border : is_head f.stage ≡ true → same l (border r.width) ≡ true → (n : ℕ)
            → n ≡ length (slots_at row r.row (2 * r.width + 1) 1) → Behind (row_ended r next n) after row
        behind_border head edge n e =
            subst (λ (g : fold.Found). Holds g (row_ended r next n) after table labels names
            × RowKept g.row (row_ended r next n).width (row_ended r next n).row row)
            (sym (ends true true good edge))
            (go (ltb (fields_most - r.cells) n) refl, none_kept r next n row)
          where
            count : n ≡ length (slots_in x)
            count = e ∙ ap (λ (cs : List Slot). length cs) shown

            go : (b : Bool) → ltb (fields_most - r.cells) n ≡ b
                → Holds (fold.with_cells f (f.cells ++ slots_in x)) (row_ended r next n) after table labels names
            go true k =
                let over = ltb-true (fields_most - r.cells) n k in
                let a = h.counts.cells in
                rw k (holds_over f r h (steady.head head) x put (omega (arith, over, a, count)) inside)
            go false k =
                let few = ltb-false (fields_most - r.cells) n k in
                let a = h.counts.cells in
                let b = safe.cells in
                rw k (holds_few f r h (steady.head head) x put n count (omega (arith, few, a, b, count)))
