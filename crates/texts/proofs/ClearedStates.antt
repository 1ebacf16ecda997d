-- A state in which no line is held, and of the row's part some lines.
use mathlib.Core.Path.{◌≡◌, ap, sym, ◌∙◌, subst}
use mathlib.Core.List.{List}
use mathlib.Core.Option.{Option}
use Prim.Native.Nat.{ℕ, ◌+◌, ◌*◌, ◌-◌, ◌≤◌}
use native.Mathlib.Omega.{arith}
use lib.ListN.{length, take, drop}
use lib.Seq.{take-take, drop-drop}
use Rattle.rules.specs.Limits.{line_most}
use Rattle.rules.specs.Rows.{Row}
use Rattle.rules.specs.Trees.{le2}
use Rattle.laws.specs.Places.{two_at}
use Rattle.writing.specs.Puts.{placed, put}
use Rattle.texts.specs.Fills.{filled, zeros}
use Rattle.texts.specs.RowPlaces.{row_room, RowKept}
use Rattle.texts.specs.StateNumbers.{used_at, line_at, row_at, counts_at, state_room}
use Rattle.texts.specs.PieceStates.{line_bytes, row_bytes, Cleared}
use Rattle.texts.proofs.FillLaws.{filled_there, filled_changed}
use Rattle.texts.proofs.NameAreas.{drop_take}
use Rattle.texts.proofs.RowShown.{strips_more}
use Rattle.texts.proofs.StateChanges.{Changed, changed_wider, changed_then, two_changed, two_put}
use Rattle.texts.proofs.StateChanges.{part_before, rest_behind, two_before, reading_before, reading_behind}
use Rattle.texts.proofs.StateChanges.{noted_before, noted_behind}

-- what stands behind the lines of a row does not matter
pub row_front : {o : Option Row} {w n : ℕ} (a b : List ℕ) → w ≤ 32 → take (65 * n) b ≡ take (65 * n) a
    → RowKept o w n a → RowKept o w n b
row_front {o} {w} {n} a b le e k =
    record { lines = strips_more a b (2 * w + 1) n (omega arith) e ∙ k.lines }

pub cleared_changed : {n : ℕ} {a b : List ℕ} → Cleared n a b → Changed 2 counts_at a b
cleared_changed c = record { long = c.long; front = c.front; back = c.back }

module _ (n : ℕ) (s t u v : List ℕ) {next : ℕ} (few : n ≤ 4) (room : state_room ≤ length s)
    (two : placed next t ≡ put s used_at (le2 0)) (line : u ≡ filled line_at row_at 0 t)
    (row : v ≡ filled (row_at + 65 * n) counts_at 0 u) where
  first : Changed 2 4 s t
  first = two_changed s used_at 0 (omega (arith, room)) two

  room_line : row_at ≤ length t
  room_line = let e = first.long in omega (arith, e, room)

  second : Changed line_at row_at t u
  second = subst (λ (l : List ℕ). Changed line_at row_at t l) (sym line)
      (filled_changed line_at row_at 0 t (omega arith) room_line)

  room_row : counts_at ≤ length u
  room_row = let e = first.long in let f = second.long in omega (arith, e, f, room)

  third : Changed (row_at + 65 * n) counts_at u v
  third =
      subst (λ (l : List ℕ). Changed (row_at + 65 * n) counts_at u l) (sym row)
      (filled_changed (row_at + 65 * n) counts_at 0 u (omega (arith, few)) room_row)

  all_changed : Changed 2 counts_at s v
  all_changed =
      changed_then (changed_wider 2 counts_at (omega arith) (omega arith) first)
      (changed_then (changed_wider 2 counts_at (omega arith) (omega arith) second)
      (changed_wider 2 counts_at (omega arith) (omega arith) third))

  none_used : two_at v used_at ≡ 0
  none_used =
      two_before third used_at (omega arith) ∙ two_before second used_at (omega arith)
      ∙ two_put s used_at 0 (omega (arith, room)) two (omega arith)

  line_cleared : line_bytes v ≡ zeros line_most
  unfolding zeros
  line_cleared =
      part_before third line_at line_most (omega arith)
      ∙ ap (λ (l : List ℕ). take line_most (drop line_at l)) line
      ∙ filled_there line_at row_at 0 t (omega arith) room_line

  rest_cleared : drop (65 * n) (row_bytes v) ≡ zeros (row_room - 65 * n)
  unfolding zeros
  rest_cleared =
      let whole : row_room ≡ 65 * n + (row_room - 65 * n) = omega (arith, few) in
      let same : counts_at - (row_at + 65 * n) ≡ row_room - 65 * n = omega (arith, few) in
      let there = filled_there (row_at + 65 * n) counts_at 0 u (omega (arith, few)) room_row in
      ap (λ (m : ℕ). drop (65 * n) (take m (drop row_at v))) whole
      ∙ drop_take (65 * n) (row_room - 65 * n) (drop row_at v)
      ∙ ap (take (row_room - 65 * n)) (drop-drop (65 * n) row_at v ∙ ap (drop (row_at + 65 * n)) row)
      ∙ subst (λ (m : ℕ). take m (drop (row_at + 65 * n) (filled (row_at + 65 * n) counts_at 0 u)) ≡ zeros m) same there

  rows_kept : take (65 * n) (row_bytes v) ≡ take (65 * n) (row_bytes s)
  rows_kept =
      take-take (65 * n) row_room (drop row_at v) (omega (arith, few))
      ∙ part_before third row_at (65 * n) (omega arith)
      ∙ ap (take (65 * n)) (rest_behind second row_at (omega arith) ∙ rest_behind first row_at (omega arith))
      ∙ sym (take-take (65 * n) row_room (drop row_at s) (omega (arith, few)))

  pub parts_cleared : Cleared n s v
  parts_cleared = record {
    long = all_changed.long;
    front = all_changed.front;
    back = all_changed.back;
    reading = reading_before third (omega arith) ∙ reading_before second (omega arith)
        ∙ reading_behind first (omega arith);
    noted = λ k. noted_before third (omega arith) (noted_before second (omega arith)
        (noted_behind first (omega arith) k));
    used = none_used;
    rows = rows_kept;
    clean = λ e. record {
      line = ap (λ (m : ℕ). drop m (line_bytes v)) none_used ∙ line_cleared
          ∙ ap (λ (m : ℕ). zeros (line_most - m)) (sym none_used);
      rows = ap (λ (m : ℕ). drop (65 * m) (row_bytes v)) e ∙ rest_cleared
          ∙ ap (λ (m : ℕ). zeros (row_room - 65 * m)) (sym e);
    };
  }
