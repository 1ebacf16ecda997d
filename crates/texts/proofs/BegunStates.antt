-- The state of a text that comes in pieces, before its first byte.
use mathlib.Core.Path.{◌≡◌, refl, ap, sym, ◌∙◌, subst}
use mathlib.Core.List.{List, []}
use Prim.Native.Nat.{ℕ, ◌+◌, ◌*◌, ◌-◌, ◌≤◌}
use native.Mathlib.Omega.{arith}
use lib.ListN.{length, take, drop, replicate}
use borrow.Rule.Slice.PartMut.{put_mid}
use Rattle.base.specs.Lists.{all}
use Rattle.rules.specs.Limits.{line_most, fields_most}
use Rattle.rules.specs.Pieces.{StartsText}
use Rattle.rules.specs.Trees.{le2}
use Rattle.laws.specs.Places.{two_at}
use Rattle.text_laws.specs.Fold as fold
use Rattle.texts.specs.Changes.{begun_with}
use Rattle.texts.specs.Fills.{filled, zeros}
use Rattle.texts.specs.HeldAreas.{names_at, held_room}
use Rattle.texts.specs.HeldNames.{names_room}
use Rattle.texts.specs.NameStarts.{buckets, no_start}
use Rattle.texts.specs.StateNumbers.{used_at, line_at, row_at, counts_at}
use Rattle.texts.specs.StateNumbers.{held_at, state_room, stage_at, note_at, reading_in}
use Rattle.texts.specs.StateNumbers.{NoteIn, Fits, twos_in}
use Rattle.texts.specs.RowPlaces.{row_room}
use Rattle.texts.specs.PieceStates.{fresh_state, line_bytes, Clean, Left, KeptIn}
use Rattle.texts.specs.PieceStates.{row_bytes, count_bytes, held_bytes}
use Rattle.texts.specs.declared.states.Reading.{Reading}
use Rattle.texts.proofs.CountBytes.{twos_zeros}
use Rattle.texts.proofs.FillLaws.{filled_changed, filled_part, around_front}
use Rattle.texts.proofs.KeptStates.{kept_in}
use Rattle.texts.proofs.LeftStates.{left_front}
use Rattle.texts.proofs.LineCounts.{numbers_none}
use Rattle.texts.proofs.LineWalk.{room_begun, kept_begun}
use Rattle.texts.proofs.StateBytes.{reading_take, noted_take}
use Rattle.texts.proofs.StateChanges.{Changed, changed_wider, changed_then, part_long, lent_changed}
use Rattle.texts.proofs.StateChanges.{two_word, two_before, reading_before, part_before, row_before}
use Rattle.texts.proofs.StateChanges.{counts_before, noted_before}

-- zeros are the numbers of a reading before the first line
zero_reading : reading_in (replicate 24 0) ≡ begun_with
unfolding two_at stage_at note_at
zero_reading = refl

zero_noted : NoteIn (replicate 24 0)
unfolding two_at stage_at note_at
zero_noted = record { told = refl; placed = omega arith }

zero_two : (s : List ℕ) (i : ℕ) → take 2 (drop i s) ≡ replicate 2 0 → two_at s i ≡ 0
unfolding le2
zero_two s i e = two_word s i 0 (omega arith) e

-- zeros, and names put back into them
module _ (s z names : List ℕ) (room : state_room ≤ length s) (zeros : z ≡ filled 0 state_room 0 s)
    (starts : names ≡ filled 0 buckets no_start (take names_room (drop (held_at + names_at) z))) where
  zero_part : (x m : ℕ) → x + m ≤ state_room → take m (drop x z) ≡ replicate m 0
  zero_part x m le = ap (λ (l : List ℕ). take m (drop x l)) zeros ∙ filled_part state_room 0 s x m le

  start_first : Changed 0 state_room s z
  start_first = subst (λ (l : List ℕ). Changed 0 state_room s l) (sym zeros)
      (filled_changed 0 state_room 0 s (omega arith) room)

  room_names : held_at + names_at + names_room ≤ length z
  room_names = let n = start_first.long in omega (arith, n, room)

  names_long : length names ≡ names_room
  names_long =
      let part = take names_room (drop (held_at + names_at) z) in
      let n = part_long (held_at + names_at) names_room z room_names in
      ap length starts ∙ (filled_changed 0 buckets no_start part (omega arith) (omega (arith, n))).long ∙ n

  started : List ℕ
  started = put_mid (held_at + names_at) names_room z names

  start_last : Changed (held_at + names_at) state_room z started
  unfolding started
  start_last =
      changed_wider (held_at + names_at) state_room (omega arith) (omega arith)
      (lent_changed (held_at + names_at) names_room z names room_names names_long)

  start_all : Changed 0 state_room s started
  start_all = changed_then start_first (changed_wider 0 state_room (omega arith) (omega arith) start_last)

  start_reading : reading_in started ≡ begun_with
  start_reading =
      reading_before start_last (omega arith) ∙ reading_take z (replicate 24 0) (zero_part 0 24 (omega arith))
      ∙ zero_reading

  start_noted : NoteIn started
  start_noted =
      noted_before start_last (omega arith) (noted_take z (replicate 24 0) (zero_part 0 24 (omega arith)) zero_noted)

  start_two : (i : ℕ) → i + 2 ≤ 4 → two_at started i ≡ 0
  start_two i h = two_before start_last i (omega arith) ∙ zero_two z i (zero_part i 2 (omega arith))

  start_twos : twos_in fields_most (count_bytes started) ≡ replicate fields_most 0
  start_twos =
      ap (twos_in fields_most) (counts_before start_last (omega arith) ∙ zero_part counts_at (2 * fields_most)
      (omega arith))
      ∙ twos_zeros fields_most

  start_kept : KeptIn fold.start started
  start_kept =
      let long = start_all.long in
      let n = part_long held_at held_room started (omega (arith, long, room)) in
      kept_in (sym start_reading) refl refl (sym start_twos)
      (kept_begun (held_bytes started) (row_bytes started) (replicate fields_most 0) (omega (arith, n))
      (numbers_none fields_most (omega arith)))

  start_clean : Clean started
  unfolding zeros
  start_clean = record {
    line = ap (λ (n : ℕ). drop n (line_bytes started)) (start_two used_at (omega arith))
        ∙ part_before start_last line_at line_most (omega arith) ∙ zero_part line_at line_most (omega arith)
        ∙ ap (λ (n : ℕ). replicate (line_most - n) 0) (sym (start_two used_at (omega arith)));
    rows = ap (λ (r : Reading). drop (65 * r.row) (row_bytes started)) start_reading
        ∙ row_before start_last (omega arith) ∙ zero_part row_at row_room (omega arith)
        ∙ ap (λ (r : Reading). replicate (row_room - 65 * r.row) 0) (sym start_reading);
  }

  start_left : Left [] started
  unfolding fold.kept all
  start_left = record {
    room = (let long = start_all.long in omega (arith, long, room));
    size = λ h. start_two 0 (omega arith);
    holds = λ h. record {
      fits = subst (λ (x : Reading). Fits 0 x) (sym start_reading) (room_begun, omega arith);
      noted = start_noted;
      used = (let z = start_two used_at (omega arith) in omega (arith, z));
      free = refl;
      short = omega arith;
      kept = start_kept;
      line = λ e. ap (λ (n : ℕ). take n (drop line_at started)) (start_two used_at (omega arith));
      clean = start_clean;
    };
    over = λ h. absurd (omega arith);
  }

  start_fresh : take state_room started ≡ fresh_state
  unfolding started fresh_state
  start_fresh =
      ap (λ (l : List ℕ). take state_room (put_mid (held_at + names_at) names_room z l)) starts
      ∙ ap (λ (l : List ℕ). take state_room (put_mid (held_at + names_at) names_room l
      (filled 0 buckets no_start (take names_room (drop (held_at + names_at) l))))) zeros
      ∙ around_front (held_at + names_at) buckets (names_room - buckets)
      (state_room - (held_at + names_at + names_room))
      no_start s

  pub start_states : StartsText Left fresh_state s (put_mid (held_at + names_at) names_room z names)
  unfolding started
  start_states = (
    record {
      long = start_all.long;
      beyond = start_all.back;
      short = λ h. absurd (omega (arith, h, room));
    },
    λ h. (
      start_fresh,
      subst (λ (l : List ℕ). Left [] l) start_fresh
          (left_front started (let n = start_all.long in omega (arith, n, room)) start_left),
    ),
  )
