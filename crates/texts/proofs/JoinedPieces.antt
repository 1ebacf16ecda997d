-- A state behind a piece: that of the text and the piece, whatever the text was.
use mathlib.Core.Path.{◌≡◌, refl, ap, sym, ◌∙◌, subst}
use mathlib.Core.List.{List, [], ◌∷◌, ◌++◌, foldl, foldl-append, append-nil}
use Prim.Native.Nat.{ℕ, ◌+◌, ◌≤◌, ◌<◌}
use native.Mathlib.Omega.{arith}
use native.Mathlib.Decide.{dec_lt}
use lib.ListN.{length, take, length-append}
use Rattle.rules.specs.Limits.{text_most, line_most}
use Rattle.rules.specs.Pieces.{TakesPiece}
use Rattle.rules.specs.Trees.{le2}
use Rattle.laws.specs.Places.{two_at}
use Rattle.writing.specs.Puts.{placed, put}
use Rattle.text_laws.specs.Fold as fold
use Rattle.text_laws.proofs.FedRuns.{kept_size}
use Rattle.texts.specs.StateNumbers.{used_at, line_at, state_room}
use Rattle.texts.specs.PieceStates.{Left, StateHolds, SameAround}
use Rattle.texts.proofs.LeftStates.{holds_same, left_front, left_room, left_whole}
use Rattle.texts.proofs.StateChanges.{Changed, two_changed, two_put, two_behind, rest_behind, reading_behind}
use Rattle.texts.proofs.StateChanges.{noted_behind, row_behind, counts_behind, held_behind}

-- a state that is too short stays as it is
pub short_piece : (s piece : List ℕ) → length s < state_room → TakesPiece Left s piece s
short_piece s piece lt = (
  record { long = refl; beyond = refl; short = λ h. refl },
  λ text left. absurd (let n = left_room s left in omega (arith, n, lt)),
  λ e. refl,
)

-- a piece of no bytes leaves every state as it is
pub empty_piece : (s piece : List ℕ) → length piece ≡ 0 → TakesPiece Left s piece s
empty_piece s (b ∷ piece) none = absurd (omega (arith, none))
empty_piece s [] none = (
  record { long = refl; beyond = refl; short = λ h. refl },
  λ text left. subst (λ (t : List ℕ). Left t (take state_room s)) (sym (append-nil text)) left,
  λ e. refl,
)

module _ (s piece : List ℕ) (room : state_room ≤ length s) (some : 0 < length piece) where
  -- the text was too long before
  pub over_piece : text_most < two_at s 0 → TakesPiece Left s piece s
  over_piece over = (
    record { long = refl; beyond = refl; short = λ h. refl },
    λ text left. left_front s room (go text (left_whole s left) (dec_lt text_most (length text))),
    λ e. refl,
  )
    where
      go : (text : List ℕ) → Left text s → Dec (text_most < length text) → Left (text ++ piece) s
      go text left (yes long) =
          let n = length-append text piece in
          record {
            room = room;
            size = λ le. absurd (omega (arith, n, le, long));
            holds = λ le. absurd (omega (arith, n, le, long));
            over = λ lt. over;
          }
      go text left (no few) = absurd (let n = left.size (omega (arith, few)) in omega (arith, n, over, few))

  -- it was not
  text_short : two_at s 0 ≤ text_most → (text : List ℕ) → Left text s → length text ≤ text_most
  text_short le text left = go (dec_lt text_most (length text))
    where
      go : Dec (text_most < length text) → length text ≤ text_most
      go (yes long) = absurd (let n = left.over long in omega (arith, n, le))
      go (no few) = omega (arith, few)

  -- and gets too long
  module _ {next : ℕ} {t : List ℕ} (two : placed next t ≡ put s 0 (le2 (text_most + 1))) where
    pub long_piece : two_at s 0 ≤ text_most → text_most < two_at s 0 + length piece → TakesPiece Left s piece t
    long_piece le lt =
        let x = two_changed s 0 (text_most + 1) (omega (arith, room)) two in
        let size = two_put s 0 (text_most + 1) (omega (arith, room)) two (omega arith) in (
          record {
            long = x.long;
            beyond = rest_behind x state_room (omega arith);
            short = λ h. absurd (omega (arith, h, room));
          },
          λ text left.
              let few = (left_whole s left).size (text_short le text (left_whole s left)) in
              let n = length-append text piece in
              let long : state_room ≤ length t = (let m = x.long in omega (arith, m, room)) in
              left_front t long (record {
                room = long;
                size = λ most. absurd (omega (arith, n, few, most, lt));
                holds = λ most. absurd (omega (arith, n, few, most, lt));
                over = λ h. omega (arith, size);
              }),
          λ e. absurd (let n = ap length e in omega (arith, n, some)),
        )

-- bytes before the line do not matter to what a state holds
holds_behind : {p : ℕ} {s t : List ℕ} {k : fold.Kept} → Changed p used_at s t → StateHolds k s → StateHolds k t
holds_behind {s = s} {t = t} x h =
    holds_same s t (reading_behind x (omega arith)) (noted_behind x (omega arith))
    (two_behind x used_at (omega arith))
    (ap (take line_most) (rest_behind x line_at (omega arith))) (row_behind x (omega arith))
    (counts_behind x (omega arith)) (held_behind x (omega arith)) h

-- it does not
module _ (s piece : List ℕ) {t u : List ℕ} {next size : ℕ} (room : state_room ≤ length s) (some : 0 < length piece)
    (is : size ≡ two_at s 0)
    (fit : size + length piece ≤ text_most) (around : SameAround s t)
    (step : (k : fold.Kept) → k.size ≡ size → StateHolds k s → StateHolds (foldl fold.fed k piece) t)
    (two : placed next u ≡ put t 0 (le2 (size + length piece))) where
  two_room : 2 ≤ length t
  two_room = let n = around.long in omega (arith, n, room)

  sized : Changed 0 2 t u
  sized = two_changed t 0 (size + length piece) two_room two

  text_taken : (text : List ℕ) → Left text s → Left (text ++ piece) u
  unfolding fold.kept
  text_taken text left =
      let short = text_short s piece room some (omega (arith, is, fit)) text left in
      let few = left.size short in
      let n = length-append text piece in
      let m = kept_size text short in
      let long = around.long in
      let same = sized.long in
      let put = two_put t 0 (size + length piece) two_room two (omega (arith, fit)) in
      record {
        room = omega (arith, room, long, same);
        size = λ le. (omega (arith, put, is, few, n));
        holds = λ le. holds_behind sized
            (subst (λ (k : fold.Kept). StateHolds k t) (sym (foldl-append fold.fed fold.fresh text piece))
            (step (fold.kept text) (omega (arith, m, few, is)) (left.holds short)));
        over = λ lt. absurd (omega (arith, lt, n, few, is, fit));
      }

  pub piece_taken : TakesPiece Left s piece u
  piece_taken = (
    record {
      long = sized.long ∙ around.long;
      beyond = rest_behind sized state_room (omega arith) ∙ around.beyond;
      short = λ h. absurd (omega (arith, h, room));
    },
    λ text left. left_front u (let n = around.long in let m = sized.long in omega (arith, n, m, room))
        (text_taken text (left_whole s left)),
    λ e. absurd (let n = ap length e in omega (arith, n, some)),
  )
