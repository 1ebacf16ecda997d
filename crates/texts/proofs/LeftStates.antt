-- What a state holds stands in its first bytes, whatever lies beyond them.
use mathlib.Core.Path.{◌≡◌, refl, ap, sym, ◌∙◌, subst}
use mathlib.Core.List.{List}
use Prim.Native.Nat.{ℕ, ◌+◌, ◌*◌, ◌-◌, ◌≤◌, ◌<◌}
use native.Mathlib.Nat.{min-le_right}
use native.Mathlib.Omega.{arith}
use lib.ListN.{length, take, drop, get_or, length-take}
use lib.Seq.{get_or-take, length-take-le, take-take}
use Rattle.rules.specs.Limits.{line_most, fields_most}
use Rattle.laws.specs.Places.{two_at}
use Rattle.text_laws.specs.Fold as fold
use Rattle.texts.specs.Fills.{zeros}
use Rattle.texts.specs.HeldAreas.{held_room}
use Rattle.texts.specs.RowPlaces.{row_room}
use Rattle.texts.specs.StateNumbers.{used_at, line_at, row_at, counts_at, held_at, state_room, reading_in, Fits}
use Rattle.texts.specs.StateNumbers.{NoteIn, twos_in}
use Rattle.texts.specs.PieceStates.{StateHolds, Left, line_bytes, row_bytes, count_bytes, held_bytes}
use Rattle.texts.specs.declared.states.Reading.{Reading}
use Rattle.texts.proofs.KeptStates.{kept_in}
use Rattle.texts.proofs.NameAreas.{front_less, front_part}
use Rattle.texts.proofs.StateBytes.{reading_take, noted_take}

-- the same numbers and parts hold the same
pub holds_same : (s t : List ℕ) {k : fold.Kept} → reading_in t ≡ reading_in s → (NoteIn s → NoteIn t)
    → two_at t used_at ≡ two_at s used_at
    → take line_most (drop line_at t) ≡ take line_most (drop line_at s) → row_bytes t ≡ row_bytes s
    → count_bytes t ≡ count_bytes s → held_bytes t ≡ held_bytes s → StateHolds k s → StateHolds k t
holds_same s t {k} reading noted used line row counts held h = record {
  fits = subst (λ (r : Reading). Fits k.size r) (sym reading) h.fits;
  noted = noted h.noted;
  used = (let n = h.used in omega (arith, used, n));
  free = h.free;
  short = h.short;
  kept = kept_in (sym reading) (sym held) (sym row) (ap (twos_in fields_most) (sym counts)) h.kept;
  line = λ e. ap (λ (n : ℕ). take n (drop line_at t)) used
      ∙ front_less (drop line_at t) (drop line_at s) line_most (two_at s used_at) line h.used ∙ h.line e;
  clean = record {
    line = ap (λ (n : ℕ). drop n (line_bytes t)) used ∙ ap (drop (two_at s used_at)) line ∙ h.clean.line
        ∙ ap (λ (n : ℕ). zeros (line_most - n)) (sym used);
    rows = ap (λ (r : Reading). drop (65 * r.row) (row_bytes t)) reading ∙ ap (drop (65 * (reading_in s).row)) row
        ∙ h.clean.rows ∙ ap (λ (r : Reading). zeros (row_room - 65 * r.row)) (sym reading);
  };
}

module _ (s t : List ℕ) (e : take state_room t ≡ take state_room s) where
  two_moved : (i : ℕ) → i + 2 ≤ 4 → two_at t i ≡ two_at s i
  unfolding two_at
  two_moved i h = rw (byte i (omega arith), byte (i + 1) (omega arith)) refl
    where
      byte : (j : ℕ) → j < 4 → get_or t j 0 ≡ get_or s j 0
      byte j lt =
          sym (get_or-take 4 t j 0 lt) ∙ ap (λ (l : List ℕ). get_or l j 0) (front_less t s state_room 4 e (omega arith))
          ∙ get_or-take 4 s j 0 lt

  left_moved : {text : List ℕ} → state_room ≤ length t → Left text s → Left text t
  left_moved room l =
      let size = two_moved 0 (omega arith) in
      record {
        room = room;
        size = λ le. size ∙ l.size le;
        holds = λ le. holds_same s t (reading_take t s (front_less t s state_room 24 e (omega arith)))
            (noted_take t s (front_less t s state_room 24 e (omega arith)))
            (two_moved used_at (omega arith)) (front_part t s state_room line_at line_most e (omega arith))
            (front_part t s state_room row_at row_room e (omega arith))
            (front_part t s state_room counts_at (2 * fields_most) e (omega arith))
            (front_part t s state_room held_at held_room e (omega arith)) (l.holds le);
        over = λ lt. (let n = l.over lt in omega (arith, n, size));
      }

-- the first bytes alone, and with what lies beyond them
pub left_front : (s : List ℕ) {text : List ℕ} → state_room ≤ length s → Left text s → Left text (take state_room s)
left_front s room l =
    let n = length-take-le state_room s room in
    left_moved s (take state_room s) (take-take state_room state_room s (omega arith)) (omega (arith, n)) l

pub left_room : (s : List ℕ) {text : List ℕ} → Left text (take state_room s) → state_room ≤ length s
left_room s l =
    let n = l.room in
    let m = length-take state_room s in
    let k = min-le_right state_room (length s) in omega (arith, n, m, k)

pub left_whole : (s : List ℕ) {text : List ℕ} → Left text (take state_room s) → Left text s
left_whole s l =
    left_moved (take state_room s) s (sym (take-take state_room state_room s (omega arith))) (left_room s l) l

-- it depends on what is kept of the text, and on its length
pub left_kept : (s t u : List ℕ) → fold.kept t ≡ fold.kept u → length t ≡ length u → Left t s → Left u s
left_kept s t u same long l = record {
  room = l.room;
  size = λ le. l.size (omega (arith, long, le)) ∙ long;
  holds = λ le. subst (λ (k : fold.Kept). StateHolds k s) same (l.holds (omega (arith, long, le)));
  over = λ lt. l.over (omega (arith, long, lt));
}
