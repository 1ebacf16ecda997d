-- The end of a text that came in pieces: what its state holds gives the answer to the joined text.
use mathlib.Core.Path.{◌≡◌, refl, ap, sym, ◌∙◌, subst}
use mathlib.Core.Bool.{Bool, true, false}
use mathlib.Core.List.{List}
use Prim.Native.Nat.{ℕ, ◌+◌, ◌≤◌, ◌<◌}
use native.Mathlib.Omega.{arith}
use native.Mathlib.Decide.{dec_lt}
use lib.Dec.{eqb}
use lib.ListN.{length, drop, length-drop}
use lib.Seq.{length-take-le}
use borrow.Author.Tests.{eq-eqb, eqb-true}
use Rattle.base.proofs.Lists.{not_both}
use Rattle.base.specs.Lists.{is_empty}
use Rattle.std.specs.Prelude.{Ok, Err}
use Rattle.rules.specs.Answers.{accepted, refused, of_text, TextAnswer}
use Rattle.rules.specs.Limits.{text_most, line_most, fields_most}
use Rattle.rules.specs.Pieces.{EndsText}
use Rattle.rules.specs.Promises.{ReadsText, leaves}
use Rattle.rules.specs.declared.TextRefusal.{TextRefusal}
use Rattle.laws.specs.Places.{two_at}
use Rattle.text_laws.specs.Fold as fold
use Rattle.text_laws.proofs.Answering.{kept_answers}
use Rattle.text_laws.proofs.FedAlike.{finish_alike}
use Rattle.text_laws.proofs.FedRuns.{kept_size}
use Rattle.texts.specs.HeldAreas.{cell_bytes, name_bytes, label_bytes, table_bytes}
use Rattle.texts.specs.HeldNames.{labels_in, names_in}
use Rattle.texts.specs.States.{area, EndStep}
use Rattle.texts.specs.StateNumbers.{used_at, line_at, state_room, reading_in, Loaded, twos_in}
use Rattle.texts.specs.PieceStates.{held_line, row_bytes, count_bytes, held_bytes, StateHolds, Left}
use Rattle.texts.specs.declared.states.Reading.{Reading}
use Rattle.texts.proofs.LeftStates.{left_room, left_whole}
use Rattle.texts.proofs.LineWalk.{reads_long}
use Rattle.texts.proofs.StateSteps.{empty_nil, filled_nil}

module _ (s : List ℕ) (room : state_room ≤ length s) where
  -- the line is empty exactly where none of its bytes is used
  line_empty : two_at s used_at ≤ line_most → is_empty (held_line s) ≡ eqb (two_at s used_at) 0
  line_empty le = go (eqb (two_at s used_at) 0) refl
    where
      long : length (held_line s) ≡ two_at s used_at
      long =
          length-take-le (two_at s used_at) (drop line_at s)
          (let n = length-drop line_at s in omega (arith, n, room, le))

      go : (b : Bool) → eqb (two_at s used_at) 0 ≡ b → is_empty (held_line s) ≡ b
      go true e = empty_nil (held_line s) (long ∙ eqb-true (two_at s used_at) 0 e)
      go false e =
          filled_nil (held_line s)
          (λ z. not_both (eqb (two_at s used_at) 0) (eq-eqb (two_at s used_at) 0 (sym long ∙ z)) e)

  -- what is kept at the end, by a state that holds it
  module _ (r : Reading) (out after : List ℕ) (a : TextAnswer)
      (step : EndStep r (eqb (two_at s used_at) 0) (row_bytes s)
      (area (table_bytes (held_bytes s)) (twos_in fields_most (count_bytes s))) out after a) where
    holds_finish : (k : fold.Kept) → StateHolds k s → r ≡ reading_in s → leaves (of_text a) after ≡ fold.finish k out
    holds_finish k h e =
        let q : fold.Kept = record { size = k.size; line = held_line s; found = k.found } in
        let at_end : EndStep (reading_in s) (eqb (two_at s used_at) 0) (row_bytes s)
        (area (table_bytes (held_bytes s)) (twos_in fields_most (count_bytes s))) out after a =
        subst (λ (x : Reading). EndStep x (eqb (two_at s used_at) 0) (row_bytes s)
        (area (table_bytes (held_bytes s)) (twos_in fields_most (count_bytes s))) out after a) e step in
        at_end q (cell_bytes (held_bytes s)) (labels_in (label_bytes (held_bytes s)))
        (names_in (name_bytes (held_bytes s)))
        (line_empty h.used) h.kept.steady h.kept.rows h.kept.holds
        ∙ sym (finish_alike k q out (record { found = refl; line = λ z. sym (h.line z) }))

    pub state_reads : (size : ℕ) → size ≤ text_most → size ≡ two_at s 0 → Loaded size s r → (text : List ℕ)
        → Left text s → ReadsText text out (leaves (of_text a) after)
    state_reads size le e loaded text left = go (dec_lt text_most (length text))
      where
        go : Dec (text_most < length text) → ReadsText text out (leaves (of_text a) after)
        go (yes long) = absurd (let n = left.over long in omega (arith, n, le, e))
        go (no few) =
            let short : length text ≤ text_most = omega (arith, few) in
            let h = left.holds short in
            let n = left.size short in
            let m = kept_size text short in
            let lines = h.fits.1 in
            let same = loaded.same (h.fits.0, omega (arith, e, n, m, lines)) in
            subst (ReadsText text out) (sym (holds_finish (fold.kept text) h same)) (kept_answers text out)

-- each answer is of document 01's form
refused_leaves : (a : TextAnswer) (after out : List ℕ) → ((of_text a).number ≡ 0 → ⊥) → after ≡ out
    → leaves (of_text a) after ≡ leaves (refused (of_text a).number (of_text a).place) out
unfolding of_text
refused_leaves (Ok n) after out told e = absurd (told refl)
refused_leaves (Err TextRefusal.TooLong) after out told e = ap (leaves (refused 1 0)) e
refused_leaves (Err TextRefusal.BadByte) after out told e = ap (leaves (refused 2 0)) e
refused_leaves (Err (TextRefusal.BadLine p)) after out told e = ap (leaves (refused 3 p)) e
refused_leaves (Err TextRefusal.TooMany) after out told e = ap (leaves (refused 4 0)) e
refused_leaves (Err (TextRefusal.BadForm p)) after out told e = ap (leaves (refused 5 p)) e
refused_leaves (Err (TextRefusal.OverLimit p)) after out told e = ap (leaves (refused 6 p)) e
refused_leaves (Err (TextRefusal.Mismatch p)) after out told e = ap (leaves (refused 7 p)) e
refused_leaves (Err (TextRefusal.Repeated p)) after out told e = ap (leaves (refused 8 p)) e
refused_leaves (Err (TextRefusal.BadName p)) after out told e = ap (leaves (refused 9 p)) e
refused_leaves (Err (TextRefusal.BadRest p)) after out told e = ap (leaves (refused 10 p)) e
refused_leaves (Err TextRefusal.NoRoom) after out told e = ap (leaves (refused 11 0)) e

accepted_is : (a : TextAnswer) → (of_text a).number ≡ 0 → of_text a ≡ accepted (of_text a).amount
unfolding of_text
accepted_is (Ok n) e = refl
accepted_is (Err TextRefusal.TooLong) e = absurd (omega (arith, e))
accepted_is (Err TextRefusal.BadByte) e = absurd (omega (arith, e))
accepted_is (Err (TextRefusal.BadLine p)) e = absurd (omega (arith, e))
accepted_is (Err TextRefusal.TooMany) e = absurd (omega (arith, e))
accepted_is (Err (TextRefusal.BadForm p)) e = absurd (omega (arith, e))
accepted_is (Err (TextRefusal.OverLimit p)) e = absurd (omega (arith, e))
accepted_is (Err (TextRefusal.Mismatch p)) e = absurd (omega (arith, e))
accepted_is (Err (TextRefusal.Repeated p)) e = absurd (omega (arith, e))
accepted_is (Err (TextRefusal.BadName p)) e = absurd (omega (arith, e))
accepted_is (Err (TextRefusal.BadRest p)) e = absurd (omega (arith, e))
accepted_is (Err TextRefusal.NoRoom) e = absurd (omega (arith, e))

-- the end of a state that is long enough, of a text that is not too long; how many bytes of the line are used, and the
-- counts, as the code reads them
pub state_ends : (s : List ℕ) (a : TextAnswer) {used size : ℕ} {counts out after : List ℕ} {r : Reading}
    → state_room ≤ length s → size ≤ text_most → size ≡ two_at s 0 → Loaded size s r → used ≡ two_at s used_at
    → counts ≡ twos_in fields_most (count_bytes s)
    → EndStep r (eqb used 0) (row_bytes s) (area (table_bytes (held_bytes s)) counts) out after a
    → (((of_text a).number ≡ 0 → ⊥) → after ≡ out) → (of_text a).amount ≤ length out → length after ≡ length out
    → drop (of_text a).amount after ≡ drop (of_text a).amount out → EndsText Left s out (leaves (of_text a) after)
state_ends s a {used} {size} {counts} {out} {after} {r} room le e loaded u c step kept within long beyond =
    let at : EndStep r (eqb (two_at s used_at) 0) (row_bytes s)
    (area (table_bytes (held_bytes s)) (twos_in fields_most (count_bytes s))) out after a =
    subst (λ (n : ℕ). EndStep r (eqb n 0) (row_bytes s)
    (area (table_bytes (held_bytes s)) (twos_in fields_most (count_bytes s))) out
    after a) u
    (subst (λ (l : List ℕ). EndStep r (eqb used 0) (row_bytes s)
    (area (table_bytes (held_bytes s)) l) out after a) c step) in
    record {
      reads = λ text left. state_reads s room r out after a at size le e loaded text (left_whole s left);
      refusal = λ told. refused_leaves a after out told (kept told);
      written = λ none. record { answer = accepted_is a none; within = within; long = long; beyond = beyond };
      short = λ lt. absurd (omega (arith, lt, room));
    }

-- a state that is too short
pub short_ends : (s out : List ℕ) → length s < state_room
    → EndsText Left s out (leaves (of_text (Err TextRefusal.NoRoom)) out)
    × ((of_text (Err TextRefusal.NoRoom)).place ≤ text_most + 1)
unfolding of_text
short_ends s out lt = (
  record {
    reads = λ text left. absurd (let n = left_room s left in omega (arith, n, lt));
    refusal = λ told. refl;
    written = λ none. absurd (omega (arith, none));
    short = λ less. refl;
  },
  omega arith,
)

-- the state of a text that is too long
pub long_ends : (s out : List ℕ) → state_room ≤ length s → text_most < two_at s 0
    → EndsText Left s out (leaves (of_text (Err TextRefusal.TooLong)) out)
    × ((of_text (Err TextRefusal.TooLong)).place ≤ text_most + 1)
unfolding of_text
long_ends s out room over = (
  record {
    reads = λ text left. go text (left_whole s left) (dec_lt text_most (length text));
    refusal = λ told. refl;
    written = λ none. absurd (omega (arith, none));
    short = λ less. absurd (omega (arith, less, room));
  },
  omega arith,
)
  where
    go : (text : List ℕ) → Left text s → Dec (text_most < length text)
        → ReadsText text out (leaves (of_text (Err TextRefusal.TooLong)) out)
    go text left (yes h) = reads_long text out h
    go text left (no h) = absurd (let n = left.size (omega (arith, h)) in omega (arith, n, over, h))
