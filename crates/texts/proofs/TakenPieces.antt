-- A piece with a line feed, or with a byte that is not allowed, taken into a state: its lines are walked, what is kept
-- of them is stored, and the rest goes behind it.
use mathlib.Core.Path.{◌≡◌, refl, ap, sym, ◌∙◌, subst}
use mathlib.Core.Bool.{true}
use mathlib.Core.List.{List, [], foldl}
use Prim.Native.Nat.{ℕ, ◌+◌, ◌-◌, ◌≤◌}
use native.Mathlib.Omega.{arith}
use lib.ListN.{length, take, drop, length-drop}
use lib.Seq.{take_all}
use Rattle.base.specs.Lists.{all}
use Rattle.rules.specs.Limits.{text_most, line_most, fields_most}
use Rattle.rules.specs.Names.{is_printable}
use Rattle.laws.specs.Places.{two_at}
use Rattle.writing.specs.Puts.{placed, put}
use Rattle.writing.proofs.PutLaws.{put_writes}
use Rattle.text_laws.specs.Fold as fold
use Rattle.text_laws.proofs.Bounds.{bounded_all}
use Rattle.text_laws.proofs.FedAlike.{alike_trans}
use Rattle.text_laws.proofs.FedRuns.{fed_free, fed_size}
use Rattle.texts.specs.RowPlaces.{row_room}
use Rattle.texts.specs.StateNumbers.{used_at, line_at, reading_in, Fits, Loaded, twos_in}
use Rattle.texts.specs.WalkSteps.{LinesLeft, WalkedTo}
use Rattle.texts.specs.PieceStates.{StateHolds, StoredState, PieceWalk, row_bytes, count_bytes, held_bytes}
use Rattle.texts.specs.declared.states.Reading.{Reading}
use Rattle.texts.specs.declared.walks.Walked.{Walked}
use Rattle.texts.proofs.ClearedStates.{row_front}
use Rattle.texts.proofs.KeptStates.{kept_in}
use Rattle.texts.proofs.NameAreas.{written_word}
use Rattle.texts.proofs.PieceLaws.{holds_alike, run_alike}

-- a buffer that is all written over
pub put_whole : (before w : List ℕ) {after : List ℕ} {next : ℕ} → length before ≡ length w → placed next after ≡ put
    before 0 w
    → after ≡ w
put_whole before w {after} long e =
    let x = put_writes {w = w} (omega (arith, long)) e in
    let same = x.kept in
    sym (take_all (length w) after (omega (arith, same, long))) ∙ written_word x (omega arith)

module _ (s piece : List ℕ) (size : ℕ) (w : Walked) {used : ℕ} {r : Reading}
    {row counts t row' counts' u part v : List ℕ}
    (fits : size + length piece ≤ text_most)
    (load : Loaded size s r) (used_is : two_at s used_at ≤ line_most → used ≡ two_at s used_at)
    (rows : row ≡ row_bytes s) (twos : counts ≡ twos_in fields_most (count_bytes s))
    (at : w.at ≤ length piece) (left : LinesLeft (length piece) r (length piece - w.at) w.reading)
    (walk : PieceWalk s used piece r w t row row' counts counts')
    (row_long : length row' ≡ row_room) (counts_long : length counts' ≡ fields_most)
    (stored : StoredState t w.reading row' counts' u) (rest : part ≡ drop w.at piece)
    (add : all is_printable part ≡ true → (k : fold.Kept) → k.size + length part ≤ size + length piece → StateHolds k u
    → StateHolds (foldl fold.fed k part) v) where
  module _ (k : fold.Kept) (eq : k.size ≡ size) (h : StateHolds k s) where
    loaded : r ≡ reading_in s
    loaded = load.same (h.fits.0, (let n = h.fits.1 in omega (arith, n, eq)))

    walked : WalkedTo k piece 0 w (held_bytes t) row' counts'
    walked =
        walk k (omega (arith, eq, fits)) h.free h.short
        (λ e. ap (λ (n : ℕ). take n (drop line_at s)) (used_is h.used) ∙ h.line e)
        (kept_in (sym loaded) refl (sym rows) (sym twos) h.kept)

    -- behind its last line feed
    abbrev behind : fold.Kept
    behind = record { size = size + w.at; line = []; found = walked.walking.kept.found }

    part_size : length part ≡ length piece - w.at
    part_size = ap length rest ∙ length-drop w.at piece

    behind_lines : w.reading.lines ≤ size + w.at
    behind_lines = let n = left.1 in let m = load.fits.1 in omega (arith, n, m, at)

    walked_fits : Fits text_most w.reading
    walked_fits = let n = behind_lines in (left.0, omega (arith, n, fits, at))

    stored_reading : reading_in u ≡ w.reading
    stored_reading = stored.reading walked_fits

    behind_holds : StateHolds behind u
    unfolding all
    behind_holds =
        let is = walked.walking.is in
        record {
          fits = subst (λ (x : Reading). Fits (size + w.at) x) (sym stored_reading) (left.0, behind_lines);
          noted = stored.noted walked_fits;
          used = (let z = stored.used in omega (arith, z));
          free = refl;
          short = omega arith;
          kept = kept_in (sym stored_reading) (sym stored.held) refl
              (sym (stored.twos ∙ take_all fields_most counts' (omega (arith, counts_long))))
              (record {
                steady = is.steady;
                rows = row_front row' (row_bytes u) left.0.width stored.rows
                    is.rows;
                holds = is.holds;
              });
          line = λ e. ap (λ (n : ℕ). take n (drop line_at u)) stored.used;
          clean = stored.clean walked_fits;
        }

    plain : all is_printable part ≡ true
    plain = subst (λ (l : List ℕ). all is_printable l ≡ true) (sym rest) walked.plain

    behind_alike : fold.Alike (foldl fold.fed k piece) (foldl fold.fed behind part)
    behind_alike =
        let x = walked.walking in
        let n = part_size in
        let room = x.size in
        alike_trans _ _ _
        (subst (λ (l : List ℕ). fold.Alike (foldl fold.fed k piece) (foldl fold.fed x.kept l)) (sym rest) x.alike)
        (run_alike x.kept behind part plain (omega (arith, n, room)) (omega (arith, n, at, fits)) (omega arith)
        x.begun refl)

    pub lines_taken : StateHolds (foldl fold.fed k piece) v
    lines_taken =
        let n = part_size in
        let a = fed_size piece k (omega (arith, eq, fits)) in
        let b = fed_size part behind (omega (arith, n, at, fits)) in
        let bounded = bounded_all piece k
        (record { size = omega (arith, eq, fits); line = h.short; found = h.kept.steady.small }) in
        holds_alike (foldl fold.fed k piece) (foldl fold.fed behind part) v behind_alike
        (omega (arith, a, b, n, at, eq)) (fed_free piece k h.free) bounded.line
        (add plain behind (omega (arith, n, at)) behind_holds)
