-- States of a text that comes in pieces: cut, stored, and with a part more.
use mathlib.Core.Path.{◌≡◌, refl, ap, sym, ◌∙◌, subst}
use mathlib.Core.Bool.{Bool, true, false, cond}
use mathlib.Core.List.{List, ◌++◌, foldl}
use Prim.Native.Nat.{ℕ, ◌+◌, ◌*◌, ◌-◌, ◌≤◌, ◌<◌, min}
use native.Mathlib.Nat.{min-le_left}
use native.Mathlib.Omega.{arith}
use lib.Dec.{ltb}
use lib.ListN.{length, take, drop, length-append, length-drop, length-take}
use lib.Seq.{length-take-le, take_all, drop-append-le, drop-drop}
use borrow.Author.Tests.{lt-ltb, le-ltb}
use borrow.Rule.Slice.PartMut.{put_mid}
use Rattle.base.specs.Lists.{all}
use Rattle.base.proofs.Lists.{not_both}
use Rattle.rules.specs.Limits.{text_most, line_most, fields_most}
use Rattle.rules.specs.Names.{is_printable}
use Rattle.rules.specs.Frames.{is_line}
use Rattle.rules.specs.Trees.{le2}
use Rattle.laws.specs.Places.{two_at}
use Rattle.writing.specs.Writes.{Writes}
use Rattle.writing.specs.Puts.{placed, put}
use Rattle.writing.proofs.PutLaws.{put_writes}
use Rattle.text_laws.specs.Fold as fold
use Rattle.text_laws.proofs.Fed.{cut_lost, lost_stage}
use Rattle.text_laws.proofs.FedRuns.{fed_run, fed_free}
use Rattle.text_laws.proofs.Steadiness.{steady_cut}
use Rattle.texts.specs.RowPlaces.{row_room}
use Rattle.texts.specs.States.{Taken, CutStep}
use Rattle.texts.specs.StateNumbers.{used_at, line_at, row_at, counts_at, held_at, state_room, reading_in, Fits, Loaded}
use Rattle.texts.specs.StateNumbers.{NoteIn, Saved, twos_in}
use Rattle.texts.specs.WalkSteps.{KeptAs}
use Rattle.texts.specs.PieceStates.{StateHolds, Clean, Cleared, SameAround, CutState, StoredState, KeptIn}
use Rattle.texts.specs.PieceStates.{held_line, line_bytes, row_bytes, count_bytes, held_bytes}
use Rattle.texts.specs.declared.states.Reading.{Reading}
use Rattle.texts.specs.Fills.{zeros}
use Rattle.texts.proofs.ClearedStates.{row_front, cleared_changed}
use Rattle.texts.proofs.FillLaws.{zeros_behind}
use Rattle.texts.proofs.NameAreas.{written_word, drop_take}
use Rattle.texts.proofs.StateChanges.{Changed, changed_wider, changed_then, writes_changed, two_changed}
use Rattle.texts.proofs.StateChanges.{two_put, saved_changed, part_long, lent_is, lent_changed, rest_behind}
use Rattle.texts.proofs.StateChanges.{reading_before, reading_behind, row_behind, row_before}
use Rattle.texts.proofs.StateChanges.{noted_before, noted_behind}
use Rattle.texts.proofs.StateChanges.{counts_behind, held_behind, same_around}

-- what is kept, in bytes that are the same
pub kept_in : {f : fold.Found} {r q : Reading} {h i row line c d : List ℕ} → r ≡ q → h ≡ i → row ≡ line → c ≡ d
    → KeptAs f r h row c → KeptAs f q i line d
kept_in {f} {r} {q} {h} {i} {row} {line} {c} {d} er eh ew ec k =
    subst (λ (x : Reading). KeptAs f x i line d) er
    (subst (λ (x : List ℕ). KeptAs f r x line d) eh
    (subst (λ (x : List ℕ). KeptAs f r h x d) ew
    (subst (λ (x : List ℕ). KeptAs f r h row x) ec k)))

-- ── cut ──

module _ {size : ℕ} {s t u : List ℕ} {r q : Reading} (room : state_room ≤ length s) (most : size ≤ text_most)
    (load : Loaded size s r) (save : Saved s q t) (clear : Cleared q.row t u) where
  cut_first : Changed 4 24 s t
  cut_first = saved_changed save

  cut_both : Changed 2 counts_at s u
  cut_both =
      changed_then (changed_wider 2 counts_at (omega arith) (omega arith) cut_first) (cleared_changed clear)

  pub cut_around : SameAround s u
  cut_around = same_around cut_both (omega arith) (omega arith)

  pub cut_states : Taken r q → CutStep r q (row_bytes s) → q.lines ≡ r.lines → CutState size s u
  cut_states taken step lines =
      let fits : Fits size q = (taken.0, (let n = load.fits.1 in omega (arith, n, lines))) in
      let small : Fits text_most q = (fits.0, (let n = fits.1 in omega (arith, n, most))) in
      let number : reading_in t ≡ q = save.numbers small in
      let is : reading_in u ≡ q = clear.reading ∙ number in
      record {
        fits = subst (λ (x : Reading). Fits size x) (sym is) fits;
        noted = clear.noted (save.noted small);
        used = clear.used;
        clean = clear.clean (ap (λ (x : Reading). x.row) is);
        step = λ f fit kept. done is f (load.same fit) kept;
      }
    where
      done : reading_in u ≡ q → (f : fold.Found) → r ≡ reading_in s → KeptIn f s → KeptIn (fold.cut f) u
      done is f same kept =
          let k : KeptAs f r (held_bytes s) (row_bytes s) (twos_in fields_most (count_bytes s)) =
          kept_in (sym same) refl refl refl kept in
          let w = step f (held_bytes s) (twos_in fields_most (count_bytes s)) k.steady k.rows k.holds in
          let front = clear.rows ∙ ap (take (65 * q.row)) (row_behind cut_first (omega arith)) in
          kept_in (sym is) (sym (held_behind cut_both (omega arith))) refl
          (ap (twos_in fields_most) (sym (counts_behind cut_both (omega arith))))
          (record {
            steady = steady_cut f k.steady;
            rows = row_front (row_bytes s) (row_bytes u) taken.0.width front w.1;
            holds = w.0;
          })

-- ── stored ──

module _ (s t u part row counts : List ℕ) {next : ℕ} {v : List ℕ} {r : Reading} (room : state_room ≤ length s)
    (long : length row ≡ row_room) (save : Saved s r t) (rows : placed next u ≡ put t row_at row)
    (same : length part ≡ length (count_bytes u))
    (clear : Cleared r.row (put_mid counts_at (2 * fields_most) u part) v) where
  stored_first : Changed 4 24 s t
  stored_first = saved_changed save

  row_written : Writes t row_at row u next
  row_written = put_writes (let n = stored_first.long in omega (arith, n, room, long)) rows

  stored_second : Changed row_at counts_at t u
  stored_second =
      let n = stored_first.long in
      let end = row_written.end in
      changed_wider row_at counts_at (omega arith) (omega (arith, long, end))
      (writes_changed (omega (arith, n, room)) row_written)

  row_there : row_bytes u ≡ row
  row_there =
      let n = stored_first.long in
      ap (λ (m : ℕ). take m (drop row_at u)) (sym long) ∙ written_word row_written (omega (arith, n, room))

  room_counts : counts_at + 2 * fields_most ≤ length u
  room_counts = let n = stored_first.long in let m = stored_second.long in omega (arith, n, m, room)

  whole : length part ≡ 2 * fields_most
  whole = same ∙ part_long counts_at (2 * fields_most) u room_counts

  stored_third : Changed counts_at held_at u (put_mid counts_at (2 * fields_most) u part)
  stored_third = lent_changed counts_at (2 * fields_most) u part room_counts whole

  stored_last : Changed 2 counts_at (put_mid counts_at (2 * fields_most) u part) v
  stored_last = cleared_changed clear

  stored_all : Changed 2 held_at s v
  stored_all =
      changed_then (changed_wider 2 held_at (omega arith) (omega arith) stored_first)
      (changed_then (changed_wider 2 held_at (omega arith) (omega arith) stored_second)
      (changed_then (changed_wider 2 held_at (omega arith) (omega arith) stored_third)
      (changed_wider 2 held_at (omega arith) (omega arith) stored_last)))

  stored_reading : Fits text_most r → reading_in v ≡ r
  stored_reading f =
      clear.reading ∙ reading_before stored_third (omega arith) ∙ reading_before stored_second (omega arith)
      ∙ save.numbers f

  pub stored_states : twos_in fields_most part ≡ take fields_most counts
      → SameAround s v × StoredState s r row counts v
  stored_states twos = (
    same_around stored_all (omega arith) (omega arith),
    record {
      reading = stored_reading;
      noted = λ f. clear.noted (noted_before stored_third (omega arith)
          (noted_before stored_second (omega arith) (save.noted f)));
      used = clear.used;
      rows = clear.rows ∙ ap (take (65 * r.row)) (row_before stored_third (omega arith) ∙ row_there);
      clean = λ f. clear.clean (ap (λ (x : Reading). x.row) (stored_reading f));
      twos = ap (twos_in fields_most) (counts_behind stored_last (omega arith)
          ∙ lent_is counts_at (2 * fields_most) u part room_counts whole) ∙ twos;
      held = held_behind stored_all (omega arith);
    },
  )

-- ── a part more ──

-- an unfinished line that is known, with a part behind it
cut_unended : (f : fold.Found) (l : List ℕ) → (fold.is_lost f.stage ≡ false → line_most < length l)
    → fold.unended f l ≡ fold.cut f
unfolding fold.unended
cut_unended f l long = go (fold.is_lost f.stage) refl
  where
    either : (b : Bool) → fold.cut f ≡ f → cond b (fold.cut f) f ≡ fold.cut f
    either true e = refl
    either false e = sym e

    go : (b : Bool) → fold.is_lost f.stage ≡ b → cond (ltb line_most (length l)) (fold.cut f) f ≡ fold.cut f
    go true e = either (ltb line_most (length l)) (cut_lost f (lost_stage f.stage e))
    go false e = rw (lt-ltb line_most (length l) (long e)) refl

same_unended : (f : fold.Found) (l : List ℕ) → (fold.is_lost f.stage ≡ false → length l ≤ line_most)
    → fold.unended f l ≡ f
unfolding fold.unended
same_unended f l short = go (fold.is_lost f.stage) refl
  where
    either : (b : Bool) → fold.cut f ≡ f → cond b (fold.cut f) f ≡ f
    either true e = e
    either false e = refl

    go : (b : Bool) → fold.is_lost f.stage ≡ b → cond (ltb line_most (length l)) (fold.cut f) f ≡ f
    go true e = either (ltb line_most (length l)) (cut_lost f (lost_stage f.stage e))
    go false e = rw (le-ltb line_most (length l) (short e)) refl

-- behind a cut no line matters, and there are as many lines
cut_is : (f : fold.Found) → (fold.is_lost (fold.cut f).stage ≡ true) × ((fold.cut f).lines ≡ f.lines)
cut_is f = go (fold.is_lost f.stage) refl
  where
    go : (b : Bool) → fold.is_lost f.stage ≡ b
        → (fold.is_lost (cond b f (fold.wrong f)).stage ≡ true) × ((cond b f (fold.wrong f)).lines ≡ f.lines)
    go true e = (e, refl)
    go false e = (refl, refl)

-- how long the held line is
held_long : (s : List ℕ) → state_room ≤ length s → two_at s used_at ≤ line_most
    → length (held_line s) ≡ two_at s used_at
held_long s room less =
    length-take-le (two_at s used_at) (drop line_at s) (let n = length-drop line_at s in omega (arith, n))

-- the line of what is held, with its length
line_long : (k : fold.Kept) (s part : List ℕ) → state_room ≤ length s → StateHolds k s
    → fold.is_lost k.found.stage ≡ false → length (k.line ++ part) ≡ two_at s used_at + length part
line_long k s part room h e =
    let n : length k.line ≡ two_at s used_at =
    ap (λ (l : List ℕ). length l) (sym (h.line e)) ∙ held_long s room h.used in
    length-append k.line part ∙ ap (λ (m : ℕ). m + length part) n

-- it is known by its parts what is held behind a part
part_holds : (k : fold.Kept) (part t : List ℕ) → k.size + length part ≤ text_most → all is_printable part ≡ true
    → is_line k.line ≡ true → length k.line ≤ line_most
    → Fits (k.size + length part) (reading_in t) → NoteIn t → two_at t used_at ≤ line_most
    → KeptIn (fold.unended k.found (k.line ++ part)) t
    → (fold.is_lost (fold.unended k.found (k.line ++ part)).stage ≡ false
    → held_line t ≡ take line_most (k.line ++ part)) → Clean t
    → StateHolds (foldl fold.fed k part) t
part_holds k part t le plain free short fits noted used kept line clean =
    let free' = fed_free part k free in
    subst (λ (q : fold.Kept). is_line q.line ≡ true → StateHolds q t) (sym (fed_run part k plain le short))
    (λ f. record {
      fits = fits;
      noted = noted;
      used = used;
      free = f;
      short = (let n = length-take line_most (k.line ++ part) in
          let m = min-le_left line_most (length (k.line ++ part)) in omega (arith, n, m));
      kept = kept;
      line = line;
      clean = clean;
    }) free'

-- the length as the code reads it
pub least_used : (s : List ℕ) {n used : ℕ} → n ≡ two_at s used_at → used ≡ min n line_most
    → two_at s used_at ≤ line_most → used ≡ two_at s used_at
least_used s e is le = omega (arith, e, is, le)

-- too long
pub part_cut : (size used : ℕ) (s part t : List ℕ) → state_room ≤ length s → size ≤ text_most
    → all is_printable part ≡ true → (two_at s used_at ≤ line_most → used ≡ two_at s used_at)
    → line_most - used < length part → CutState size s t
    → (k : fold.Kept) → k.size + length part ≤ size → StateHolds k s → StateHolds (foldl fold.fed k part) t
part_cut size used s part t room most plain is over c k le h =
    let n = is h.used in
    let f = k.found in
    let l = k.line ++ part in
    let same : fold.unended f l ≡ fold.cut f =
    cut_unended f l (λ e. let m = line_long k s part room h e in omega (arith, n, m, over)) in
    let kept : KeptIn (fold.cut f) t = c.step f (h.fits.0, (let m = h.fits.1 in omega (arith, m, le))) h.kept in
    let lines : (reading_in t).lines ≤ k.size = (
    let a = kept.holds.counts.lines in
    let b = h.kept.holds.counts.lines in
    let d = (cut_is f).1 in
    let m = h.fits.1 in omega (arith, a, b, d, m)
    ) in
    part_holds k part t (omega (arith, le, most)) plain h.free h.short
    (c.fits.0, omega (arith, lines)) c.noted (let z = c.used in omega (arith, z))
    (subst (λ (x : fold.Found). KeptIn x t) (sym same) kept)
    (λ e. absurd (not_both (fold.is_lost (fold.cut f).stage) (cut_is f).0
    (subst (λ (x : fold.Found). fold.is_lost x.stage ≡ false) same e))) c.clean

-- short enough
module _ (used : ℕ) (s part t : List ℕ) {next end : ℕ} {u : List ℕ} (room : state_room ≤ length s)
    (fit : used + length part ≤ line_most) (add : placed next t ≡ put s (line_at + used) part)
    (two : placed end u ≡ put t used_at (le2 (used + length part))) where
  part_written : Writes s (line_at + used) part t next
  part_written = put_writes (omega arith) add

  part_first : Changed line_at row_at s t
  part_first =
      let end = part_written.end in
      changed_wider line_at row_at (omega arith) (omega (arith, end)) (writes_changed (omega arith) part_written)

  part_room : used_at + 2 ≤ length t
  part_room = let n = part_first.long in omega (arith, n, room)

  part_second : Changed 2 4 t u
  part_second = two_changed t used_at (used + length part) part_room two

  part_both : Changed 2 row_at s u
  part_both =
      changed_then (changed_wider 2 row_at (omega arith) (omega arith) part_first)
      (changed_wider 2 row_at (omega arith) (omega arith) part_second)

  pub part_around : SameAround s u
  part_around = same_around part_both (omega arith) (omega arith)

  part_used : two_at u used_at ≡ used + length part
  part_used = two_put t used_at (used + length part) part_room two (omega arith)

  part_reading : reading_in u ≡ reading_in s
  part_reading = reading_behind part_second (omega arith) ∙ reading_before part_first (omega arith)

  part_line : held_line u ≡ take used (drop line_at s) ++ part
  part_line =
      let n : length (take (line_at + used) s) ≡ line_at + used = length-take-le (line_at + used) s (omega arith) in
      let e : next ≡ line_at + (used + length part) = (let m = part_written.end in omega (arith, m)) in
      ap (λ (m : ℕ). take m (drop line_at u)) part_used
      ∙ ap (take (used + length part)) (rest_behind part_second line_at (omega arith))
      ∙ sym (drop_take line_at (used + length part) t)
      ∙ ap (drop line_at) (ap (λ (m : ℕ). take m t) (sym e) ∙ part_written.text)
      ∙ drop-append-le line_at (take (line_at + used) s) part (omega (arith, n))
      ∙ ap (λ (l : List ℕ). l ++ part) (drop_take line_at used s)

  -- behind it nothing stands, as before
  behind_part : drop (used + length part) (line_bytes u) ≡ drop (used + length part) (line_bytes s)
  behind_part =
      let k = used + length part in
      let whole : line_most ≡ k + (line_most - k) = omega arith in
      let end : line_at + k ≡ next = (let m = part_written.end in omega (arith, m)) in
      let cut : (l : List ℕ) → drop k (line_bytes l) ≡ take (line_most - k) (drop (line_at + k) l) =
      λ l. ap (λ (m : ℕ). drop k (take m (drop line_at l))) whole ∙ drop_take k (line_most - k) (drop line_at l)
      ∙ ap (take (line_most - k)) (drop-drop k line_at l) in
      cut u
      ∙ ap (take (line_most - k)) (rest_behind part_second (line_at + k) (omega arith)
      ∙ subst (λ (m : ℕ). drop m t ≡ drop m s) (sym end) part_written.beyond)
      ∙ sym (cut s)

  part_clean : used ≡ two_at s used_at → Clean s → Clean u
  part_clean n c = record {
    line = ap (λ (m : ℕ). drop m (line_bytes u)) part_used ∙ behind_part
        ∙ sym (drop-drop (length part) used (line_bytes s))
        ∙ ap (drop (length part)) (ap (λ (m : ℕ). drop m (line_bytes s)) n ∙ c.line
        ∙ ap (λ (m : ℕ). zeros (line_most - m)) (sym n))
        ∙ zeros_behind (length part) (line_most - used) (omega arith)
        ∙ ap zeros (omega (arith, part_used));
    rows = ap (λ (x : Reading). drop (65 * x.row) (row_bytes u)) part_reading
        ∙ ap (drop (65 * (reading_in s).row)) (row_behind part_both (omega arith)) ∙ c.rows
        ∙ ap (λ (x : Reading). zeros (row_room - 65 * x.row)) (sym part_reading);
  }

  pub part_added : (size : ℕ) → size ≤ text_most → all is_printable part ≡ true
      → (two_at s used_at ≤ line_most → used ≡ two_at s used_at)
      → (k : fold.Kept) → k.size + length part ≤ size → StateHolds k s → StateHolds (foldl fold.fed k part) u
  part_added size most plain is k le h =
      let n = is h.used in
      let f = k.found in
      let l = k.line ++ part in
      let same : fold.unended f l ≡ f =
      same_unended f l (λ e. let m = line_long k s part room h e in omega (arith, n, m, fit)) in
      let kept : KeptIn f u =
      kept_in (sym part_reading) (sym (held_behind part_both (omega arith)))
      (sym (row_behind part_both (omega arith)))
      (ap (twos_in fields_most) (sym (counts_behind part_both (omega arith)))) h.kept in
      let fits : Fits (k.size + length part) (reading_in u) =
      subst (λ (x : Reading). Fits (k.size + length part) x) (sym part_reading)
      (h.fits.0, (let m = h.fits.1 in omega (arith, m))) in
      part_holds k part u (omega (arith, le, most)) plain h.free h.short fits
      (noted_behind part_second (omega arith) (noted_before part_first (omega arith) h.noted))
      (let z = part_used in omega (arith, z, fit))
      (subst (λ (x : fold.Found). KeptIn x u) (sym same) kept)
      (λ e. line n (subst (λ (x : fold.Found). fold.is_lost x.stage ≡ false) same e)) (part_clean n h.clean)
    where
      line : used ≡ two_at s used_at → fold.is_lost k.found.stage ≡ false
          → held_line u ≡ take line_most (k.line ++ part)
      line n e =
          let m = line_long k s part room h e in
          part_line ∙ ap (λ (i : ℕ). take i (drop line_at s) ++ part) n ∙ ap (λ (l : List ℕ). l ++ part) (h.line e)
          ∙ sym (take_all line_most (k.line ++ part) (omega (arith, n, m, fit)))
