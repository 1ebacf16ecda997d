-- The numbers of a reading as bytes of a state.
use Rattle.std.specs.Prelude.{Option as Held, Some, None}
use Rattle.std.proofs.Math.Option.{none, some}
use Rattle.rules.specs.Answers.{refused}
use Rattle.texts.specs.declared.notes.Note.TheVariants.{BadByte, BadLine, TooMany, Mismatch}
use mathlib.Core.Path.{◌≡◌, refl, ap, sym, ◌∙◌}
use mathlib.Core.Bool.{Bool, true, false, cond}
use mathlib.Core.List.{List, [], ◌∷◌, ◌++◌}
use Prim.Native.Nat.{ℕ, ◌+◌, ◌*◌, ◌/◌, ◌%◌, ◌≤◌, ◌<◌, min, max}
use native.Mathlib.Omega.{arith}
use lib.Dec.{eqb}
use Rattle.std.specs.Int.{from_bool}
use lib.ListN.{length, take, drop, get_or}
use lib.Seq.{get_or-take, get_or-drop, get_or-append-add, length-take-le, take-take, take-append-le}
use Rattle.rules.specs.Limits.{text_most, label_most, fields_most, row_lines_most}
use Rattle.rules.specs.Values.{yes_no}
use Rattle.laws.specs.Places.{two_at}
use Rattle.writing.specs.Writes.{Writes}
use Rattle.writing.specs.Puts.{placed, put}
use Rattle.writing.proofs.PutLaws.{put_writes}
use Rattle.texts.specs.HeldAreas.{slot_most, record_most}
use Rattle.texts.specs.Noted.{place_of, note_of}
use Rattle.texts.specs.States.{Room}
use Rattle.texts.specs.StateNumbers.{numbers_at, line_at, stage_code, stage_at, reading_in, low, high, number_bytes}
use Rattle.texts.specs.StateNumbers.{note_code, place_or, note_at, refusal_in, NoteIn, Fits, Loaded, Saved}
use Rattle.texts.specs.declared.notes.Note.{Note}
use Rattle.texts.specs.declared.notes.Note.TheVariants as by
use Rattle.texts.specs.declared.states.Stage.{Stage}
use Rattle.texts.specs.declared.states.Stage.TheVariants as at
use Rattle.texts.specs.declared.states.Reading.{Reading}

-- ── what a byte or two stand for ──

pub stage_back : (s : Stage) → stage_at (stage_code s) ≡ s
unfolding stage_at stage_code
stage_back at.Opening = refl
stage_back at.Blank = refl
stage_back at.TensRuler = refl
stage_back at.UnitsRuler = refl
stage_back at.TopBorder = refl
stage_back at.FirstRow = refl
stage_back at.InRow = refl
stage_back at.RowOrBlank = refl
stage_back at.WhereLine = refl
stage_back at.LastBlank = refl
stage_back at.FirstField = refl
stage_back at.FieldLine = refl
stage_back at.Lost = refl

pub yes_byte : (b : Bool) → from_bool b ≡ yes_no b
yes_byte true = refl
yes_byte false = refl

one_back : (n : ℕ) → n < 256 → low n ≡ n
one_back n h = omega arith

two_back : (n : ℕ) → n < 65536 → low n + 256 * high n ≡ n
two_back n h = let q : n / 256 % 256 ≡ n / 256 = omega arith in rw q (omega arith)

rested_back : (b : Bool) → eqb (yes_no b) 1 ≡ b
rested_back true = refl
rested_back false = refl

-- ── a refusal ──

-- by its number and its place it is read again, and told as it is, whatever place stands beside none
note_back : (q : ℕ) (a : Held Note) → (note_at (note_code a) (place_or q a) ≡ a)
    × (cond (eqb (note_code a) 0) none (some (refused (note_code a) (place_or q a))) ≡ note_of a)
unfolding note_at note_code place_or
note_back q None = (refl, refl)
note_back q (Some by.BadByte) = (refl, refl)
note_back q (Some (by.BadLine p)) = (refl, refl)
note_back q (Some by.TooMany) = (refl, refl)
note_back q (Some (by.BadForm p)) = (refl, refl)
note_back q (Some (by.OverLimit p)) = (refl, refl)
note_back q (Some (by.Mismatch p)) = (refl, refl)
note_back q (Some (by.Repeated p)) = (refl, refl)
note_back q (Some (by.BadName p)) = (refl, refl)
note_back q (Some (by.BadRest p)) = (refl, refl)

-- its place is within what it is within, and what the other place is within
place_or_most : (q m : ℕ) (a : Held Note) → q ≤ m → place_of a ≤ m → place_or q a ≤ m
unfolding place_or
place_or_most q m None h k = h
place_or_most q m (Some a) h k = k

-- of a refusal the place is within the least that is allowed
cond_placed : (b : Bool) (x y : Held Note) (m : ℕ) → place_of x ≤ m → place_of y ≤ m → place_of (cond b x y) ≤ m
cond_placed true x y m p q = p
cond_placed false x y m p q = q

note_placed : (n p m : ℕ) → p ≤ m → place_of (note_at n p) ≤ m
unfolding note_at
note_placed n p m le =
    cond_placed (eqb n 2) _ _ m (omega arith)
    (cond_placed (eqb n 3) _ _ m le
    (cond_placed (eqb n 4) _ _ m (omega arith)
    (cond_placed (eqb n 5) _ _ m le
    (cond_placed (eqb n 6) _ _ m le
    (cond_placed (eqb n 7) _ _ m le
    (cond_placed (eqb n 8) _ _ m le
    (cond_placed (eqb n 9) _ _ m le
    (cond_placed (eqb n 10) _ _ m le (omega arith)))))))))

cond_same : (b : Bool) (x y : Held Note) {x' y' : Held Note} {m : ℕ} → place_of (cond b x y) ≤ m
    → (place_of x ≤ m → x' ≡ x) → (place_of y ≤ m → y' ≡ y) → cond b x' y' ≡ cond b x y
cond_same true x y h f g = f h
cond_same false x y h f g = g h

note_same : (n p m : ℕ) → place_of (note_at n p) ≤ m → note_at n (min p m) ≡ note_at n p
unfolding note_at
note_same n p m h =
    cond_same (eqb n 2) _ _ h (λ le. refl) (λ h.
    cond_same (eqb n 3) _ _ h (λ le. ap (λ (z : ℕ). Some (by.BadLine z)) (omega (arith, le))) (λ h.
    cond_same (eqb n 4) _ _ h (λ le. refl) (λ h.
    cond_same (eqb n 5) _ _ h (λ le. ap (λ (z : ℕ). Some (by.BadForm z)) (omega (arith, le))) (λ h.
    cond_same (eqb n 6) _ _ h (λ le. ap (λ (z : ℕ). Some (by.OverLimit z)) (omega (arith, le))) (λ h.
    cond_same (eqb n 7) _ _ h (λ le. ap (λ (z : ℕ). Some (by.Mismatch z)) (omega (arith, le))) (λ h.
    cond_same (eqb n 8) _ _ h (λ le. ap (λ (z : ℕ). Some (by.Repeated z)) (omega (arith, le))) (λ h.
    cond_same (eqb n 9) _ _ h (λ le. ap (λ (z : ℕ). Some (by.BadName z)) (omega (arith, le))) (λ h.
    cond_same (eqb n 10) _ _ h (λ le. ap (λ (z : ℕ). Some (by.BadRest z)) (omega (arith, le))) (λ h. refl)))))))))

-- ── a reading in its bytes ──

-- a reading depends on the bytes from the place 4 up to 24
pub reading_same : (a b : List ℕ) → ((i : ℕ) → i < 20 → get_or a (4 + i) 0 ≡ get_or b (4 + i) 0)
    → reading_in a ≡ reading_in b
unfolding two_at
reading_same a b e =
    rw (
      e 0 (omega arith),
      e 1 (omega arith),
      e 2 (omega arith),
      e 3 (omega arith),
      e 4 (omega arith),
      e 5 (omega arith),
      e 6 (omega arith),
      e 7 (omega arith),
      e 8 (omega arith),
      e 9 (omega arith),
      e 10 (omega arith),
      e 11 (omega arith),
      e 12 (omega arith),
      e 13 (omega arith),
      e 14 (omega arith),
      e 15 (omega arith),
      e 16 (omega arith),
      e 18 (omega arith),
      e 19 (omega arith),
    )
    refl

pub reading_front : (a b : List ℕ) → drop 4 (take 24 a) ≡ drop 4 (take 24 b) → reading_in a ≡ reading_in b
reading_front a b e =
    reading_same a b (λ i h. sym (byte a i h) ∙ ap (λ (t : List ℕ). get_or t i 0) e ∙ byte b i h)
  where
    byte : (s : List ℕ) (i : ℕ) → i < 20 → get_or (drop 4 (take 24 s)) i 0 ≡ get_or s (4 + i) 0
    byte s i h = get_or-drop 4 (take 24 s) i 0 ∙ get_or-take 24 s (4 + i) 0 (omega arith)

pub reading_take : (a b : List ℕ) → take 24 a ≡ take 24 b → reading_in a ≡ reading_in b
reading_take a b e = reading_front a b (ap (λ (t : List ℕ). drop 4 t) e)

-- and so does what they say of its refusal
pub noted_same : (a b : List ℕ) → ((i : ℕ) → i < 20 → get_or a (4 + i) 0 ≡ get_or b (4 + i) 0) → NoteIn b → NoteIn a
unfolding two_at
noted_same a b e n =
    let r = reading_same a b e in
    let lines = ap (λ (x : Reading). x.lines) r in
    let place : two_at a 22 ≡ two_at b 22 = rw (e 18 (omega arith), e 19 (omega arith)) refl in
    let same : refusal_in a ≡ refusal_in b =
    rw (e 16 (omega arith), e 18 (omega arith), e 19 (omega arith)) refl in
    let placed = n.placed in record {
      told = same ∙ n.told ∙ ap (λ (x : Reading). note_of x.note) (sym r);
      placed = omega (arith, place, lines, placed);
    }

pub noted_take : (a b : List ℕ) → take 24 a ≡ take 24 b → NoteIn b → NoteIn a
noted_take a b e = noted_same a b (λ i h. sym (byte a i h) ∙ ap (λ (t : List ℕ). get_or t (4 + i) 0) e ∙ byte b i h)
  where
    byte : (s : List ℕ) (i : ℕ) → i < 20 → get_or (take 24 s) (4 + i) 0 ≡ get_or s (4 + i) 0
    byte s i h = get_or-take 24 s (4 + i) 0 (omega arith)

-- the bytes of a reading behind four bytes
reading_back : (r : Reading) (q : ℕ) → Fits text_most r → q ≤ r.lines + 1
    → reading_in (0 ∷ 0 ∷ 0 ∷ 0 ∷ number_bytes r q) ≡ r
unfolding two_at
reading_back r q f le =
    let room : Room r = f.0 in
    let most = place_or_most q (r.lines + 1) r.note le room.placed in
    rw (
      two_back r.lines (omega arith),
      stage_back r.stage,
      one_back r.width (omega arith),
      one_back r.name (omega arith),
      one_back r.row (omega arith),
      one_back r.cells (omega arith),
      two_back r.slots (omega arith),
      two_back r.cell (omega arith),
      one_back r.count (omega arith),
      one_back r.fields (omega arith),
      two_back r.end (omega arith),
      rested_back r.rested,
      two_back (place_or q r.note) (omega (arith, most)),
      (note_back q r.note).0,
    )
    refl

noted_back : (r : Reading) (q : ℕ) → Fits text_most r → q ≤ r.lines + 1
    → NoteIn (0 ∷ 0 ∷ 0 ∷ 0 ∷ number_bytes r q)
unfolding two_at
noted_back r q f le =
    let s : List ℕ = 0 ∷ 0 ∷ 0 ∷ 0 ∷ number_bytes r q in
    let room : Room r = f.0 in
    let same = reading_back r q f le in
    let most = place_or_most q (r.lines + 1) r.note le room.placed in
    let place : two_at s 22 ≡ place_or q r.note = two_back (place_or q r.note) (omega (arith, most)) in
    let lines = ap (λ (x : Reading). x.lines) same in record {
      told = ap (λ (p : ℕ). cond (eqb (note_code r.note) 0) none (some (refused (note_code r.note) p))) place
          ∙ (note_back q r.note).1 ∙ ap (λ (x : Reading). note_of x.note) (sym same);
      placed = omega (arith, place, lines, most);
    }

-- what is put in the place of the numbers is read again
numbers_saved : {before after : List ℕ} {next : ℕ} (r : Reading) (q : ℕ) → q ≤ r.lines + 1
    → line_at ≤ length before → Writes before numbers_at (number_bytes r q) after next → Saved before r after
numbers_saved {before} {after} {next} r q le room w =
    let end : next ≡ 24 = w.end in
    let text : take 24 after ≡ take 4 before ++ number_bytes r q = rw end at w.text in
    let four : length (take 4 before) ≡ 4 = length-take-le 4 before (omega arith) in
    record {
      long = w.kept;
      front = sym (take-take 4 24 after (omega arith)) ∙ ap (λ (t : List ℕ). take 4 t) text
          ∙ take-append-le 4 (take 4 before) (number_bytes r q) (omega arith)
          ∙ take-take 4 4 before (omega arith);
      numbers = λ f. reading_same after (0 ∷ 0 ∷ 0 ∷ 0 ∷ number_bytes r q) (λ i h. byte text four i h)
          ∙ reading_back r q f le;
      noted = λ f. noted_same after (0 ∷ 0 ∷ 0 ∷ 0 ∷ number_bytes r q) (λ i h. byte text four i h)
          (noted_back r q f le);
      beyond = rw end at w.beyond;
    }
  where
    byte : take 24 after ≡ take 4 before ++ number_bytes r q → length (take 4 before) ≡ 4 → (i : ℕ) → i < 20
        → get_or after (4 + i) 0 ≡ get_or (0 ∷ 0 ∷ 0 ∷ 0 ∷ number_bytes r q) (4 + i) 0
    byte text four i h =
        sym (get_or-take 24 after (4 + i) 0 (omega arith)) ∙ ap (λ (t : List ℕ). get_or t (4 + i) 0) text
        ∙ ap (λ (n : ℕ). get_or (take 4 before ++ number_bytes r q) (n + i) 0) (sym four)
        ∙ get_or-append-add (take 4 before) (number_bytes r q) i 0
        ∙ sym (get_or-append-add (0 ∷ 0 ∷ 0 ∷ 0 ∷ []) (number_bytes r q) i 0)

pub put_saved : {before after bytes : List ℕ} {next : ℕ} (r : Reading) (q : ℕ) → q ≤ r.lines + 1
    → line_at ≤ length before → bytes ≡ number_bytes r q → placed next after ≡ put before numbers_at bytes
    → Saved before r after
put_saved {before} {after} {bytes} {next} r q le room e p =
    let is : placed next after ≡ put before numbers_at (number_bytes r q) =
    p ∙ ap (λ (w : List ℕ). put before numbers_at w) e in
    numbers_saved r q le room (put_writes room is)

-- the numbers in front of those of the reading stay
pub saved_same : {before after : List ℕ} {r : Reading} → Saved before r after
    → (two_at after 0 ≡ two_at before 0) × (two_at after 2 ≡ two_at before 2)
unfolding two_at
saved_same {before} {after} {r} s =
    let byte : (i : ℕ) → i < 4 → get_or after i 0 ≡ get_or before i 0 =
    λ i h. sym (get_or-take 4 after i 0 h) ∙ ap (λ (t : List ℕ). get_or t i 0) s.front ∙ get_or-take 4 before i 0 h in
    (rw (byte 0 (omega arith), byte 1 (omega arith)) refl, rw (byte 2 (omega arith), byte 3 (omega arith)) refl)

-- ── what is loaded ──

pub least_of : {x y r : ℕ} (b : ℕ) → x ≡ y → r ≡ min x b → r ≡ min y b
least_of b e l = l ∙ ap (λ (z : ℕ). min z b) e

pub note_least : {x y r : ℕ} {a : Held Note} (n m : ℕ) → x ≡ y → r ≡ min x m → a ≡ note_at n r
    → a ≡ note_at n (min y m)
note_least n m e l is = is ∙ ap (note_at n) (l ∙ ap (λ (z : ℕ). min z m) e)

-- the numbers of a reading, each as it is loaded
module _ (s : List ℕ) (size : ℕ) {r : Reading} (end : ℕ)
    (li : r.lines ≡ min (two_at s 4) size)
    (st : r.stage ≡ stage_at (get_or s 6 0))
    (wi : r.width ≡ min (get_or s 7 0) 32)
    (na : r.name ≡ min (get_or s 8 0) label_most)
    (ro : r.row ≡ min (get_or s 9 0) row_lines_most)
    (ce : r.cells ≡ min (get_or s 10 0) fields_most)
    (co : r.count ≡ min (get_or s 11 0) fields_most)
    (fi : r.fields ≡ min (get_or s 12 0) r.count)
    (re : r.rested ≡ eqb (get_or s 13 0) 1)
    (sl : r.slots ≡ min (two_at s 14) (slot_most * r.cells))
    (cl : r.cell ≡ min (two_at s 16) r.slots)
    (en : end ≡ min (two_at s 18) (label_most + record_most * r.fields))
    (mo : r.end ≡ max end r.name)
    (nt : r.note ≡ note_at (get_or s 20 0) (min (two_at s 22) (r.lines + 1))) where
  room_loaded : Room r
  room_loaded = record {
    width = omega arith;
    name = omega arith;
    row = omega arith;
    front = omega arith;
    cells = omega arith;
    slots = omega arith;
    cell = omega arith;
    count = omega arith;
    fields = omega arith;
    end = omega arith;
    placed = rw nt (note_placed (get_or s 20 0) (min (two_at s 22) (r.lines + 1)) (r.lines + 1) (omega arith));
  }

  same_loaded : Room (reading_in s) → two_at s 4 ≤ size → r ≡ reading_in s
  same_loaded f less =
      let lines : r.lines ≡ two_at s 4 = omega arith in
      let width : r.width ≡ get_or s 7 0 = omega (arith, f.width) in
      let name : r.name ≡ get_or s 8 0 = omega (arith, f.name) in
      let row : r.row ≡ get_or s 9 0 = omega (arith, f.row) in
      let cells : r.cells ≡ get_or s 10 0 = omega (arith, f.cells) in
      let count : r.count ≡ get_or s 11 0 = omega (arith, f.count) in
      let fields : r.fields ≡ get_or s 12 0 = omega (arith, f.fields, count) in
      let slots : r.slots ≡ two_at s 14 = omega (arith, f.slots, cells) in
      let cell : r.cell ≡ two_at s 16 = omega (arith, f.cell, slots) in
      let before : end ≡ two_at s 18 = omega (arith, f.end, fields) in
      let last : r.end ≡ two_at s 18 = omega (arith, f.front, before, name) in
      let told : r.note ≡ note_at (get_or s 20 0) (two_at s 22) =
      nt ∙ note_same (get_or s 20 0) (two_at s 22) (r.lines + 1) (omega (arith, f.placed, lines)) in
      λ i. record {
        lines = lines i;
        stage = st i;
        width = width i;
        name = name i;
        row = row i;
        cells = cells i;
        slots = slots i;
        cell = cell i;
        count = count i;
        fields = fields i;
        end = last i;
        rested = re i;
        note = told i;
      }

  pub numbers_loaded : Loaded size s r
  numbers_loaded = record { fits = (room_loaded, omega arith); same = λ f. same_loaded f.0 f.1 }
