-- A line of which the first bytes are held in a state, put together and ended.
use mathlib.Core.Path.{◌≡◌, refl, ap, ap₂, sym, ◌∙◌, subst}
use mathlib.Core.Bool.{Bool, true, false, cond, not}
use mathlib.Core.List.{List, [], ◌∷◌, ◌++◌, map}
use Prim.Native.Nat.{ℕ, ◌+◌, ◌≤◌, ◌<◌}
use native.Mathlib.Numerals.{add-one}
use native.Mathlib.Omega.{arith}
use lib.Dec.{eqb}
use lib.ListN.{length, take, drop, get_or, set, length-append, length-drop}
use lib.Seq.{take-suc, take-suc-set, take-take, length-take-le, take_at, drop_at}
use borrow.Rule.Slice.PartMut.{put_mid, take_put, drop_put, same_len_mid}
use Rattle.base.specs.Lists.{all}
use Rattle.base.proofs.Lists.{and_left, and_right, and_both, all_append}
use Rattle.rules.specs.Limits.{line_most}
use Rattle.rules.specs.Names.{line_feed}
use Rattle.rules.specs.Frames.{is_line}
use Rattle.writing.specs.Writes.{Writes}
use Rattle.text_laws.specs.Fold as fold
use Rattle.text_laws.proofs.Fed.{lost_line, cut_lost, lost_stage}
use Rattle.text_laws.proofs.LongLines.{long_line}
use Rattle.text_laws.proofs.Steadiness.{steady_line, steady_cut}
use Rattle.texts.specs.HeldAreas.{held_room}
use Rattle.texts.specs.StateNumbers.{used_at, line_at, held_at, state_room}
use Rattle.texts.specs.PieceStates.{held_bytes, SameAround, JoinedLine, EndedStep}
use Rattle.texts.specs.States.{CutStep, LineStep}
use Rattle.texts.specs.WalkSteps.{KeptAs}
use Rattle.texts.specs.declared.states.Reading.{Reading}

-- ── the bytes of a held line ──

-- no line feed is one
abbrev pub plain_byte : ℕ → ℕ
plain_byte b = cond (eqb b line_feed) 32 b

-- the first i of them
abbrev pub plain_front : ℕ → List ℕ → List ℕ
plain_front i s = map plain_byte (take i (drop line_at s))

map_snoc : (f : ℕ → ℕ) (l : List ℕ) (b : ℕ) → map f (l ++ (b ∷ [])) ≡ map f l ++ (f b ∷ [])
map_snoc f [] b = refl
map_snoc f (x ∷ l) b = ap (λ (z : List ℕ). f x ∷ z) (map_snoc f l b)

byte_free : (b : ℕ) → not (eqb (plain_byte b) line_feed) ≡ true
byte_free b = go (eqb b line_feed) refl
  where
    go : (x : Bool) → eqb b line_feed ≡ x → not (eqb (cond x 32 b) line_feed) ≡ true
    go true e = refl
    go false e = ap not e

plain_free : (l : List ℕ) → is_line (map plain_byte l) ≡ true
unfolding all
plain_free [] = refl
plain_free (b ∷ l) =
    and_both (not (eqb (plain_byte b) line_feed)) (is_line (map plain_byte l)) (byte_free b) (plain_free l)

byte_same : (b : ℕ) → not (eqb b line_feed) ≡ true → plain_byte b ≡ b
byte_same b = go (eqb b line_feed)
  where
    go : (x : Bool) → not x ≡ true → cond x 32 b ≡ b
    go true h = cc
    go false h = refl

plain_same : (l : List ℕ) → is_line l ≡ true → map plain_byte l ≡ l
unfolding all
plain_same [] h = refl
plain_same (b ∷ l) h =
    ap₂ {C = List ℕ} (λ (x : ℕ) (z : List ℕ). x ∷ z)
    (byte_same b (and_left (not (eqb b line_feed)) (is_line l) h))
    (plain_same l (and_right (not (eqb b line_feed)) (is_line l) h))

-- one byte more
pub front_more : (s line : List ℕ) (i b : ℕ) → line_at + i < length s → i < length line
    → take i line ≡ plain_front i s → b ≡ plain_byte (get_or (drop line_at s) i 0)
    → take (i + 1) (set line i b) ≡ plain_front (i + 1) s
front_more s line i b lt room e is =
    let held : i < length (drop line_at s) = (let n = length-drop line_at s in omega (arith, n, lt)) in
    let more = take-suc (drop line_at s) i 0 held in
    ap (λ (n : ℕ). take n (set line i b)) (add-one i)
    ∙ take-suc-set line i b room
    ∙ ap₂ {C = List ℕ} (λ (z : List ℕ) (x : ℕ). z ++ (x ∷ [])) e is
    ∙ sym (map_snoc plain_byte (take i (drop line_at s)) (get_or (drop line_at s) i 0))
    ∙ ap (map plain_byte) (sym more)
    ∙ ap (λ (n : ℕ). plain_front n s) (sym (add-one i))

-- the part behind them
pub joined_line : (s : List ℕ) (used : ℕ) {part line after : List ℕ} {n : ℕ} → is_line part ≡ true
    → take used line ≡ plain_front used s → Writes line used part after n → JoinedLine s used part after n
joined_line s used {part} {line} {after} {n} free e w =
    let front = take used (drop line_at s) in
    let is : take n after ≡ map plain_byte front ++ part = w.text ∙ ap (λ (z : List ℕ). z ++ part) e in
    record {
      long = w.end;
      free = ap is_line is
          ∙ all_append (λ b. not (eqb b line_feed)) (map plain_byte front) part (plain_free front) free;
      same = λ h. is ∙ ap (λ (z : List ℕ). z ++ part) (plain_same front h);
    }

-- ── what is held behind the line, lent as a part and back ──

module _ (s : List ℕ) (room : state_room ≤ length s) where
  pub held_long : length (held_bytes s) ≡ held_room
  held_long = length-take-le held_room (drop held_at s) (let n = length-drop held_at s in omega (arith, n))

  -- so many bytes of a line are held
  pub used_long : (used : ℕ) → used ≤ line_most → length (take used (drop line_at s)) ≡ used
  used_long used le = length-take-le used (drop line_at s) (let n = length-drop line_at s in omega (arith, n))

  module _ (part : List ℕ) (long : length part ≡ held_room) where
    pub held_put : held_bytes (put_mid held_at held_room s part) ≡ part
    held_put =
        ap (take held_room) (drop_at (take held_at s) (part ++ drop held_room (drop held_at s)) held_at
        (length-take-le held_at s (omega arith)))
        ∙ take_at part (drop held_room (drop held_at s)) held_room long

    pub held_back : length (put_mid held_at held_room s part) ≡ length s
    held_back = same_len_mid held_at held_room s part (long ∙ sym held_long)

    pub around_put : SameAround s (put_mid held_at held_room s part)
    around_put = record {
      long = held_back;
      front = sym (take-take used_at held_at (put_mid held_at held_room s part) (omega arith))
          ∙ ap (take used_at) (take_put held_at held_room s part (omega arith))
          ∙ take-take used_at held_at s (omega arith);
      beyond = drop_put held_at state_room s part (omega arith) room long;
    }

pub around_same : (s : List ℕ) → SameAround s s
around_same s = record { long = refl; front = refl; beyond = refl }

-- ── the line, ended ──

-- put together
pub ended_joined : (s : List ℕ) (used : ℕ) (part : List ℕ) (r q : Reading) (s' : List ℕ) {line after : List ℕ}
    {n : ℕ} {held row row' counts counts' : List ℕ} → JoinedLine s used part after n → line ≡ take n after
    → held_bytes s' ≡ held → LineStep line r q (held_bytes s) held row row' counts counts'
    → EndedStep s used part r q s' row row' counts counts'
ended_joined s used part r q s' {line} {after} {n} {held} {row} {row'} {counts} {counts'} j is back step f l free short
    same k = subst (λ (h : List ℕ). KeptAs (fold.lined f (l ++ part)) q h row' counts') (sym back)
    (subst (λ (g : fold.Found). KeptAs g q held row' counts') (go (fold.is_lost f.stage) refl) kept)
  where
    kept : KeptAs (fold.lined f line) q held row' counts'
    kept = let h = step f k.steady k.rows k.holds in record {
      steady = steady_line f line k.steady;
      rows = h.1;
      holds = h.0;
    }

    go : (b : Bool) → fold.is_lost f.stage ≡ b → fold.lined f line ≡ fold.lined f (l ++ part)
    go true e =
        let lost = lost_stage f.stage e in
        lost_line f line lost ∙ sym (lost_line f (l ++ part) lost)
    go false e =
        let are = same e in
        ap (fold.lined f) (is ∙ j.same (ap is_line are ∙ free) ∙ ap (λ (z : List ℕ). z ++ part) are)

-- too long
pub ended_cut : (s : List ℕ) (used : ℕ) (part : List ℕ) (r q : Reading) {row counts : List ℕ}
    → state_room ≤ length s → used ≤ line_most → line_most < used + length part → CutStep r q row
    → EndedStep s used part r q s row row counts counts
ended_cut s used part r q {row} {counts} room le lt step f l free short same k =
    subst (λ (g : fold.Found). KeptAs g q (held_bytes s) row counts) (go (fold.is_lost f.stage) refl) kept
  where
    kept : KeptAs (fold.cut f) q (held_bytes s) row counts
    kept = let h = step f (held_bytes s) counts k.steady k.rows k.holds in record {
      steady = steady_cut f k.steady;
      rows = h.1;
      holds = h.0;
    }

    go : (b : Bool) → fold.is_lost f.stage ≡ b → fold.cut f ≡ fold.lined f (l ++ part)
    go true e =
        let lost = lost_stage f.stage e in
        cut_lost f lost ∙ sym (lost_line f (l ++ part) lost)
    go false e =
        let n = ap length (same e) in
        let m = used_long s room used le in
        let w = length-append l part in
        sym (long_line f (l ++ part) k.steady.small (omega (arith, n, m, w, lt)))
