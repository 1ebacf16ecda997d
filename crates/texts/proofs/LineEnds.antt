-- The first byte of a text that is not printable: the bytes in front of it are allowed, and none is a line feed.
use mathlib.Core.Path.{◌≡◌, refl, ap, sym, ◌∙◌}
use mathlib.Core.Bool.{Bool, true, false, cond, ◌&&◌}
use mathlib.Core.List.{List, [], ◌∷◌, ◌++◌}
use Prim.Native.Nat.{ℕ, zero, suc, ◌+◌, ◌-◌, ◌≤◌, ◌<◌}
use native.Mathlib.Omega.{arith}
use native.Mathlib.Numerals.{add-one}
use lib.Dec.{eqb, eqb-suc-suc, eqb-zero-suc}
use lib.ListN.{length, take, drop, get_or, length-drop}
use lib.Seq.{drop-drop, get_or-drop, take-suc}
use borrow.Author.Tests.{ne_eqb, eq-eqb, le-leb, lt-leb}
use Rattle.base.specs.Lists.{all}
use Rattle.base.proofs.Lists.{and_left, and_right, between_true, true_between, or_right}
use Rattle.rules.specs.Names.{is_printable, is_allowed, line_feed}
use Rattle.rules.specs.Frames.{is_line}
use Rattle.texts.specs.FramePlaces.{up_to}
use Rattle.texts.specs.LineEnds.{printable_length}
use Rattle.texts.proofs.ExprLeaves.{all_step, all_stop, all_end}
use Rattle.texts.proofs.FrameLeaves.{up_to_end, up_to_stop}

-- ── bytes ──

pub printable_high : (b : ℕ) → 126 < b → is_printable b ≡ false
unfolding is_printable
printable_high b lt =
    let le : 32 ≤ b = omega arith in rw (le-leb 32 b le, lt-leb b 126 lt) refl

pub printable_between : (b : ℕ) → 32 ≤ b → b ≤ 126 → is_printable b ≡ true
unfolding is_printable
printable_between b le le' = true_between 32 b 126 le le'

-- a printable byte is no line feed
feed_other : (b : ℕ) → is_printable b ≡ true → eqb b line_feed ≡ false
unfolding is_printable
feed_other b e = let q = between_true 32 b 126 e in ne_eqb b line_feed (λ z. omega (arith, q.0, z))

feed_allowed : (b : ℕ) → b ≡ line_feed → is_allowed b ≡ true
unfolding is_allowed
feed_allowed b e = or_right (is_printable b) (eqb b line_feed) (eq-eqb b line_feed e)

pub bad_byte : (b : ℕ) → is_printable b ≡ false → (b ≡ line_feed → ⊥) → is_allowed b ≡ false
unfolding is_allowed
bad_byte b e n = rw (e, ne_eqb b line_feed n) refl

-- ── bytes tested together ──

all_last : (p : ℕ → Bool) (s : List ℕ) (b : ℕ) → all p (s ++ (b ∷ [])) ≡ (all p s && p b)
unfolding all
all_last p [] b = go (p b)
  where
    go : (x : Bool) → (x && true) ≡ (true && x)
    go true = refl
    go false = refl
all_last p (c ∷ s) b = go (p c) (all_last p s b)
  where
    go : (x : Bool) → all p (s ++ (b ∷ [])) ≡ (all p s && p b)
        → (x && all p (s ++ (b ∷ []))) ≡ ((x && all p s) && p b)
    go true h = h
    go false h = refl

-- one byte more is tested
pub tested_step : (s : List ℕ) (i : ℕ) → i < length s
    → all is_printable (take (i + 1) s) ≡ (all is_printable (take i s) && is_printable (get_or s i 0))
tested_step s i lt =
    ap (λ (n : ℕ). all is_printable (take n s)) (add-one i) ∙ ap (all is_printable) (take-suc s i 0 lt)
    ∙ all_last is_printable (take i s) (get_or s i 0)

printable_front : (n : ℕ) (s : List ℕ) → n ≤ length s → all is_printable (take n s) ≡ true
    → printable_length s ≡ n + printable_length (drop n s)
unfolding all printable_length
printable_front zero s le e = omega arith
printable_front (suc n) [] le e = absurd (omega arith)
printable_front (suc n) (b ∷ s) le e =
    let p = and_left (is_printable b) (all is_printable (take n s)) e in
    let q = printable_front n s (omega arith) (and_right (is_printable b) (all is_printable (take n s)) e) in
    rw p (omega (arith, q))

-- the bytes tested together are printable
pub printable_steps : (s : List ℕ) (at n : ℕ) → at + n ≤ length s → all is_printable (take n (drop at s)) ≡ true
    → printable_length (drop at s) ≡ n + printable_length (drop (at + n) s)
printable_steps s at n le e =
    printable_front n (drop at s) (omega (arith, le, length-drop at s)) e
    ∙ ap (λ (l : List ℕ). n + printable_length l) (drop-drop n at s)

printable_all : (s : List ℕ) → eqb (printable_length s) (length s) ≡ all is_printable s
unfolding all printable_length
printable_all [] = refl
printable_all (b ∷ s) = go (is_printable b) (printable_all s)
  where
    go : (x : Bool) → eqb (printable_length s) (length s) ≡ all is_printable s
        → eqb (cond x (suc (printable_length s)) 0) (suc (length s)) ≡ (x && all is_printable s)
    go true h = eqb-suc-suc (printable_length s) (length s) ∙ h
    go false h = eqb-zero-suc (length s)

-- no byte from a place on is another
pub printable_whole : (s : List ℕ) (at : ℕ) → at ≤ length s
    → eqb (at + printable_length (drop at s)) (length s) ≡ all is_printable (drop at s)
printable_whole s zero le =
    let e : 0 + printable_length s ≡ printable_length s = omega arith in
    ap (λ (n : ℕ). eqb n (length s)) e ∙ printable_all s
printable_whole [] (suc at) le = absurd (omega arith)
printable_whole (b ∷ s) (suc at) le =
    let n = printable_length (drop at s) in
    let e : suc at + n ≡ suc (at + n) = omega arith in
    ap (λ (m : ℕ). eqb m (suc (length s))) e ∙ eqb-suc-suc (at + n) (length s) ∙ printable_whole s at (omega arith)

-- ── what the bytes in front of it tell ──

front_allowed : (s : List ℕ) → all is_allowed s ≡ all is_allowed (drop (printable_length s) s)
unfolding all printable_length is_allowed
front_allowed [] = refl
front_allowed (b ∷ s) = go (is_printable b) refl (front_allowed s)
  where
    go : (x : Bool) → is_printable b ≡ x → all is_allowed s ≡ all is_allowed (drop (printable_length s) s)
        → all is_allowed (b ∷ s) ≡ all is_allowed (drop (cond x (suc (printable_length s)) 0) (b ∷ s))
    go true e h = rw e h
    go false e h = refl

front_feed : (s : List ℕ) → up_to line_feed s ≡ printable_length s + up_to line_feed (drop (printable_length s) s)
unfolding up_to printable_length
front_feed [] = refl
front_feed (b ∷ s) = go (is_printable b) refl (front_feed s)
  where
    go : (x : Bool) → is_printable b ≡ x
        → up_to line_feed s ≡ printable_length s + up_to line_feed (drop (printable_length s) s)
        → up_to line_feed (b ∷ s) ≡ cond x (suc (printable_length s)) 0
        + up_to line_feed (drop (cond x (suc (printable_length s)) 0) (b ∷ s))
    go true e h = rw (feed_other b e) (omega (arith, h))
    go false e h = omega arith

pub first_other : (s : List ℕ) → printable_length s < length s → is_printable (get_or s (printable_length s) 0) ≡ false
unfolding printable_length
first_other [] lt = absurd (omega arith)
first_other (b ∷ s) lt = go (is_printable b) refl (first_other s) lt
  where
    go : (x : Bool) → is_printable b ≡ x
        → (printable_length s < length s → is_printable (get_or s (printable_length s) 0) ≡ false)
        → cond x (suc (printable_length s)) 0 < suc (length s)
        → is_printable (get_or (b ∷ s) (cond x (suc (printable_length s)) 0) 0) ≡ false
    go true e h lt = h (omega arith)
    go false e h lt = e

-- ── the same from a place on ──

module _ (s : List ℕ) (at i : ℕ) (first : i ≡ at + printable_length (drop at s)) where
  part_allowed : all is_allowed (drop at s) ≡ all is_allowed (drop i s)
  part_allowed =
      front_allowed (drop at s) ∙ ap (all is_allowed) (drop-drop (printable_length (drop at s)) at s)
      ∙ ap (λ (n : ℕ). all is_allowed (drop n s)) (sym first)

  part_feed : at + up_to line_feed (drop at s) ≡ i + up_to line_feed (drop i s)
  part_feed =
      let e : drop (printable_length (drop at s)) (drop at s) ≡ drop i s =
      drop-drop (printable_length (drop at s)) at s ∙ ap (λ (n : ℕ). drop n s) (sym first) in
      let q : up_to line_feed (drop at s) ≡ printable_length (drop at s) + up_to line_feed (drop i s) =
      rw e at (front_feed (drop at s)) in
      omega (arith, q, first)

  -- at the end, no byte is bad, and no line feed is left
  pub allowed_end : length s ≤ i → i ≤ length s → all is_allowed (drop at s) ≡ true
  allowed_end le le' = part_allowed ∙ all_end is_allowed s i le le'

  pub feed_end : length s ≤ i → i ≤ length s → i ≡ at + up_to line_feed (drop at s)
  feed_end le le' = omega (arith, part_feed, up_to_end line_feed s i le le')

  -- at a line feed, what is behind it decides
  pub allowed_feed : i < length s → get_or s i 0 ≡ line_feed → all is_allowed (drop at s) ≡ all is_allowed
      (drop (i + 1) s)
  allowed_feed lt e = part_allowed ∙ all_step is_allowed s i lt (feed_allowed (get_or s i 0) e)

  pub feed_here : i < length s → get_or s i 0 ≡ line_feed → i ≡ at + up_to line_feed (drop at s)
  feed_here lt e = omega (arith, part_feed, up_to_stop line_feed s i lt e)

  -- another byte is bad
  pub allowed_other : i < length s → (get_or s i 0 ≡ line_feed → ⊥) → all is_allowed (drop at s) ≡ false
  allowed_other lt n =
      let p = first_other (drop at s) (omega (arith, first, lt, length-drop at s)) in
      let q : is_printable (get_or s i 0) ≡ false =
      ap (λ (n : ℕ). is_printable (get_or s n 0)) first
      ∙ ap is_printable (sym (get_or-drop at s (printable_length (drop at s)) 0)) ∙ p in
      part_allowed ∙ all_stop is_allowed s i lt (bad_byte (get_or s i 0) q n)

-- ── a line ──

pub front_plain : (s : List ℕ) → all is_printable (take (printable_length s) s) ≡ true
unfolding printable_length all
front_plain [] = refl
front_plain (b ∷ s) = go (is_printable b) refl (front_plain s)
  where
    go : (x : Bool) → is_printable b ≡ x → all is_printable (take (printable_length s) s) ≡ true
        → all is_printable (take (cond x (suc (printable_length s)) 0) (b ∷ s)) ≡ true
    go true e h = rw e h
    go false e h = refl

front_line : (s : List ℕ) → is_line (take (printable_length s) s) ≡ true
unfolding printable_length all
front_line [] = refl
front_line (b ∷ s) = go (is_printable b) refl (front_line s)
  where
    go : (x : Bool) → is_printable b ≡ x → is_line (take (printable_length s) s) ≡ true
        → is_line (take (cond x (suc (printable_length s)) 0) (b ∷ s)) ≡ true
    go true e h = rw (feed_other b e) h
    go false e h = refl

pub printable_line : (s : List ℕ) (at i : ℕ) → i ≡ at + printable_length (drop at s)
    → is_line (take (i - at) (drop at s)) ≡ true
printable_line s at i e =
    let n : i - at ≡ printable_length (drop at s) = omega (arith, e) in
    ap (λ (m : ℕ). is_line (take m (drop at s))) n ∙ front_line (drop at s)
