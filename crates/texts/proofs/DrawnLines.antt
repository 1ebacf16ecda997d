-- The lines of a drawn row, and one more line of it.
use mathlib.Core.Path.{◌≡◌, refl, ap, sym, ◌∙◌}
use mathlib.Core.Bool.{Bool, true, false, cond, ◌&&◌}
use mathlib.Core.List.{List, [], ◌∷◌, ◌++◌, map}
use mathlib.Core.Option.{Option, none, some}
use Prim.Native.Nat.{ℕ, suc, ◌+◌, ◌*◌, ◌≤◌}
use native.Mathlib.Omega.{arith}
use lib.Dec.{ltb, eqb}
use lib.ListN.{length, get_or, length-append, length-map}
use borrow.Author.Tests.{ltb-true, lt-ltb, eqb-true, eq-eqb}
use Rattle.base.specs.Lists.{all, joined, sum}
use Rattle.base.proofs.Lists.{and_left, and_right, and_both, not_both, between_true, true_between}
use Rattle.base.proofs.Lists.{all_append, all_back}
use Rattle.base.proofs.Lookups.{test_eq}
use Rattle.rules.specs.Limits.{row_lines_most}
use Rattle.rules.specs.Rows.{Row, bit_row, long_row, bar_line, row_lines, is_fitted, are_fitted, is_drawn_row}
use Rattle.rules.specs.Frames.{is_line}
use Rattle.text_laws.specs.Bars.{same_bars}
use Rattle.text_laws.specs.FrameReader.{keep_row, strips_of, read_row, with_strips, more_row}
use Rattle.text_laws.proofs.RowReader.{Reads, row_sound, more_sound, row_more}
use Rattle.text_laws.proofs.RowReader.{is_tall, drawn_sum, drawn_tall, drawn_fitted}
use Rattle.text_laws.proofs.SameBars.{bars_fit, fit_bars}
use Rattle.text_laws.proofs.SplitLaws.{ended_by}
use Rattle.bars.specs.Goes.{goes_on}
use Rattle.texts.specs.FramePlaces.{is_some}

-- ── the lines of a drawn row ──

strips_size : (bits : List ℕ) (ss : List (List ℕ)) → are_fitted bits ss ≡ true
    → length (joined (ended_by 124) ss) ≡ 2 * sum (λ n. n) bits
unfolding are_fitted joined sum
strips_size [] [] h = refl
strips_size [] (s ∷ ss) h = absurd (not_both false h refl)
strips_size (n ∷ bits) [] h = absurd (not_both false h refl)
strips_size (n ∷ bits) (s ∷ ss) h =
    let p = eqb-true (length s + 1) (2 * n)
    (and_left (eqb (length s + 1) (2 * n)) _ (and_left (is_fitted 124 n s) (are_fitted bits ss) h)) in
    let q = strips_size bits ss (and_right (is_fitted 124 n s) (are_fitted bits ss) h) in
    omega (arith, p, q, length-append (s ++ (124 ∷ [])) (joined (ended_by 124) ss), length-append s (124 ∷ []))

-- each line has two columns for each bit, and one more
pub drawn_size : (w : ℕ) (x : Row) → is_drawn_row row_lines_most w x ≡ true
    → all (λ l. eqb (length l) (2 * w + 1)) (row_lines x) ≡ true
unfolding row_lines all
drawn_size w (bit_row bits lines) h = go lines (drawn_fitted w bits lines h)
  where
    go : (more : List (List (List ℕ))) → all (are_fitted bits) more ≡ true
        → all (λ l. eqb (length l) (2 * w + 1)) (map bar_line more) ≡ true
    go [] f = refl
    go (ss ∷ more) f =
        let p = strips_size bits ss (and_left (are_fitted bits ss) (all (are_fitted bits) more) f) in
        let q = eqb-true (sum (λ n. n) bits) w (drawn_sum w bits lines h) in
        and_both (eqb (length (bar_line ss)) (2 * w + 1)) _
        (eq-eqb (length (bar_line ss)) (2 * w + 1) (omega (arith, p, q)))
        (go more (and_right (are_fitted bits ss) (all (are_fitted bits) more) f))
drawn_size w (long_row n s) h =
    let p = eqb-true n w (and_left (eqb n w) (is_fitted 58 n s) h) in
    let q = eqb-true (length s + 1) (2 * n)
    (and_left (eqb (length s + 1) (2 * n)) _ (and_right (eqb n w) (is_fitted 58 n s) h)) in
    and_both (eqb (suc (length (s ++ (58 ∷ [])))) (2 * w + 1)) true
    (eq-eqb (suc (length (s ++ (58 ∷ [])))) (2 * w + 1) (omega (arith, p, q, length-append s (58 ∷ [])))) refl

pub drawn_count : (w : ℕ) (x : Row) → is_drawn_row row_lines_most w x ≡ true
    → (1 ≤ length (row_lines x)) × (length (row_lines x) ≤ row_lines_most)
unfolding row_lines
drawn_count w (bit_row bits lines) h =
    rw (length-map lines bar_line) (between_true 1 (length lines) row_lines_most (drawn_tall w bits lines h))
drawn_count w (long_row n s) h = (omega arith, omega arith)

-- the row of a first line has that line
pub row_lines_one : (w : ℕ) (l : List ℕ) (x : Row) → read_row w l ≡ some x
    → (row_lines x ≡ l ∷ []) × (is_drawn_row row_lines_most w x ≡ true) × (length l ≡ 2 * w + 1)
unfolding all
row_lines_one w l x e =
    let r : Reads w (l ∷ []) (some x) = rw e at (row_sound w l) in
    let s : all (λ l. eqb (length l) (2 * w + 1)) (l ∷ []) ≡ true = rw r.1 at (drawn_size w x r.0) in
    (r.1, r.0, eqb-true (length l) (2 * w + 1) (and_left (eqb (length l) (2 * w + 1)) true s))

-- ── one more line of a drawn row ──

-- the row with one more line has that behind its lines
pub more_lines : (w : ℕ) (x y : Row) (l : List ℕ) → more_row w x l ≡ some y
    → (row_lines y ≡ row_lines x ++ (l ∷ [])) × (is_drawn_row row_lines_most w y ≡ true)
more_lines w x y l e =
    let r : Reads w (row_lines x ++ (l ∷ [])) (some y) = rw e at (more_sound w x l) in (r.1, r.0)

last_eq : (ls : List (List ℕ)) (a b : List ℕ) → ls ++ (a ∷ []) ≡ ls ++ (b ∷ []) → a ≡ b
last_eq [] a b e = cc
last_eq (l ∷ ls) a b e = last_eq ls a b (cc)

map_more : (lines : List (List (List ℕ))) (ts : List (List ℕ))
    → map bar_line (lines ++ (ts ∷ [])) ≡ map bar_line lines ++ (bar_line ts ∷ [])
map_more [] ts = refl
map_more (ss ∷ lines) ts = ap {B = List (List ℕ)} (λ ls. bar_line ss ∷ ls) (map_more lines ts)

module _ (w : ℕ) (bits : List ℕ) (ss : List (List ℕ)) (more : List (List (List ℕ))) (l : List ℕ)
    (d : is_drawn_row row_lines_most w (bit_row bits (ss ∷ more)) ≡ true) where
  first_fitted : are_fitted bits ss ≡ true
  unfolding all
  first_fitted = and_left (are_fitted bits ss) (all (are_fitted bits) more) (drawn_fitted w bits (ss ∷ more) d)

  -- a line that goes on is read
  goes_read : is_line l ≡ true → (ltb (suc (length more)) row_lines_most && same_bars (bar_line ss) l) ≡ true
      → is_some (more_row w (bit_row bits (ss ∷ more)) l) ≡ true
  unfolding all
  goes_read i h =
      let n = ltb-true (suc (length more)) row_lines_most
      (and_left (ltb (suc (length more)) row_lines_most) (same_bars (bar_line ss) l) h) in
      let t = bars_fit bits ss l first_fitted i
      (and_right (ltb (suc (length more)) row_lines_most) (same_bars (bar_line ss) l) h) in
      let lines : List (List (List ℕ)) = (ss ∷ more) ++ (t.0 ∷ []) in
      let k : length lines ≡ suc (length more) + 1 = length-append (ss ∷ more) (t.0 ∷ []) in
      let e : is_drawn_row row_lines_most w (bit_row bits lines) ≡ true =
      and_both (eqb (sum (λ n. n) bits) w) _ (drawn_sum w bits (ss ∷ more) d)
      (and_both (is_tall lines) (all (are_fitted bits) lines)
      (true_between 1 (length lines) row_lines_most (omega (arith, k)) (omega (arith, k, n)))
      (all_append (are_fitted bits) (ss ∷ more) (t.0 ∷ []) (drawn_fitted w bits (ss ∷ more) d)
      (and_both (are_fitted bits t.0) true t.2 refl))) in
      ap (λ (m : List ℕ). is_some (more_row w (bit_row bits (ss ∷ more)) m)) t.1
      ∙ ap is_some (row_more w bits (ss ∷ more) t.0 e)

  -- and the other way
  read_goes : is_some (more_row w (bit_row bits (ss ∷ more)) l) ≡ true
      → (ltb (suc (length more)) row_lines_most && same_bars (bar_line ss) l) ≡ true
  unfolding more_row with_strips keep_row row_lines all
  read_goes h = go (strips_of l) h (more_sound w (bit_row bits (ss ∷ more)) l)
    where
      kept : (ts : List (List ℕ)) (x : Bool)
          → is_drawn_row row_lines_most w (bit_row bits (ss ∷ (more ++ (ts ∷ [])))) ≡ x
          → is_some (cond x (some (bit_row bits (ss ∷ (more ++ (ts ∷ []))))) none) ≡ true
          → Reads w (map bar_line (ss ∷ more) ++ (l ∷ []))
          (cond x (some (bit_row bits (ss ∷ (more ++ (ts ∷ []))))) none)
          → (ltb (suc (length more)) row_lines_most && same_bars (bar_line ss) l) ≡ true
      kept ts false e h r = absurd (not_both false h refl)
      kept ts true e h r =
          let lines : List (List (List ℕ)) = ss ∷ (more ++ (ts ∷ [])) in
          let k : length lines ≡ suc (length more) + 1 = length-append (ss ∷ more) (ts ∷ []) in
          let n = between_true 1 (length lines) row_lines_most (drawn_tall w bits lines e) in
          let f : are_fitted bits ts ≡ true = and_left (are_fitted bits ts) true
          (all_back (are_fitted bits) (ss ∷ more) (ts ∷ []) (drawn_fitted w bits lines e)) in
          let q : bar_line ts ≡ l =
          last_eq (map bar_line (ss ∷ more)) (bar_line ts) l (sym (map_more (ss ∷ more) ts) ∙ r.1) in
          and_both (ltb (suc (length more)) row_lines_most) (same_bars (bar_line ss) l)
          (lt-ltb (suc (length more)) row_lines_most (omega (arith, k, n.1)))
          (rw q at (fit_bars bits ss ts first_fitted f))

      go : (o : Option (List (List ℕ))) → is_some (with_strips w (bit_row bits (ss ∷ more)) o) ≡ true
          → Reads w (map bar_line (ss ∷ more) ++ (l ∷ [])) (with_strips w (bit_row bits (ss ∷ more)) o)
          → (ltb (suc (length more)) row_lines_most && same_bars (bar_line ss) l) ≡ true
      go none h r = absurd (not_both false h refl)
      go (some ts) h r = kept ts (is_drawn_row row_lines_most w (bit_row bits (ss ∷ (more ++ (ts ∷ []))))) refl h r

-- a line is one more of a drawn row exactly if it goes on behind the row's lines
pub more_goes : (w : ℕ) (x : Row) (l : List ℕ) → is_drawn_row row_lines_most w x ≡ true → is_line l ≡ true
    → is_some (more_row w x l) ≡ goes_on (length (row_lines x)) (get_or (row_lines x) 0 []) l
unfolding row_lines more_row with_strips
more_goes w (bit_row bits []) l d i = absurd (not_both false (drawn_tall w bits [] d) refl)
more_goes w (bit_row bits (ss ∷ more)) l d i =
    rw (length-map more bar_line)
    (test_eq (is_some (more_row w (bit_row bits (ss ∷ more)) l))
    (ltb (suc (length more)) row_lines_most && same_bars (bar_line ss) l)
    (read_goes w bits ss more l d) (goes_read w bits ss more l d i))
more_goes w (long_row n s) l d i = go (strips_of l)
  where
    go : (o : Option (List (List ℕ))) → is_some (with_strips w (long_row n s) o) ≡ false
    go none = refl
    go (some ss) = refl
