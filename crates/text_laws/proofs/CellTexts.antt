-- The text of a cell: that of a cell of one line, and what holds of its bytes.
use mathlib.Core.Path.{◌≡◌, refl, ap}
use mathlib.Core.Bool.{Bool, true, false, cond, ◌&&◌, not}
use mathlib.Core.List.{List, [], ◌∷◌, ◌++◌, map}
use Prim.Native.Nat.{ℕ, zero, suc, ◌+◌, ◌*◌}
use native.Mathlib.Omega.{arith}
use lib.Dec.{ltb, eqb}
use lib.ListN.{length, replicate}
use borrow.Author.Tests.{eqb-true, lt-ltb}
use Rattle.base.specs.Lists.{all, only, is_empty, joined, sum}
use Rattle.base.proofs.Lists.{and_left, and_right, and_both, all_append, all_front, all_back}
use Rattle.rules.specs.Names.{is_space, is_label}
use Rattle.rules.specs.Rows.{left_trim, right_trim, keep_end, trimmed, by_spaces, Cell, cell_text, is_fitted}
use Rattle.rules.specs.Rows.{are_fitted}
use Rattle.rules.specs.Rows.{first, others, columns, Row, row_cells, is_labelled, is_long}
use Rattle.text_laws.proofs.RowCells.{lead, left_split, right_some}
use Rattle.rules.specs.Frames.{Slot, slots_in}
use Rattle.base.proofs.Breaks.{all_cons}

-- ── a cell of one line ──

one_line : (s : List ℕ) → by_spaces (only (λ l. not (is_empty l)) (s ∷ [])) ≡ s
unfolding only by_spaces
one_line [] = refl
one_line (b ∷ s) = refl

one_bit : (b : ℕ) → only (λ c. not (is_space c)) (b ∷ []) ≡ trimmed (b ∷ [])
unfolding only left_trim right_trim keep_end
one_bit b = go (is_space b) refl
  where
    go : (x : Bool) → is_space b ≡ x
        → cond (not x) (b ∷ []) [] ≡ right_trim (cond x [] (b ∷ []))
    go true e = refl
    go false e = rw e refl

-- with one line the text is that line without blanks at its ends
pub cell_text_one : (n : ℕ) (s : List ℕ) → length s + 1 ≡ 2 * n
    → cell_text (record { bits = n; lines = s ∷ [] }) ≡ trimmed s
unfolding cell_text joined
cell_text_one n s e = go (eqb n 1) refl
  where
    bit : (s : List ℕ) → length s ≡ 1 → only (λ c. not (is_space c)) (s ++ []) ≡ trimmed s
    bit [] h = absurd (omega (arith, h))
    bit (b ∷ []) h = one_bit b
    bit (b ∷ c ∷ s) h = absurd (omega (arith, h))

    go : (x : Bool) → eqb n 1 ≡ x
        → cond x (only (λ c. not (is_space c)) (s ++ []))
        (by_spaces (only (λ l. not (is_empty l)) (trimmed s ∷ [])))
        ≡ trimmed s
    go true h = bit s (let q : n ≡ 1 = eqb-true n 1 h in omega (arith, e, q))
    go false h = one_line (trimmed s)

-- ── a test that holds of a blank and of the text holds of the lines ──

module _ (p : ℕ → Bool) (blank : p 32 ≡ true) where
  blanks : (n : ℕ) → all p (replicate n 32) ≡ true
  unfolding all
  blanks zero = refl
  blanks (suc n) = and_both (p 32) (all p (replicate n 32)) blank (blanks n)

  trimmed_all : (s : List ℕ) → all p (trimmed s) ≡ true → all p s ≡ true
  trimmed_all s h =
      let w = right_some (left_trim s) in
      let l : all p (left_trim s) ≡ true =
      rw w.1 at (all_append p (trimmed s) (replicate w.0 32) h (blanks w.0)) in
      rw (left_split s) at (all_append p (replicate (lead s) 32) (left_trim s) (blanks (lead s)) l)

  trimmed_lines : (ls : List (List ℕ)) → all (all p) (map trimmed ls) ≡ true → all (all p) ls ≡ true
  unfolding all
  trimmed_lines [] h = refl
  trimmed_lines (l ∷ ls) h =
      and_both (all p l) (all (all p) ls) (trimmed_all l (and_left (all p (trimmed l)) (all (all p) (map trimmed ls))
      h))
      (trimmed_lines ls (and_right (all p (trimmed l)) (all (all p) (map trimmed ls)) h))

  by_spaces_all : (ss : List (List ℕ)) → all p (by_spaces ss) ≡ true → all (all p) ss ≡ true
  unfolding all by_spaces
  by_spaces_all [] h = refl
  by_spaces_all (s ∷ []) h = and_both (all p s) true h refl
  by_spaces_all (s ∷ t ∷ ss) h =
      and_both (all p s) (all (all p) (t ∷ ss)) (all_front p s (32 ∷ by_spaces (t ∷ ss)) h)
      (by_spaces_all (t ∷ ss) (and_right (p 32) (all p (by_spaces (t ∷ ss)))
      (all_back p s (32 ∷ by_spaces (t ∷ ss)) h)))

  only_lines : (ls : List (List ℕ)) → all (all p) (only (λ l. not (is_empty l)) ls) ≡ true → all (all p) ls ≡ true
  unfolding all only
  only_lines [] h = refl
  only_lines ([] ∷ ls) h = only_lines ls h
  only_lines ((b ∷ l) ∷ ls) h =
      let m : List (List ℕ) = only (λ l. not (is_empty l)) ls in
      and_both (all p (b ∷ l)) (all (all p) ls) (and_left (all p (b ∷ l)) (all (all p) m) h)
      (only_lines ls (and_right (all p (b ∷ l)) (all (all p) m) h))

  only_bytes : (s : List ℕ) → all p (only (λ b. not (is_space b)) s) ≡ true → all p s ≡ true
  unfolding all only is_space
  only_bytes [] h = refl
  only_bytes (b ∷ s) h = go (only_bytes s) (eqb b 32) refl h
    where
      go : (all p (only (λ b. not (is_space b)) s) ≡ true → all p s ≡ true) → (x : Bool) → eqb b 32 ≡ x
          → all p (cond (not x) (b ∷ only (λ b. not (is_space b)) s) (only (λ b. not (is_space b)) s)) ≡ true
          → all p (b ∷ s) ≡ true
      go f true e k =
          let q : b ≡ 32 = eqb-true b 32 e in
          and_both (p b) (all p s) (rw q blank) (f k)
      go f false e k =
          let m : List ℕ = only (λ b. not (is_space b)) s in
          and_both (p b) (all p s) (and_left (p b) (all p m) k) (f (and_right (p b) (all p m) k))

  joined_all : (ls : List (List ℕ)) → all p (joined (λ l. l) ls) ≡ true → all (all p) ls ≡ true
  unfolding all joined
  joined_all [] h = refl
  joined_all (l ∷ ls) h =
      and_both (all p l) (all (all p) ls) (all_front p l (joined (λ l. l) ls) h)
      (joined_all ls (all_back p l (joined (λ l. l) ls) h))

  pub cell_all : (c : Cell) → all p (cell_text c) ≡ true → all (all p) c.lines ≡ true
  unfolding cell_text
  cell_all c h = go (eqb c.bits 1) h
    where
      go : (x : Bool)
          → all p (cond x (only (λ b. not (is_space b)) (joined (λ l. l) c.lines))
          (by_spaces (only (λ l. not (is_empty l)) (map trimmed c.lines)))) ≡ true
          → all (all p) c.lines ≡ true
      go true k = joined_all c.lines (only_bytes (joined (λ l. l) c.lines) k)
      go false k = trimmed_lines c.lines (only_lines (map trimmed c.lines)
          (by_spaces_all (only (λ l. not (is_empty l)) (map trimmed c.lines)) k))

-- ── cells and lines ──

both_parts : (q : List ℕ → Bool) (lines : List (List (List ℕ))) → all q (map first lines) ≡ true
    → all (all q) (map others lines) ≡ true → all (all q) lines ≡ true
unfolding all
both_parts q [] h k = refl
both_parts q ([] ∷ lines) h k =
    both_parts q lines (and_right (q []) (all q (map first lines)) h) k
both_parts q ((s ∷ ss) ∷ lines) h k =
    and_both (all q (s ∷ ss)) (all (all q) lines)
    (and_both (q s) (all q ss) (and_left (q s) (all q (map first lines)) h)
    (and_left (all q ss) (all (all q) (map others lines)) k))
    (both_parts q lines (and_right (q s) (all q (map first lines)) h)
    (and_right (all q ss) (all (all q) (map others lines)) k))

others_fitted : (n : ℕ) (bits : List ℕ) (lines : List (List (List ℕ))) → all (are_fitted (n ∷ bits)) lines ≡ true
    → all (are_fitted bits) (map others lines) ≡ true
unfolding all are_fitted
others_fitted n bits [] h = refl
others_fitted n bits ([] ∷ lines) h = cc
others_fitted n bits ((s ∷ ss) ∷ lines) h =
    let k = and_left (is_fitted 124 n s && are_fitted bits ss) (all (are_fitted (n ∷ bits)) lines) h in
    and_both (are_fitted bits ss) (all (are_fitted bits) (map others lines))
    (and_right (is_fitted 124 n s) (are_fitted bits ss) k)
    (others_fitted n bits lines (and_right (is_fitted 124 n s && are_fitted bits ss) (all (are_fitted (n ∷ bits)) lines)
    h))

no_strips : (q : List ℕ → Bool) (lines : List (List (List ℕ))) → all (are_fitted []) lines ≡ true
    → all (all q) lines ≡ true
unfolding all are_fitted
no_strips q [] h = refl
no_strips q ([] ∷ lines) h = no_strips q lines h
no_strips q ((s ∷ ss) ∷ lines) h = cc

-- what holds of the lines of each cell holds of what stands between the bars of each line
pub columns_all : (q : List ℕ → Bool) (bits : List ℕ) (lines : List (List (List ℕ)))
    → all (are_fitted bits) lines ≡ true → all (λ c. all q c.lines) (columns bits lines) ≡ true
    → all (all q) lines ≡ true
unfolding all columns
columns_all q [] lines f h = no_strips q lines f
columns_all q (n ∷ bits) lines f h =
    let m : List Cell = columns bits (map others lines) in
    both_parts q lines (and_left (all q (map first lines)) (all (λ c. all q c.lines) m) h)
    (columns_all q bits (map others lines) (others_fitted n bits lines f)
    (and_right (all q (map first lines)) (all (λ c. all q c.lines) m) h))

-- ── the bits of the cells ──

pub columns_sum : (bits : List ℕ) (lines : List (List (List ℕ)))
    → sum (λ c. c.bits) (columns bits lines) ≡ sum (λ n. n) bits
unfolding sum columns
columns_sum [] lines = refl
columns_sum (n ∷ bits) lines = ap (λ (m : ℕ). n + m) (columns_sum bits (map others lines))

abbrev pub has_bits : Cell → Bool
has_bits c = ltb 0 c.bits

some_bits : (e n : ℕ) (s : List ℕ) → is_fitted e n s ≡ true → ltb 0 n ≡ true
some_bits e n s h =
    let q = eqb-true (length s + 1) (2 * n) (and_left (eqb (length s + 1) (2 * n)) _ h) in
    lt-ltb 0 n (omega (arith, q))

pub columns_bits : (bits : List ℕ) (ss : List (List ℕ)) (lines : List (List (List ℕ))) → are_fitted bits ss ≡ true
    → all has_bits (columns bits lines) ≡ true
unfolding all columns are_fitted
columns_bits [] [] lines h = refl
columns_bits [] (s ∷ ss) lines h = cc
columns_bits (n ∷ bits) [] lines h = cc
columns_bits (n ∷ bits) (s ∷ ss) lines h =
    and_both (ltb 0 n) (all has_bits (columns bits (map others lines)))
    (some_bits 124 n s (and_left (is_fitted 124 n s) (are_fitted bits ss) h))
    (columns_bits bits ss (map others lines) (and_right (is_fitted 124 n s) (are_fitted bits ss) h))

-- ── what the cells of a row show ──

-- the cells of a row that may end show labels
cells_labels : (long : Bool) (cs : List Cell) → all (λ c. is_label (cell_text c)) cs ≡ true
    → all (λ (c : Slot). is_label c.text)
    (map (λ (c : Cell). record { long = long; bits = c.bits; text = cell_text c }) cs) ≡ true
unfolding all
cells_labels long [] h = refl
cells_labels long (c ∷ cs) h =
    let k = all_cons (λ c. is_label (cell_text c)) c cs h in
    and_both (is_label (cell_text c)) _ k.0 (cells_labels long cs k.1)

pub row_labels : (r : Row) → is_labelled r ≡ true → all (λ c. is_label c.text) (slots_in r) ≡ true
row_labels r h = cells_labels (is_long r) (row_cells r) h
