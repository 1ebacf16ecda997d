-- The cells that the kept lines of a row show are the cells of the row.
use mathlib.Core.Path.{◌≡◌, refl, ap, sym, ◌∙◌}
use mathlib.Core.Bool.{Bool, true, false, ◌&&◌}
use mathlib.Core.List.{List, [], ◌∷◌, ◌++◌, map, map-append, map-map, append_assoc, append-nil}
use Prim.Native.Nat.{ℕ, zero, suc, ◌+◌, ◌*◌, ◌/◌, ◌≤◌}
use native.Mathlib.Omega.{arith}
use lib.Dec.{eqb}
use lib.ListN.{length, take, drop, get_or, length-append}
use lib.Seq.{get_or-take, drop-drop, drop_at, take_at, take-take}
use borrow.Author.Tests.{eqb-true}
use Rattle.base.specs.Lists.{all, is_empty, joined, sum}
use Rattle.base.proofs.Lists.{and_left, and_right, between_true}
use Rattle.rules.specs.Limits.{row_lines_most}
use Rattle.rules.specs.Names.{is_label}
use Rattle.rules.specs.Rows.{Cell, cell_text, Row, bit_row, long_row, bar_line, row_lines, is_fitted, are_fitted}
use Rattle.rules.specs.Rows.{is_drawn_row}
use Rattle.rules.specs.Rows.{first, others, columns, row_cells, is_labelled, is_long}
use Rattle.rules.specs.Frames.{Slot, slots_in}
use Rattle.text_laws.specs.FrameReader.{pieces, rest}
use Rattle.text_laws.proofs.SplitLaws.{ended_by, pieces_joined, rest_joined, pieces_cons, rest_cons}
use Rattle.text_laws.proofs.RowReader.{fitted_free, fitted_bits, strips_free, drawn_sum, drawn_tall, drawn_fitted}
use Rattle.texts.specs.RowPlaces.{strips_at, slots_from, slots_at}
use Rattle.texts.specs.Slots.{are_labels}

-- ── the kept lines ──

pub strips_length : (row : List ℕ) (a size n : ℕ) → length (strips_at row a size n) ≡ n
unfolding strips_at
strips_length row a size zero = refl
strips_length row a size (suc n) =
    let s : List ℕ = take size (drop (65 * n + a) row) in
    omega (arith, length-append (strips_at row a size n) (s ∷ []), strips_length row a size n)

-- a part of a front part is one of the whole
part_in : (m k size : ℕ) (l : List ℕ) → k + size ≤ m → take size (drop k (take m l)) ≡ take size (drop k l)
part_in m zero size l le = take-take size m l (omega arith)
part_in zero (suc k) size l le = absurd (omega arith)
part_in (suc m) (suc k) size [] le = refl
part_in (suc m) (suc k) size (x ∷ l) le = part_in m k size l (omega arith)

-- what stands behind the kept lines does not matter
pub strips_more : (before after : List ℕ) (size n : ℕ) → size ≤ 65 → take (65 * n) after ≡ take (65 * n) before
    → strips_at after 0 size n ≡ strips_at before 0 size n
unfolding strips_at
strips_more before after size zero le e = refl
strips_more before after size (suc n) le e =
    let f : take (65 * n) after ≡ take (65 * n) before =
    sym (take-take (65 * n) (65 * suc n) after (omega arith)) ∙ ap (take (65 * n)) e
    ∙ take-take (65 * n) (65 * suc n) before (omega arith) in
    let s : take size (drop (65 * n + 0) after) ≡ take size (drop (65 * n + 0) before) =
    sym (part_in (65 * suc n) (65 * n + 0) size after (omega arith))
    ∙ ap (λ (l : List ℕ). take size (drop (65 * n + 0) l)) e
    ∙ part_in (65 * suc n) (65 * n + 0) size before (omega arith) in
    rw (strips_more before after size n le f, s) refl

-- a part of each line
strips_part : (row : List ℕ) (a size most n : ℕ) → a + size ≤ most
    → strips_at row a size n ≡ map (λ l. take size (drop a l)) (strips_at row 0 most n)
unfolding strips_at
strips_part row a size most zero le = refl
strips_part row a size most (suc n) le =
    let part : List ℕ → List ℕ = λ l. take size (drop a l) in
    let l : List ℕ = take most (drop (65 * n + 0) row) in
    let z : 65 * n + 0 + a ≡ 65 * n + a = omega arith in
    let e : take size (drop (65 * n + a) row) ≡ take size (drop a l) =
    sym (part_in most a size (drop (65 * n + 0) row) le ∙ ap (take size) (drop-drop a (65 * n + 0) row)
    ∙ ap (λ (k : ℕ). take size (drop k row)) z) in
    rw (strips_part row a size most n le, e) (sym (map-append part (strips_at row 0 most n) (l ∷ [])))

-- the first one
strips_first : (row : List ℕ) (size n : ℕ)
    → (ls : List (List ℕ)) × (strips_at row 0 size (suc n) ≡ take size row ∷ ls)
unfolding strips_at
strips_first row size zero = ([], refl)
strips_first row size (suc n) =
    let w = strips_first row size n in
    let s : List ℕ = take size (drop (65 * suc n + 0) row) in
    (w.0 ++ (s ∷ []), ap (λ (m : List (List ℕ)). m ++ (s ∷ [])) w.1)

head_line : (row : List ℕ) (size n : ℕ) (l : List ℕ) (ls : List (List ℕ)) → strips_at row 0 size n ≡ l ∷ ls
    → take size row ≡ l
head_line row size zero l ls e =
    absurd (omega (arith, ap length e, strips_length row 0 size 0))
head_line row size (suc n) l ls e = ap first (sym (strips_first row size n).1 ∙ e)

bar_of : (row : List ℕ) (w b : ℕ) (l : List ℕ) → take (2 * w + 1) row ≡ b ∷ l → get_or row 0 0 ≡ b
bar_of row w b l e =
    sym (get_or-take (2 * w + 1) row 0 0 (omega arith)) ∙ ap (λ (m : List ℕ). get_or m 0 0) e

-- ── a bit row ──

fitted_length : (e n : ℕ) (s : List ℕ) → is_fitted e n s ≡ true → length s + 1 ≡ 2 * n
fitted_length e n s h =
    eqb-true (length s + 1) (2 * n) (and_left (eqb (length s + 1) (2 * n)) _ h)

-- what stands in front of the first bar behind a column, and what is behind it
fronts : (n : ℕ) (bits : List ℕ) (k : ℕ) (lines : List (List (List ℕ))) → k + 1 ≡ 2 * n
    → all (are_fitted (n ∷ bits)) lines ≡ true
    → (map (take k) (map (joined (ended_by 124)) lines) ≡ map first lines)
    × (map (drop (suc k)) (map (joined (ended_by 124)) lines) ≡ map (joined (ended_by 124)) (map others lines))
    × (all (are_fitted bits) (map others lines) ≡ true)
unfolding all are_fitted joined
fronts n bits k [] e h = (refl, refl, refl)
fronts n bits k ([] ∷ lines) e h = absurd (let y : ◌≡◌ {A = ℕ} 0 1 = cc in omega arith)
fronts n bits k ((s ∷ ss) ∷ lines) e h =
    let f = and_left (is_fitted 124 n s && are_fitted bits ss) (all (are_fitted (n ∷ bits)) lines) h in
    let g = fitted_length 124 n s (and_left (is_fitted 124 n s) (are_fitted bits ss) f) in
    let l : length s ≡ k = omega (arith, e, g) in
    let j : List ℕ = joined (ended_by 124) ss in
    let r = fronts n bits k lines e (and_right (is_fitted 124 n s && are_fitted bits ss)
    (all (are_fitted (n ∷ bits)) lines) h) in
    let p : take k ((s ++ (124 ∷ [])) ++ j) ≡ s =
    ap (take k) (append_assoc s (124 ∷ []) j) ∙ take_at s (124 ∷ j) k l in
    let q : drop (suc k) ((s ++ (124 ∷ [])) ++ j) ≡ j =
    drop_at (s ++ (124 ∷ [])) j (suc k) (omega (arith, length-append s (124 ∷ []), l)) in
    (rw (p, r.0) refl, rw (q, r.1) refl, rw (and_right (is_fitted 124 n s) (are_fitted bits ss) f) r.2)

abbrev shown : Bool → Cell → Slot
shown long c = record { long = long; bits = c.bits; text = cell_text c }

module _ (row : List ℕ) (n most : ℕ) where
  abbrev behind : ℕ → List (List ℕ)
  behind a = map (drop a) (strips_at row 0 most n)

  strips_behind : (a size : ℕ) → a + size ≤ most → strips_at row a size n ≡ map (take size) (behind a)
  strips_behind a size le =
      strips_part row a size most n le ∙ sym (map-map (take size) (drop a) (strips_at row 0 most n))

  bits_from : (bits : List ℕ) (a : ℕ) (l : List (List ℕ)) (ls : List (List (List ℕ)))
      → all (are_fitted bits) (l ∷ ls) ≡ true → a + 2 * sum (λ k. k) bits ≤ most
      → behind a ≡ map (joined (ended_by 124)) (l ∷ ls)
      → slots_from false row n a l ≡ map (shown false) (columns bits (l ∷ ls))
  unfolding all are_fitted slots_from columns sum
  bits_from [] a [] ls f le e = refl
  bits_from [] a (s ∷ ss) ls f le e = absurd (let y : ◌≡◌ {A = ℕ} 0 1 = cc in omega arith)
  bits_from (m ∷ bits) a [] ls f le e = absurd (let y : ◌≡◌ {A = ℕ} 0 1 = cc in omega arith)
  bits_from (m ∷ bits) a (s ∷ ss) ls f le e =
      let g = and_left (is_fitted 124 m s) (are_fitted bits ss)
      (and_left (is_fitted 124 m s && are_fitted bits ss) (all (are_fitted (m ∷ bits)) ls) f) in
      let k = fitted_length 124 m s g in
      let r = fronts m bits (length s) ((s ∷ ss) ∷ ls) k f in
      let here : strips_at row a (length s) n ≡ map first ((s ∷ ss) ∷ ls) =
      strips_behind a (length s) (omega (arith, k, le)) ∙ ap (map (take (length s))) e ∙ r.0 in
      let there : behind (a + suc (length s)) ≡ map (joined (ended_by 124)) (map others ((s ∷ ss) ∷ ls)) =
      sym (map-map (drop (suc (length s))) (drop a) (strips_at row 0 most n)
      ∙ dropped (suc (length s)) a (strips_at row 0 most n))
      ∙ ap (map (drop (suc (length s)))) e ∙ r.1 in
      let b : (length s + 1) / 2 ≡ m = fitted_bits 124 m s g in
      rw (b, here, bits_from bits (a + suc (length s)) ss (map others ls) r.2 (omega (arith, k, le)) there) refl
    where
      dropped : (j a : ℕ) (ls : List (List ℕ)) → map (λ l. drop j (drop a l)) ls ≡ map (drop (a + j)) ls
      dropped j a [] = refl
      dropped j a (l ∷ ls) = rw (drop-drop j a l, dropped j a ls) refl

-- ── a row ──

record Both (row : List ℕ) (n w : ℕ) (x : Row) : Type 0 where
  cells : slots_at row n (2 * w + 1) 1 ≡ slots_in x
  is_ended : is_empty (rest (get_or row 0 0) (drop 1 (take (2 * w + 1) row))) ≡ true

-- by what stands behind the first bar
by_parts : (row : List ℕ) (n w : ℕ) (x : Row) (b : ℕ) (l : List ℕ) (ss : List (List ℕ))
    → take (2 * w + 1) row ≡ b ∷ l → pieces b l ≡ ss → rest b l ≡ [] → slots_from (eqb b 58) row n 1 ss ≡ slots_in x
    → Both row n w x
by_parts row n w x b l ss e p q s = record {
  cells = rw (bar_of row w b l e, e, p) s;
  is_ended = rw (bar_of row w b l e, e, q) refl;
}

bits_both : (row : List ℕ) (n w : ℕ) (bits : List ℕ) (lines : List (List (List ℕ)))
    → is_drawn_row row_lines_most w (bit_row bits lines) ≡ true
    → strips_at row 0 (2 * w + 1) n ≡ map bar_line lines → Both row n w (bit_row bits lines)
unfolding all pieces rest
bits_both row n w bits [] h e =
    absurd (omega (arith, (between_true 1 0 row_lines_most (drawn_tall w bits [] h)).0))
bits_both row n w bits (l ∷ ls) h e =
    let f = drawn_fitted w bits (l ∷ ls) h in
    let g = strips_free bits l (and_left (are_fitted bits l) (all (are_fitted bits) ls) f) in
    let j : List ℕ = joined (ended_by 124) l in
    let k = eqb-true (sum (λ n. n) bits) w (drawn_sum w bits (l ∷ ls) h) in
    let p : pieces 124 j ≡ l = ap (pieces 124) (sym (append-nil j)) ∙ pieces_joined 124 l [] g ∙ append-nil l in
    let q : rest 124 j ≡ [] = ap (rest 124) (sym (append-nil j)) ∙ rest_joined 124 l [] g in
    by_parts row n w (bit_row bits (l ∷ ls)) 124 j l
    (head_line row (2 * w + 1) n (bar_line l) (map bar_line ls) e) p q
    (bits_from row n (2 * w + 1) bits 1 l ls f (omega (arith, k))
    (ap (map (drop 1)) e ∙ map-map (drop 1) bar_line (l ∷ ls)))

long_both : (row : List ℕ) (n w bits : ℕ) (s : List ℕ) → is_drawn_row row_lines_most w (long_row bits s) ≡ true
    → strips_at row 0 (2 * w + 1) n ≡ (58 ∷ (s ++ (58 ∷ []))) ∷ [] → Both row n w (long_row bits s)
unfolding pieces rest slots_from
long_both row n w bits s h e =
    let f = and_right (eqb bits w) (is_fitted 58 bits s) h in
    let g = fitted_free 58 bits s f in
    let k = eqb-true bits w (and_left (eqb bits w) (is_fitted 58 bits s) h) in
    let b : (length s + 1) / 2 ≡ bits = fitted_bits 58 bits s f in
    let strips : strips_at row 1 (length s) n ≡ s ∷ [] =
    strips_part row 1 (length s) (2 * w + 1) n (omega (arith, k, fitted_length 58 bits s f))
    ∙ ap (map (λ l. take (length s) (drop 1 l))) e
    ∙ ap {B = List (List ℕ)} (λ l. l ∷ []) (take_at s (58 ∷ []) (length s) refl) in
    by_parts row n w (long_row bits s) 58 (s ++ (58 ∷ [])) (s ∷ [])
    (head_line row (2 * w + 1) n (58 ∷ (s ++ (58 ∷ []))) [] e)
    (pieces_cons 58 s [] g) (rest_cons 58 s [] g) (rw (b, strips) refl)

row_both : (row : List ℕ) (n w : ℕ) (x : Row) → is_drawn_row row_lines_most w x ≡ true
    → strips_at row 0 (2 * w + 1) n ≡ row_lines x → Both row n w x
unfolding row_lines
row_both row n w (bit_row bits lines) h e = bits_both row n w bits lines h e
row_both row n w (long_row bits s) h e = long_both row n w bits s h e

all_map : {A B : Type 0} (p : B → Bool) (f : A → B) (l : List A) → all p (map f l) ≡ all (λ x. p (f x)) l
unfolding all
all_map p f [] = refl
all_map p f (x ∷ l) = ap (λ (b : Bool). p (f x) && b) (all_map p f l)

module _ (row : List ℕ) (n w : ℕ) (x : Row) (drawn : is_drawn_row row_lines_most w x ≡ true)
    (kept : strips_at row 0 (2 * w + 1) n ≡ row_lines x)
  where
    -- the cells between the bars of the first kept line are those of the row
    pub row_shown : slots_at row n (2 * w + 1) 1 ≡ slots_in x
    row_shown = (row_both row n w x drawn kept).cells

    -- and they are labels just if those are
    pub row_labels_like : are_labels row n (2 * w + 1) ≡ is_labelled x
    row_labels_like =
        let b = row_both row n w x drawn kept in
        rw (b.is_ended, b.cells) (all_map (λ c. is_label c.text) (shown (is_long x)) (row_cells x))
