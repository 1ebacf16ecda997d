-- Fields that the rows of a frame show fit the rows, for any width of the rows.
use mathlib.Core.Path.{◌≡◌, refl, sym, ◌∙◌}
use mathlib.Core.Bool.{true, false}
use mathlib.Core.List.{List, [], ◌∷◌, ◌++◌, map}
use Prim.Native.Nat.{ℕ, ◌+◌, ◌%◌, ◌≤◌, ◌<◌}
use native.Mathlib.Omega.{arith}
use native.Mathlib.Nat.{mod-add-mod, mod-eq_of_lt, mod_self, zero-mod}
use lib.Dec.{leb, eqb}
use borrow.Author.Tests.{eqb-true, eq-eqb, le-leb, ltb-true}
use Rattle.base.specs.Lists.{all, any, same, joined, sum, Each}
use Rattle.base.proofs.Lists.{and_right, and_both, not_both}
use Rattle.base.proofs.Breaks.{all_cons}
use Rattle.rules.specs.Limits.{row_lines_most}
use Rattle.rules.specs.Fields.{Width, fixed, measured, rest, Field, field_names}
use Rattle.rules.specs.Within.{rows_fit, widths}
use Rattle.rules.specs.Rows.{Cell, cell_text, Row, bit_row, long_row, are_fitted, is_drawn_row, columns}
use Rattle.rules.specs.Frames.{Slot, slots_in}
use Rattle.rules.specs.Spelling.{is_place_for, shows}
use Rattle.text_laws.proofs.CellTexts.{has_bits, columns_sum, columns_bits}
use Rattle.text_laws.proofs.RowReader.{drawn_sum, drawn_tall, drawn_fitted}

abbrev bit_cell : Cell → Slot
bit_cell c = record { long = false; bits = c.bits; text = cell_text c }

abbrev long_cell : Cell → Slot
long_cell c = record { long = true; bits = c.bits; text = cell_text c }

-- ── one field ──

fit_bits : (w place : ℕ) (c : Cell) (v : Width ℕ) (l : List (Width ℕ)) → is_place_for (bit_cell c) v ≡ true
    → place % w + c.bits ≤ w → rows_fit w (place + c.bits) l ≡ true → rows_fit w place (v ∷ l) ≡ true
unfolding rows_fit
fit_bits w place c (fixed n) l h le k =
    let e : c.bits ≡ n = eqb-true c.bits n h in
    and_both (leb (place % w + n) w) (rows_fit w (place + n) l) (le-leb (place % w + n) w (rw e at le)) (rw e at k)
fit_bits w place c (measured u t) l h le k = absurd (not_both false h refl)
fit_bits w place c rest l h le k = absurd (not_both false h refl)

fit_long : (w place : ℕ) (c : Cell) (v : Width ℕ) (l : List (Width ℕ)) → is_place_for (long_cell c) v ≡ true
    → place % w ≡ 0 → rows_fit w place l ≡ true → rows_fit w place (v ∷ l) ≡ true
unfolding rows_fit
fit_long w place c (fixed n) l h e k = absurd (not_both false h refl)
fit_long w place c (measured u t) l h e k =
    and_both (eqb (place % w) 0) (rows_fit w place l) (eq-eqb (place % w) 0 e) k
fit_long w place c rest l h e k =
    and_both (eqb (place % w) 0) (rows_fit w place l) (eq-eqb (place % w) 0 e) k

place_of : (c : Slot) (x : Field ℕ) → shows c x ≡ true → is_place_for c x.width ≡ true
place_of c x h = and_right (any (same c.text) (field_names x)) (is_place_for c x.width) h

-- ── rows ──

-- what fits from the start of a row on
abbrev Fits : ℕ → List Slot → Type 0
Fits w cs =
    (place : ℕ) (fields : List (Field ℕ)) → place % w ≡ 0 → Each (λ c x. shows c x ≡ true) cs fields
    → rows_fit w place (widths fields) ≡ true

-- from p bits behind the start of a bit row on
fit_row : (w : ℕ) (more : List Slot) → Fits w more → (cs : List Cell) (p place : ℕ) (fields : List (Field ℕ))
    → all has_bits cs ≡ true → p + sum (λ c. c.bits) cs ≡ w → place % w ≡ p % w
    → Each (λ c x. shows c x ≡ true) (map bit_cell cs ++ more) fields → rows_fit w place (widths fields) ≡ true
unfolding sum
fit_row w more f [] p place fields h e m s =
    f place fields (m ∙ (let q : p ≡ w = omega arith in rw q (mod_self w))) s
fit_row w more f (c ∷ cs) p place [] h e m s = absurd s
fit_row w more f (c ∷ cs) p place (x ∷ fields) h e m s =
    let k = all_cons has_bits c cs h in
    let some : 0 < c.bits = ltb-true 0 c.bits k.0 in
    let below : p < w = omega arith in
    let at : place % w ≡ p = m ∙ mod-eq_of_lt below in
    let next : (place + c.bits) % w ≡ (p + c.bits) % w =
    sym (mod-add-mod place w c.bits) ∙ (rw m (mod-add-mod p w c.bits)) in
    fit_bits w place c x.width (widths fields) (place_of (bit_cell c) x s.0) (rw at (omega arith))
    (fit_row w more f cs (p + c.bits) (place + c.bits) fields k.1 (omega arith) next s.1)

pub rows_fit_lem : (w : ℕ) (rows : List Row) → all (is_drawn_row row_lines_most w) rows ≡ true
    → Fits w (joined slots_in rows)
unfolding joined rows_fit
rows_fit_lem w [] h place [] e s = eq-eqb (place % w) 0 e
rows_fit_lem w [] h place (x ∷ fields) e s = absurd s
rows_fit_lem w (bit_row bits [] ∷ rows) h place fields e s =
    let k = all_cons (is_drawn_row row_lines_most w) (bit_row bits []) rows h in
    absurd (not_both false (drawn_tall w bits [] k.0) refl)
rows_fit_lem w (bit_row bits (ss ∷ lines) ∷ rows) h place fields e s =
    let k = all_cons (is_drawn_row row_lines_most w) (bit_row bits (ss ∷ lines)) rows h in
    let total : sum (λ c. c.bits) (columns bits (ss ∷ lines)) ≡ w =
    columns_sum bits (ss ∷ lines) ∙ eqb-true (sum (λ n. n) bits) w (drawn_sum w bits (ss ∷ lines) k.0) in
    let f = all_cons (are_fitted bits) ss lines (drawn_fitted w bits (ss ∷ lines) k.0) in
    fit_row w (joined slots_in rows) (rows_fit_lem w rows k.1) (columns bits (ss ∷ lines)) 0 place fields
    (columns_bits bits ss (ss ∷ lines) f.0) (omega (arith, total)) (e ∙ sym (zero-mod w)) s
rows_fit_lem w (long_row n l ∷ rows) h place [] e s = absurd s
rows_fit_lem w (long_row n l ∷ rows) h place (x ∷ fields) e s =
    let c : Cell = record { bits = n; lines = l ∷ [] } in
    fit_long w place c x.width (widths fields) (place_of (long_cell c) x s.0) e
    (rows_fit_lem w rows (all_cons (is_drawn_row row_lines_most w) (long_row n l) rows h).1 place fields e s.1)
