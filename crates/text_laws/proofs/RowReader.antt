-- The rows of lines: what is read is a drawn row of those lines, and a drawn row is read from its lines.
use mathlib.Core.Path.{◌≡◌, refl, ap, sym, ◌∙◌}
use mathlib.Core.Bool.{Bool, true, false, cond, ◌&&◌, not}
use mathlib.Core.List.{List, [], ◌∷◌, ◌++◌, map, append-nil}
use mathlib.Core.Option.{Option, none, some}
use Prim.Native.Nat.{ℕ, suc, ◌+◌, ◌*◌}
use native.Mathlib.Omega.{arith}
use native.Mathlib.Numerals.{add-one}
use lib.Dec.{leb, eqb}
use lib.ListN.{length, length-append}
use borrow.Author.Tests.{eqb-true, le-leb, leb-true}
use Rattle.base.specs.Lists.{all, is_empty, between, joined, sum, tabulate}
use Rattle.base.proofs.Lists.{and_left, and_right, and_both, all_append, all_front, all_back}
use Rattle.rules.specs.Limits.{row_lines_most}
use Rattle.rules.specs.Rows.{Row, bit_row, long_row, bar_line, row_lines, is_fitted, are_fitted, is_drawn_row}
use Rattle.rules.specs.Frames.{border, is_line}
use Rattle.text_laws.specs.FrameReader.{pieces, rest, bits_of, keep_row, strips_of, long_of, read_long, row_of}
use Rattle.text_laws.specs.FrameReader.{read_row, with_strips, more_row}
use Rattle.text_laws.proofs.SplitLaws.{is_free, ended_by, pieces_joined, rest_joined, pieces_cons, rest_cons}
use Rattle.text_laws.proofs.SplitLaws.{split_joined}

-- ── what is read is a row of the lines ──

-- the row is drawn, and these are its lines
abbrev pub Reads : ℕ → List (List ℕ) → Option Row → Type 0
Reads w ls none = Unit {0}
Reads w ls (some r) = (is_drawn_row row_lines_most w r ≡ true) × (row_lines r ≡ ls)

kept : (w : ℕ) (ls : List (List ℕ)) (r : Row) → row_lines r ≡ ls → Reads w ls (keep_row w r)
unfolding keep_row
kept w ls r e = go (is_drawn_row row_lines_most w r) refl
  where
    go : (x : Bool) → is_drawn_row row_lines_most w r ≡ x → Reads w ls (cond x (some r) none)
    go true d = (d, e)
    go false d = tt

empty_is : {A : Type 0} (l : List A) → is_empty l ≡ true → l ≡ []
empty_is [] h = refl
empty_is (x ∷ l) h = cc

-- the line with these strips
abbrev Strips : List ℕ → Option (List (List ℕ)) → Type 0
Strips l none = Unit {0}
Strips l (some ss) = bar_line ss ≡ l

strips_sound : (l : List ℕ) → Strips l (strips_of l)
unfolding strips_of
strips_sound [] = tt
strips_sound (b ∷ l) = go (eqb b 124) refl (is_empty (rest 124 l)) refl
  where
    go : (x : Bool) → eqb b 124 ≡ x → (y : Bool) → is_empty (rest 124 l) ≡ y
        → Strips (b ∷ l) (cond (x && y) (some (pieces 124 l)) none)
    go true e true f =
        let j : joined (ended_by 124) (pieces 124 l) ≡ l =
        sym (append-nil (joined (ended_by 124) (pieces 124 l)))
        ∙ ap (λ (m : List ℕ). joined (ended_by 124) (pieces 124 l) ++ m) (sym (empty_is (rest 124 l) f))
        ∙ split_joined 124 l in
        let q : b ≡ 124 = eqb-true b 124 e in
        rw q (ap (λ (m : List ℕ). 124 ∷ m) j)
    go true e false f = tt
    go false e y f = tt

long_read : (w : ℕ) (l r : List ℕ) (ps : List (List ℕ)) → joined (ended_by 58) ps ++ r ≡ l
    → Reads w ((58 ∷ l) ∷ []) (long_of w r ps)
unfolding long_of joined row_lines
long_read w l r [] h = tt
long_read w l r (p ∷ []) h = go (is_empty r) refl
  where
    go : (x : Bool) → is_empty r ≡ x → Reads w ((58 ∷ l) ∷ []) (cond x (keep_row w (long_row (bits_of p) p)) none)
    go false e = tt
    go true e = kept w ((58 ∷ l) ∷ []) (long_row (bits_of p) p)
        (ap {B = List (List ℕ)} (λ m. (58 ∷ m) ∷ [])
        (sym (append-nil (p ++ (58 ∷ [])))
        ∙ sym (append-nil ((p ++ (58 ∷ [])) ++ []))
        ∙ ap (λ (m : List ℕ). ((p ++ (58 ∷ [])) ++ []) ++ m) (sym (empty_is r e))
        ∙ h))
long_read w l r (p ∷ q ∷ ps) h = tt

long_sound : (w : ℕ) (l : List ℕ) → Reads w (l ∷ []) (read_long w l)
unfolding read_long
long_sound w [] = tt
long_sound w (b ∷ l) = go (eqb b 58) refl
  where
    go : (x : Bool) → eqb b 58 ≡ x → Reads w ((b ∷ l) ∷ []) (cond x (long_of w (rest 58 l) (pieces 58 l)) none)
    go true e = rw (eqb-true b 58 e) (long_read w l (rest 58 l) (pieces 58 l) (split_joined 58 l))
    go false e = tt

-- a first line
pub row_sound : (w : ℕ) (l : List ℕ) → Reads w (l ∷ []) (read_row w l)
unfolding read_row row_of row_lines
row_sound w l = go (strips_of l) (strips_sound l)
  where
    go : (o : Option (List (List ℕ))) → Strips l o → Reads w (l ∷ []) (row_of w l o)
    go none h = long_sound w l
    go (some ss) h = kept w (l ∷ []) (bit_row (map bits_of ss) (ss ∷ [])) (ap {B = List (List ℕ)} (λ m. m ∷ []) h)

map_more : {A B : Type 0} (f : A → B) (l : List A) (x : A) → map f (l ++ (x ∷ [])) ≡ map f l ++ (f x ∷ [])
map_more f [] x = refl
map_more f (y ∷ l) x = ap (λ (m : List _). f y ∷ m) (map_more f l x)

-- one more line
pub more_sound : (w : ℕ) (r : Row) (l : List ℕ) → Reads w (row_lines r ++ (l ∷ [])) (more_row w r l)
unfolding more_row with_strips row_lines
more_sound w r l = go r (strips_of l) (strips_sound l)
  where
    go : (r : Row) (o : Option (List (List ℕ))) → Strips l o → Reads w (row_lines r ++ (l ∷ [])) (with_strips w r o)
    go r none h = tt
    go (bit_row bits lines) (some ss) h = kept w (map bar_line lines ++ (l ∷ [])) (bit_row bits (lines ++ (ss ∷ [])))
        (map_more bar_line lines ss ∙ ap {B = List (List ℕ)} (λ m. map bar_line lines ++ (m ∷ [])) h)
    go (long_row bits s) (some ss) h = tt

-- ── a row is read from its lines ──

pub fitted_free : (e n : ℕ) (s : List ℕ) → is_fitted e n s ≡ true → is_free e s ≡ true
fitted_free e n s h = and_left (is_free e s) (is_free 10 s) (and_right (eqb (length s + 1) (2 * n)) _ h)

fitted_line : (e n : ℕ) (s : List ℕ) → is_fitted e n s ≡ true → is_line s ≡ true
fitted_line e n s h = and_right (is_free e s) (is_free 10 s) (and_right (eqb (length s + 1) (2 * n)) _ h)

pub fitted_bits : (e n : ℕ) (s : List ℕ) → is_fitted e n s ≡ true → bits_of s ≡ n
fitted_bits e n s h =
    let q = eqb-true (length s + 1) (2 * n) (and_left (eqb (length s + 1) (2 * n)) _ h) in
    omega (arith, q)

pub strips_free : (bits : List ℕ) (ss : List (List ℕ)) → are_fitted bits ss ≡ true → all (is_free 124) ss ≡ true
unfolding are_fitted all
strips_free [] [] h = refl
strips_free [] (s ∷ ss) h = cc
strips_free (n ∷ bits) [] h = refl
strips_free (n ∷ bits) (s ∷ ss) h =
    rw (fitted_free 124 n s (and_left (is_fitted 124 n s) (are_fitted bits ss) h))
    (strips_free bits ss (and_right (is_fitted 124 n s) (are_fitted bits ss) h))

strips_bits : (bits : List ℕ) (ss : List (List ℕ)) → are_fitted bits ss ≡ true → map bits_of ss ≡ bits
unfolding are_fitted
strips_bits [] [] h = refl
strips_bits [] (s ∷ ss) h = absurd (let z : ◌≡◌ {A = Bool} false true = h in let y : ◌≡◌ {A = ℕ} 0 1 = cc in omega
    arith)
strips_bits (n ∷ bits) [] h = absurd (let z : ◌≡◌ {A = Bool} false true = h in let y : ◌≡◌ {A = ℕ} 0 1 = cc in omega
    arith)
strips_bits (n ∷ bits) (s ∷ ss) h =
    rw (
      fitted_bits 124 n s (and_left (is_fitted 124 n s) (are_fitted bits ss) h),
      strips_bits bits ss (and_right (is_fitted 124 n s) (are_fitted bits ss) h),
    )

pub strips_complete : (ss : List (List ℕ)) → all (is_free 124) ss ≡ true → strips_of (bar_line ss) ≡ some ss
unfolding strips_of pieces rest
strips_complete ss h =
    let p : pieces 124 (joined (ended_by 124) ss) ≡ ss =
    ap (pieces 124) (sym (append-nil (joined (ended_by 124) ss))) ∙ pieces_joined 124 ss [] h ∙ append-nil ss in
    let q : rest 124 (joined (ended_by 124) ss) ≡ [] =
    ap (rest 124) (sym (append-nil (joined (ended_by 124) ss))) ∙ rest_joined 124 ss [] h in
    rw (p, q) refl

-- what a drawn bit row keeps
abbrev pub is_tall : List (List (List ℕ)) → Bool
is_tall lines = between 1 (length lines) row_lines_most

pub drawn_sum : (w : ℕ) (bits : List ℕ) (lines : List (List (List ℕ))) → is_drawn_row row_lines_most w (bit_row bits
    lines) ≡ true
    → eqb (sum (λ n. n) bits) w ≡ true
drawn_sum w bits lines h = and_left (eqb (sum (λ n. n) bits) w) (is_tall lines && all (are_fitted bits) lines) h

pub drawn_tall : (w : ℕ) (bits : List ℕ) (lines : List (List (List ℕ))) → is_drawn_row row_lines_most w (bit_row bits
    lines) ≡ true
    → is_tall lines ≡ true
drawn_tall w bits lines h = and_left (is_tall lines) (all (are_fitted bits) lines)
    (and_right (eqb (sum (λ n. n) bits) w) (is_tall lines && all (are_fitted bits) lines) h)

pub drawn_fitted : (w : ℕ) (bits : List ℕ) (lines : List (List (List ℕ))) → is_drawn_row row_lines_most w (bit_row bits
    lines) ≡ true
    → all (are_fitted bits) lines ≡ true
drawn_fitted w bits lines h = and_right (is_tall lines) (all (are_fitted bits) lines)
    (and_right (eqb (sum (λ n. n) bits) w) (is_tall lines && all (are_fitted bits) lines) h)

-- the first lines of a drawn row are one
pub drawn_front : (w : ℕ) (bits : List ℕ) (l : List (List ℕ)) (front more : List (List (List ℕ)))
    → is_drawn_row row_lines_most w (bit_row bits (l ∷ (front ++ more))) ≡ true
    → is_drawn_row row_lines_most w (bit_row bits
    (l ∷ front)) ≡ true
drawn_front w bits l front more h =
    let n = length-append front more in
    let t = leb-true (suc (length (front ++ more))) row_lines_most
    (and_right (leb 1 (suc (length (front ++ more)))) _ (drawn_tall w bits (l ∷ (front ++ more)) h)) in
    and_both (eqb (sum (λ n. n) bits) w) (is_tall (l ∷ front) && all (are_fitted bits) (l ∷ front))
    (drawn_sum w bits (l ∷ (front ++ more)) h)
    (and_both (is_tall (l ∷ front)) (all (are_fitted bits) (l ∷ front))
    (and_both (leb 1 (suc (length front))) (leb (suc (length front)) row_lines_most)
    (le-leb 1 (suc (length front)) (omega arith))
    (le-leb (suc (length front)) row_lines_most (omega (arith, n, t))))
    (all_front (are_fitted bits) (l ∷ front) more (drawn_fitted w bits (l ∷ (front ++ more)) h)))

pub row_first : (w : ℕ) (bits : List ℕ) (ss : List (List ℕ)) → is_drawn_row row_lines_most w (bit_row bits (ss ∷ []))
    ≡ true
    → read_row w (bar_line ss) ≡ some (bit_row bits (ss ∷ []))
unfolding read_row row_of keep_row all
row_first w bits ss h =
    let f : are_fitted bits ss ≡ true = and_left (are_fitted bits ss) true (drawn_fitted w bits (ss ∷ []) h) in
    rw (strips_complete ss (strips_free bits ss f), strips_bits bits ss f, h) refl

pub row_long : (w n : ℕ) (s : List ℕ) → is_drawn_row row_lines_most w (long_row n s) ≡ true
    → read_row w (58 ∷ (s ++ (58 ∷ []))) ≡ some (long_row n s)
unfolding read_row row_of keep_row read_long long_of strips_of pieces rest
row_long w n s h =
    let f : is_fitted 58 n s ≡ true = and_right (eqb n w) (is_fitted 58 n s) h in
    let g = fitted_free 58 n s f in
    let p : pieces 58 (s ++ (58 ∷ [])) ≡ s ∷ [] = pieces_cons 58 s [] g in
    let q : rest 58 (s ++ (58 ∷ [])) ≡ [] = rest_cons 58 s [] g in
    rw (p, q, fitted_bits 58 n s f, h) refl

pub row_more : (w : ℕ) (bits : List ℕ) (lines : List (List (List ℕ))) (ss : List (List ℕ))
    → is_drawn_row row_lines_most w (bit_row bits (lines ++ (ss ∷ []))) ≡ true
    → more_row w (bit_row bits lines) (bar_line ss) ≡ some (bit_row bits (lines ++ (ss ∷ [])))
unfolding more_row with_strips keep_row all
row_more w bits lines ss h =
    let f : are_fitted bits ss ≡ true = and_left (are_fitted bits ss) true
    (all_back (are_fitted bits) lines (ss ∷ []) (drawn_fitted w bits (lines ++ (ss ∷ [])) h)) in
    rw (strips_complete ss (strips_free bits ss f), h) refl

-- a border is no line of a row
pub border_ends : (w v : ℕ) (r : Row) → more_row w r (border v) ≡ none
unfolding more_row with_strips border tabulate strips_of
border_ends w v r = rw (add-one (2 * v)) refl

-- ── a row's lines are lines ──

strips_line : (bits : List ℕ) (ss : List (List ℕ)) → are_fitted bits ss ≡ true → is_line (bar_line ss) ≡ true
unfolding are_fitted all joined
strips_line [] [] h = refl
strips_line [] (s ∷ ss) h = cc
strips_line (n ∷ bits) [] h = refl
strips_line (n ∷ bits) (s ∷ ss) h =
    all_append (λ b. not (eqb b 10)) (s ++ (124 ∷ [])) (joined (ended_by 124) ss)
    (all_append (λ b. not (eqb b 10)) s (124 ∷ [])
    (fitted_line 124 n s (and_left (is_fitted 124 n s) (are_fitted bits ss) h)) refl)
    (strips_line bits ss (and_right (is_fitted 124 n s) (are_fitted bits ss) h))

pub row_lines_lem : (w : ℕ) (r : Row) → is_drawn_row row_lines_most w r ≡ true → all is_line (row_lines r) ≡ true
unfolding all row_lines
row_lines_lem w (bit_row bits lines) h = go lines (drawn_fitted w bits lines h)
  where
    go : (lines : List (List (List ℕ))) → all (are_fitted bits) lines ≡ true → all is_line (map bar_line lines) ≡ true
    go [] h = refl
    go (ss ∷ lines) h =
        and_both (is_line (bar_line ss)) (all is_line (map bar_line lines))
        (strips_line bits ss (and_left (are_fitted bits ss) (all (are_fitted bits) lines) h))
        (go lines (and_right (are_fitted bits ss) (all (are_fitted bits) lines) h))
row_lines_lem w (long_row n s) h =
    and_both (is_line (58 ∷ (s ++ (58 ∷ [])))) true
    (all_append (λ b. not (eqb b 10)) s (58 ∷ [])
    (fitted_line 58 n s (and_right (eqb n w) (is_fitted 58 n s) h)) refl) refl
