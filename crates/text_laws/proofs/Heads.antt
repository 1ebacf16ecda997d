-- Line by line: what is kept stands for the state of the frame's reader, and for the forms of the field lines.
use mathlib.Core.Path.{◌≡◌, refl, ap, ap₂, sym, ◌∙◌, subst}
use mathlib.Core.Bool.{Bool, true, false, cond}
use mathlib.Core.List.{List, [], ◌∷◌, ◌++◌, foldl}
use mathlib.Core.Option.{Option, none, some}
use Prim.Native.Nat.{ℕ, suc, ◌+◌}
use native.Mathlib.Omega.{arith}
use lib.Dec.{leb}
use lib.ListN.{length, length-append, take, drop}
use Rattle.base.specs.Bytes.{bytes}
use Rattle.base.specs.Lists.{is_empty, same, joined}
use Rattle.base.proofs.Joined.{joined_append, joined_one}
use Rattle.rules.specs.Answers.{refused}
use Rattle.rules.specs.Limits.{line_most}
use Rattle.rules.specs.Rows.{Row, is_labelled}
use Rattle.rules.specs.Frames.{Slot, slots_in, units, border}
use Rattle.text_laws.specs.FrameReader.{strips_of, read_long, row_of, read_name, read_tens, read_row, Top, State}
use Rattle.text_laws.specs.FrameReader.{begun, named, spaced, ruled, counted, bordered, rowed, closed, headed}
use Rattle.text_laws.specs.FrameReader.{filled, on_name, on_width, on_row, row_or_end, more_row, opened, on_same, step}
use Rattle.text_laws.specs.FrameReader.{on_brief, on_state, ended_rows, leave, strict, strict_run, stop_at}
use Rattle.text_laws.specs.FrameReader.{strict_place}
use Rattle.text_laws.specs.Fold.{Stage, opening, blank, tens_ruler, units_ruler, top_border, first_row, in_row}
use Rattle.text_laws.specs.Fold.{row_or_blank, where_line, last_blank, first_field, field_line, lost, Found, start}
use Rattle.text_laws.specs.Fold.{onward, blamed, wrong, with_line, on_more, with_more, expect, opening_name}
use Rattle.text_laws.specs.Fold.{with_name, with_width, with_cells, with_row, brief_field, with_field, lined_at}
use Rattle.text_laws.specs.Fold.{lined}
use Rattle.text_laws.proofs.Judges.{judges_none}
use Rattle.text_laws.proofs.HeadFills.{Fills, fits, fills_moved, fills_row, fills_field}

-- ── what is kept of a state ──

abbrev pub stage_of : State → Stage
stage_of begun = opening
stage_of (named an n) = blank
stage_of (spaced an n) = tens_ruler
stage_of (ruled h) = units_ruler
stage_of (counted h) = top_border
stage_of (bordered h rows) = cond (is_empty rows) first_row row_or_blank
stage_of (rowed h rows r) = in_row
stage_of (closed h rows) = where_line
stage_of (headed h rows) = last_blank
stage_of (filled h rows ls) = cond (is_empty ls) first_field field_line

abbrev pub name_in : State → List ℕ
name_in begun = []
name_in (named an n) = n
name_in (spaced an n) = n
name_in (ruled h) = h.name
name_in (counted h) = h.name
name_in (bordered h rows) = h.name
name_in (rowed h rows r) = h.name
name_in (closed h rows) = h.name
name_in (headed h rows) = h.name
name_in (filled h rows ls) = h.name

abbrev pub width_in : State → ℕ
width_in begun = 0
width_in (named an n) = 0
width_in (spaced an n) = 0
width_in (ruled h) = h.row_width
width_in (counted h) = h.row_width
width_in (bordered h rows) = h.row_width
width_in (rowed h rows r) = h.row_width
width_in (closed h rows) = h.row_width
width_in (headed h rows) = h.row_width
width_in (filled h rows ls) = h.row_width

abbrev pub row_in : State → Option Row
row_in begun = none
row_in (named an n) = none
row_in (spaced an n) = none
row_in (ruled h) = none
row_in (counted h) = none
row_in (bordered h rows) = none
row_in (rowed h rows r) = some r
row_in (closed h rows) = none
row_in (headed h rows) = none
row_in (filled h rows ls) = none

abbrev pub lines_in : State → List (List ℕ)
lines_in begun = []
lines_in (named an n) = []
lines_in (spaced an n) = []
lines_in (ruled h) = []
lines_in (counted h) = []
lines_in (bordered h rows) = []
lines_in (rowed h rows r) = []
lines_in (closed h rows) = []
lines_in (headed h rows) = []
lines_in (filled h rows ls) = ls

abbrev pub cells_in : State → List Slot
cells_in s = joined slots_in (ended_rows s)

-- behind n lines
pub record Stands (n : ℕ) (s : State) (f : Found) : Type 0 where
  pub lines : f.lines ≡ n
  pub stage : f.stage ≡ stage_of s
  pub name : f.name ≡ name_in s
  pub width : f.width ≡ width_in s
  pub row : f.row ≡ row_in s
  -- the lines before the field lines
  pub from : ℕ
  pub counts : n ≡ from + length (lines_in s)
  pub fills : Fills (cells_in s) (suc from) (lines_in s) f.cells f.judged

pub start_stands : Stands 0 begun start
unfolding joined
start_stands = record {
  lines = refl;
  stage = refl;
  name = refl;
  width = refl;
  row = refl;
  from = 0;
  counts = refl;
  fills = fits (omega arith) (omega arith) refl refl (judges_none [] 1 start.judged refl refl);
}

-- ── one line ──

-- where the reader goes on, what is kept stands for its state; else it is a 3 here
abbrev pub Follows : ℕ → Found → Option State → Found → Type 0
Follows n f none g = g ≡ wrong f
Follows n f (some q) g = Stands (suc n) q g

-- a state without field lines
head_stands : (n p : ℕ) (q : State) (g : Found) → lines_in q ≡ [] → g.lines ≡ n → g.stage ≡ stage_of q
    → g.name ≡ name_in q → g.width ≡ width_in q → g.row ≡ row_in q
    → Fills (cells_in q) p [] g.cells g.judged → Stands n q g
head_stands n p q g e lines stage name width row h = record {
  lines = lines;
  stage = stage;
  name = name;
  width = width;
  row = row;
  from = n;
  counts = rw e (let z : n ≡ n + 0 = omega arith in z);
  fills = rw e (fills_moved (cells_in q) p (suc n) g.cells g.judged h);
}

on_same_lem : (n : ℕ) (f : Found) (w : List ℕ) (q : State) (s : Stage) (l : List ℕ) → Stands (suc n) q (onward s f)
    → Follows n f (on_same w q l) (expect w s f l)
unfolding on_same
on_same_lem n f w q s l h = go (same l w)
  where
    go : (b : Bool) → Follows n f (cond b (some q) none) (cond b (onward s f) (wrong f))
    go true = h
    go false = refl

on_name_lem : (n : ℕ) (f : Found) (an : Bool) → Stands n begun f → (o : Option (List ℕ))
    → Follows n f (on_name an o) (with_name f o)
unfolding on_name
on_name_lem n f an h none = refl
on_name_lem n f an h (some m) = head_stands (suc n) (suc h.from) (named an m) (with_name f (some m)) refl
    (ap suc h.lines) refl refl h.width h.row h.fills

on_opening : (n : ℕ) (f : Found) (l : List ℕ) → Stands n begun f → Follows n f (opened l) (with_name f (opening_name l))
unfolding opened opening_name
on_opening n f l h = go (same (take 3 l) (bytes "An ")) (same (take 2 l) (bytes "A "))
  where
    go : (a b : Bool)
        → Follows n f (cond a (on_name true (read_name (drop 3 l)))
        (cond b (on_name false (read_name (drop 2 l))) none))
        (with_name f (cond a (read_name (drop 3 l)) (cond b (read_name (drop 2 l)) none)))
    go true b = on_name_lem n f true h (read_name (drop 3 l))
    go false true = on_name_lem n f false h (read_name (drop 2 l))
    go false false = refl

on_tens : (n : ℕ) (f : Found) (an : Bool) (m : List ℕ) → Stands n (spaced an m) f → (o : Option ℕ)
    → Follows n f (on_width an m o) (with_width f o)
unfolding on_width
on_tens n f an m h none = refl
on_tens n f an m h (some w) =
    head_stands (suc n) (suc h.from) (ruled (record { an = an; name = m; row_width = w })) (with_width f (some w)) refl
    (ap suc h.lines) refl h.name refl refl h.fills

on_row_lem : (n : ℕ) (f : Found) (h : Top) (rows : List Row) → Stands n (bordered h rows) f → (o : Option Row)
    → Follows n f (on_row h rows o) (with_row f o)
unfolding on_row
on_row_lem n f h rows s none = refl
on_row_lem n f h rows s (some r) =
    head_stands (suc n) (suc s.from) (rowed h rows r) (with_row f (some r)) refl (ap suc s.lines) refl
    s.name s.width refl s.fills

row_empty : (w : ℕ) → read_row w [] ≡ none
unfolding read_row row_of strips_of read_long
row_empty w = refl

-- behind a border
on_border : (n : ℕ) (f : Found) (h : Top) (rows : List Row) (l : List ℕ) → Stands n (bordered h rows) f
    → Follows n f (row_or_end h rows l) (lined_at (cond (is_empty rows) first_row row_or_blank) f l)
unfolding row_or_end lined_at
on_border n f h [] [] s = rw (row_empty f.width) refl
on_border n f h [] (b ∷ l) s =
    subst (λ (w : ℕ). Follows n f (on_row h [] (read_row h.row_width (b ∷ l))) (with_row f (read_row w (b ∷ l))))
    (sym s.width) (on_row_lem n f h [] s (read_row h.row_width (b ∷ l)))
on_border n f h (r ∷ rows) [] s =
    head_stands (suc n) (suc s.from) (closed h (r ∷ rows)) (onward where_line f) refl (ap suc s.lines) refl
    s.name s.width s.row s.fills
on_border n f h (r ∷ rows) (b ∷ l) s =
    subst (λ (w : ℕ). Follows n f (on_row h (r ∷ rows) (read_row h.row_width (b ∷ l)))
    (with_row f (read_row w (b ∷ l))))
    (sym s.width) (on_row_lem n f h (r ∷ rows) s (read_row h.row_width (b ∷ l)))

more_lines : (ls : List (List ℕ)) (l : List ℕ) → is_empty (ls ++ (l ∷ [])) ≡ false
more_lines [] l = refl
more_lines (m ∷ ls) l = refl

on_field : (n : ℕ) (f : Found) (h : Top) (rows : List Row) (ls : List (List ℕ)) (l : List ℕ)
    → Stands n (filled h rows ls) f → Stands (suc n) (filled h rows (ls ++ (l ∷ []))) (brief_field f l)
on_field n f h rows ls l s = record {
  lines = ap suc s.lines;
  stage = rw (more_lines ls l) refl;
  name = s.name;
  width = s.width;
  row = s.row;
  from = s.from;
  counts = let c = s.counts in let m = length-append ls (l ∷ []) in omega (arith, c, m);
  fills =
      let place : suc f.lines ≡ suc s.from + length ls =
      let c = s.counts in let m = s.lines in omega (arith, c, m) in
      rw place (fills_field (joined slots_in rows) (suc s.from) ls f.cells f.judged l s.fills);
}

on_length : (n : ℕ) (f : Found) (h : Top) (rows : List Row) (ls : List (List ℕ)) (l : List ℕ)
    → Stands n (filled h rows ls) f → (b : Bool)
    → Follows n f (on_brief h rows ls l b) (cond b (brief_field f l) (wrong f))
unfolding on_brief
on_length n f h rows ls l s true = on_field n f h rows ls l s
on_length n f h rows ls l s false = refl

field_stage : (ls : List (List ℕ)) (f : Found) (l : List ℕ)
    → lined_at (cond (is_empty ls) first_field field_line) f l ≡ with_field f l
unfolding lined_at
field_stage [] f l = refl
field_stage (m ∷ ls) f l = refl

-- by the stage that the state has
at_stage : (n : ℕ) (f : Found) (o : Option State) (l : List ℕ) (s : Stage) → f.stage ≡ s
    → Follows n f o (lined_at s f l) → Follows n f o (lined f l)
at_stage n f o l s e h = subst (λ (x : Stage). Follows n f o (lined_at x f l)) (sym e) h

-- a line that W settles
on_ruler : (n : ℕ) (f : Found) (w : ℕ → List ℕ) (v : ℕ) (q : State) (s : Stage) (l : List ℕ) → f.width ≡ v
    → Stands (suc n) q (onward s f) → Follows n f (on_same (w v) q l) (expect (w f.width) s f l)
on_ruler n f w v q s l e h =
    subst (λ (x : ℕ). Follows n f (on_same (w v) q l) (expect (w x) s f l)) (sym e) (on_same_lem n f (w v) q s l h)

more_rows : (rows : List Row) (r : Row) → row_or_blank ≡ cond (is_empty (rows ++ (r ∷ []))) first_row row_or_blank
more_rows [] r = refl
more_rows (x ∷ rows) r = refl

-- the same name, width, cells and fields, one line on
next_stands : (n : ℕ) (s q : State) (x : Stage) (f : Found) → Stands n s f → lines_in s ≡ [] → lines_in q ≡ []
    → x ≡ stage_of q → name_in s ≡ name_in q → width_in s ≡ width_in q → row_in s ≡ row_in q
    → ended_rows s ≡ ended_rows q → Stands (suc n) q (onward x f)
next_stands n s q x f h a b e name width row rows =
    head_stands (suc n) (suc h.from) q (onward x f) b (ap suc h.lines) e (h.name ∙ name) (h.width ∙ width)
    (h.row ∙ row)
    (rw (a, rows) at h.fills)

-- in a row
on_more_lem : (n : ℕ) (f : Found) (t : Top) (rows : List Row) (r : Row) (l : List ℕ) → Stands n (rowed t rows r) f
    → (o : Option Row) → Follows n f (leave t rows r l o) (on_more f t.row_width r l o)
unfolding leave on_same
on_more_lem n f t rows r l s (some x) =
    head_stands (suc n) (suc s.from) (rowed t rows x) (with_line f x) refl (ap suc s.lines) refl s.name
    s.width refl s.fills
on_more_lem n f t rows r l s none = go (is_labelled r) (same l (border t.row_width))
  where
    q : State
    q = bordered t (rows ++ (r ∷ []))

    g : Found
    g = with_cells f (f.cells ++ slots_in r)

    go : (a b : Bool) → Follows n f (cond a (cond b (some q) none) none) (cond a (cond b g (wrong f)) (wrong f))
    go true true =
        head_stands (suc n) (suc s.from) q g refl (ap suc s.lines) (more_rows rows r) s.name s.width refl
        (rw (joined_append slots_in rows (r ∷ []), joined_one slots_in r)
        (fills_row (joined slots_in rows) (suc s.from) f (slots_in r) s.fills))
    go true false = refl
    go false b = refl

pub line_stands : (n : ℕ) (s : State) (f : Found) (l : List ℕ) → Stands n s f → Follows n f (strict s l) (lined f l)
unfolding strict step lined_at
line_stands n begun f l h = at_stage n f (opened l) l opening h.stage (on_opening n f l h)
line_stands n (named an m) f l h =
    at_stage n f (on_same [] (spaced an m) l) l blank h.stage
    (on_same_lem n f [] (spaced an m) tens_ruler l
    (next_stands n (named an m) (spaced an m) tens_ruler f h refl refl refl refl refl refl refl))
line_stands n (spaced an m) f l h =
    at_stage n f (on_width an m (read_tens l)) l tens_ruler h.stage (on_tens n f an m h (read_tens l))
line_stands n (ruled t) f l h =
    at_stage n f (on_same (units t.row_width) (counted t) l) l units_ruler h.stage
    (on_ruler n f units t.row_width (counted t) top_border l h.width
    (next_stands n (ruled t) (counted t) top_border f h refl refl refl refl refl refl refl))
line_stands n (counted t) f l h =
    at_stage n f (on_same (border t.row_width) (bordered t []) l) l top_border h.stage
    (on_ruler n f border t.row_width (bordered t []) first_row l h.width
    (next_stands n (counted t) (bordered t []) first_row f h refl refl refl refl refl refl refl))
line_stands n (bordered t rows) f l h =
    at_stage n f (row_or_end t rows l) l (cond (is_empty rows) first_row row_or_blank) h.stage
    (on_border n f t rows l h)
line_stands n (rowed t rows r) f l h =
    let o : Option State = leave t rows r l (more_row t.row_width r l) in
    at_stage n f o l in_row h.stage
    (subst (λ (x : Option Row). Follows n f o (with_more f l x)) (sym h.row)
    (subst (λ (w : ℕ). Follows n f o (on_more f w r l (more_row w r l))) (sym h.width)
    (on_more_lem n f t rows r l h (more_row t.row_width r l))))
line_stands n (closed t rows) f l h =
    at_stage n f (on_same (bytes "where:") (headed t rows) l) l where_line h.stage
    (on_same_lem n f (bytes "where:") (headed t rows) last_blank l
    (next_stands n (closed t rows) (headed t rows) last_blank f h refl refl refl refl refl refl refl))
line_stands n (headed t rows) f l h =
    at_stage n f (on_same [] (filled t rows []) l) l last_blank h.stage
    (on_same_lem n f [] (filled t rows []) first_field l
    (next_stands n (headed t rows) (filled t rows []) first_field f h refl refl refl refl refl refl refl))
line_stands n (filled t rows ls) f l h =
    let b : Bool = leb (length l) line_most in
    let o : Option State = on_brief t rows ls l b in
    at_stage n f o l (cond (is_empty ls) first_field field_line) h.stage
    (subst (λ (g : Found). Follows n f o g) (sym (field_stage ls f l)) (on_length n f t rows ls l h b))

-- ── all lines ──

-- nothing is read behind a wrong line
pub lost_stays : (ls : List (List ℕ)) (f : Found) → f.stage ≡ lost → foldl lined f ls ≡ f
lost_stays [] f e = refl
lost_stays (l ∷ ls) f e =
    let h : lined f l ≡ f = unfold lined_at in ap (λ (s : Stage). lined_at s f l) e in
    ap (λ (g : Found). foldl lined g ls) h ∙ lost_stays ls f e

-- behind n lines: it stands for the state, or 3 was noted at p
abbrev pub Ran : ℕ → ℕ → Option State → Found → Type 0
Ran n p none g = (g.stage ≡ lost) × (g.judged.lowest ≡ some (refused 3 p))
Ran n p (some q) g = Stands n q g

ran_moved : (m n p : ℕ) → m ≡ n → (o : Option State) (g : Found) → Ran m p o g → Ran n p o g
ran_moved m n p e none g h = h
ran_moved m n p e (some q) g h = subst (λ (z : ℕ). Stands z q g) e h

-- the place is the one where the strict reader stops
stop_blamed : (n : ℕ) (s : State) → blamed (row_in s) n ≡ stop_at n s
stop_blamed n begun = refl
stop_blamed n (named an m) = refl
stop_blamed n (spaced an m) = refl
stop_blamed n (ruled h) = refl
stop_blamed n (counted h) = refl
stop_blamed n (bordered h rows) = refl
stop_blamed n (rowed h rows r) = refl
stop_blamed n (closed h rows) = refl
stop_blamed n (headed h rows) = refl
stop_blamed n (filled h rows ls) = refl

pub stands_blamed : (n : ℕ) (s : State) (f : Found) → Stands n s f → blamed f.row f.lines ≡ stop_at n s
stands_blamed n s f h = ap₂ {C = ℕ} blamed h.row h.lines ∙ stop_blamed n s

pub run_stands : (ls : List (List ℕ)) (n : ℕ) (s : State) (f : Found) → Stands n s f
    → Ran (n + length ls) (strict_place n s ls) (strict_run s ls) (foldl lined f ls)
unfolding strict_run strict_place
run_stands [] n s f h = let z : n + 0 ≡ n = omega arith in rw z h
run_stands (l ∷ ls) n s f h = go (strict s l) (line_stands n s f l h) (run_stands ls)
  where
    go : (o : Option State) → Follows n f o (lined f l)
        → ((m : ℕ) (q : State) (g : Found) → Stands m q g
        → Ran (m + length ls) (strict_place m q ls) (strict_run q ls) (foldl lined g ls))
        → Ran (n + suc (length ls)) (on_state (stop_at n s) (λ q. strict_place (suc n) q ls) o)
        (on_state none (λ q. strict_run q ls) o) (foldl lined (lined f l) ls)
    go none e r =
        let g : foldl lined (lined f l) ls ≡ wrong f =
        ap (λ (k : Found). foldl lined k ls) e ∙ lost_stays ls (wrong f) refl in
        subst (λ (k : Found). Ran (n + suc (length ls)) (stop_at n s) none k) (sym g)
        (refl, ap (λ (k : ℕ). some (refused 3 k)) (stands_blamed n s f h))
    go (some q) e r =
        ran_moved (suc n + length ls) (n + suc (length ls)) (strict_place (suc n) q ls) (omega arith) (strict_run q ls)
        (foldl lined (lined f l) ls) (r (suc n) q (lined f l) e)
