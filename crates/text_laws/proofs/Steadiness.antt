-- What is kept stays steady: its bounds, no name repeated where nothing was refused, no field before the field lines,
-- no row outside of rows.
use mathlib.Core.Path.{◌≡◌, refl, ap, sym, subst, ◌∙◌}
use mathlib.Core.Bool.{Bool, true, false, cond, not}
use mathlib.Core.List.{List, [], ◌∷◌, ◌++◌}
use mathlib.Core.Option.{Option, none, some, none-ne-some}
use Prim.Native.Nat.{ℕ, suc}
use lib.Dec.{leb, ltb}
use lib.ListN.{length}
use Rattle.base.specs.Bytes.{bytes}
use Rattle.base.specs.Lists.{all, same, is_empty, is_none, first_break}
use Rattle.base.proofs.Lists.{not_both}
use Rattle.rules.specs.Answers.{Answer, refused}
use Rattle.rules.specs.Limits.{line_most, fields_most}
use Rattle.rules.specs.Fields.{Form}
use Rattle.rules.specs.Within.{keeps_size, keeps_names, keeps_types, keeps_rest, name_readable}
use Rattle.rules.specs.Rows.{Row, is_labelled}
use Rattle.rules.specs.Frames.{Slot, units, border, slots_in}
use Rattle.text_laws.specs.FrameReader.{read_tens, read_row, more_row}
use Rattle.text_laws.specs.LineReader.{read_form}
use Rattle.text_laws.specs.Resolving.{index_of}
use Rattle.text_laws.specs.Lowest.{lower, broken}
use Rattle.text_laws.specs.Judging.{face, faces, resolved_in, shows_cell, rules, Judged, is_full, many, with_form}
use Rattle.text_laws.specs.Judging.{judge}
use Rattle.text_laws.specs.Fold.{Stage, opening, blank, tens_ruler, units_ruler, top_border, first_row, in_row}
use Rattle.text_laws.specs.Fold.{row_or_blank, where_line, last_blank, first_field, field_line, lost, Found, start}
use Rattle.text_laws.specs.Fold.{onward, losing, blamed, wrong, expect, opening_name, with_name, with_width}
use Rattle.text_laws.specs.Fold.{with_row, with_cells, on_more, with_more, brief_field, with_field, lined_at, lined}
use Rattle.text_laws.specs.Fold.{is_lost, cut}
use Rattle.text_laws.specs.Steady.{Clear, is_head, row_goes, Steady}
use Rattle.text_laws.proofs.Bounds.{small_losing, small_line, small_start}
use Rattle.text_laws.proofs.Faces.{renamed_face}
use Rattle.text_laws.proofs.Loose.{lower_left, faces_append}
use Rattle.text_laws.proofs.Lowests.{break_more}

-- ── where nothing was refused, no name is repeated ──

-- a line that breaks no rule keeps 8 and 9
pub rules_clear : (cells : List Slot) (p : ℕ) (before : List Form) (x : Form)
    → broken 6 p (rules cells) before x ≡ none
    → (keeps_names before x ≡ true) × (keeps_types name_readable before x ≡ true)
unfolding broken
rules_clear cells p before x h =
    go (keeps_size before x) (shows_cell cells before x) (keeps_names before x) refl
    (keeps_types name_readable before x) refl
    (keeps_rest before x) h
  where
    go : (a b c : Bool) → keeps_names before x ≡ c → (d : Bool) → keeps_types name_readable before x ≡ d → (e : Bool)
        → cond a (cond b (cond c (cond d (cond e none (some (refused 10 p))) (some (refused 9 p))) (some (refused 8 p)))
        (some (refused 7 p))) (some (refused 6 p)) ≡ none
        → (keeps_names before x ≡ true) × (keeps_types name_readable before x ≡ true)
    go true true true q true r e k = (q, r)
    go true true true q false r e k = absurd (none-ne-some (refused 9 p) (sym k))
    go true true false q d r e k = absurd (none-ne-some (refused 8 p) (sym k))
    go true false c q d r e k = absurd (none-ne-some (refused 7 p) (sym k))
    go false b c q d r e k = absurd (none-ne-some (refused 6 p) (sym k))

pub lower_right : (a b : Option Answer) → lower a b ≡ none → b ≡ none
lower_right none b e = e
lower_right (some a) b e = absurd (none-ne-some a (sym (lower_left (some a) b e)))

-- one more name that repeats none
pub unique_more : (before : List Form) (x : Form) → first_break keeps_names [] before ≡ none
    → keeps_names before x ≡ true
    → first_break keeps_names [] (before ++ (x ∷ [])) ≡ none
unique_more before x h k = rw (break_more keeps_names before x, h, k) refl

clear_form : (cells : List Slot) (p : ℕ) (j : Judged) (o : Option Form) → Clear j → Clear (with_form cells p j o)
unfolding with_form
clear_form cells p j none h = λ e. h (lower_left j.lowest (some (refused 5 p)) e)
clear_form cells p j (some x) h = λ e.
    let b = broken 6 p (rules cells) (faces j.fields) x in
    let k = rules_clear cells p (faces j.fields) x (lower_right j.lowest b e) in
    let u = unique_more (faces j.fields) x (h (lower_left j.lowest b e)) k.0 in
    rw e (ap (first_break keeps_names []) (faces_append j.fields (resolved_in j.fields x)
    ∙ ap (λ (y : Form). faces j.fields ++ (y ∷ [])) (renamed_face (index_of (faces j.fields ++ (x ∷ []))) x))
    ∙ face_unique (faces j.fields) x u)
  where
    face_unique : (before : List Form) (y : Form) → first_break keeps_names [] (before ++ (y ∷ [])) ≡ none
        → first_break keeps_names [] (before ++ (face y ∷ [])) ≡ none
    face_unique before y u = break_more keeps_names before (face y) ∙ sym (break_more keeps_names before y) ∙ u

clear_judge : (cells : List Slot) (p : ℕ) (j : Judged) (l : List ℕ) → Clear j → Clear (judge cells p j l)
unfolding judge
clear_judge cells p j l h = go (is_full j)
  where
    go : (b : Bool) → Clear (cond b (many j) (with_form cells p j (read_form l)))
    go true = λ e. absurd (none-ne-some (refused 4 0) (sym e))
    go false = clear_form cells p j (read_form l) h

-- ── a line ──

-- clear, and no field before the field lines
abbrev Stays : Found → Type 0
Stays f = Clear f.judged × (is_head f.stage ≡ true → f.judged.fields ≡ [])

module _ (f : Found) (clear : Clear f.judged) where
  stays_losing : (a : Answer) → Stays (losing a f)
  stays_losing a = (λ e. absurd (none-ne-some a (sym e)), λ e. absurd (not_both false e refl))

  stays_wrong : Stays (wrong f)
  stays_wrong = stays_losing (refused 3 (blamed f.row f.lines))

  module _ (no_fields : f.judged.fields ≡ []) where
    stays_expect : (w : List ℕ) (s : Stage) (l : List ℕ) → Stays (expect w s f l)
    stays_expect w s l = go (same l w)
      where
        go : (b : Bool) → Stays (cond b (onward s f) (wrong f))
        go true = (clear, λ e. no_fields)
        go false = stays_wrong

    stays_name : (o : Option (List ℕ)) → Stays (with_name f o)
    stays_name none = stays_wrong
    stays_name (some n) = (clear, λ e. no_fields)

    stays_width : (o : Option ℕ) → Stays (with_width f o)
    stays_width none = stays_wrong
    stays_width (some w) = (clear, λ e. no_fields)

    stays_row : (o : Option Row) → Stays (with_row f o)
    stays_row none = stays_wrong
    stays_row (some r) = (clear, λ e. no_fields)

    stays_cells : (cs : List Slot) → Stays (with_cells f cs)
    stays_cells cs = go (ltb fields_most (length cs))
      where
        go : (b : Bool)
            → Clear (cond b (many f.judged) f.judged)
            × (is_head row_or_blank ≡ true → (cond b (many f.judged) f.judged).fields ≡ [])
        go true = (λ e. absurd (none-ne-some (refused 4 0) (sym e)), λ e. no_fields)
        go false = (clear, λ e. no_fields)

    stays_on : (w : ℕ) (r : Row) (l : List ℕ) (o : Option Row) → Stays (on_more f w r l o)
    stays_on w r l (some x) = (clear, λ e. no_fields)
    stays_on w r l none = go (is_labelled r) (same l (border w))
      where
        go : (a b : Bool) → Stays (cond a (cond b (with_cells f (f.cells ++ slots_in r)) (wrong f)) (wrong f))
        go true true = stays_cells (f.cells ++ slots_in r)
        go true false = stays_wrong
        go false b = stays_wrong

    stays_more : (l : List ℕ) (o : Option Row) → Stays (with_more f l o)
    stays_more l none = stays_wrong
    stays_more l (some r) = stays_on f.width r l (more_row f.width r l)

    stays_blank : (l : List ℕ) → Stays (cond (is_empty l) (onward where_line f) (with_row f (read_row f.width l)))
    stays_blank l = go (is_empty l)
      where
        go : (b : Bool) → Stays (cond b (onward where_line f) (with_row f (read_row f.width l)))
        go true = (clear, λ e. no_fields)
        go false = stays_row (read_row f.width l)

  stays_field : (l : List ℕ) → Stays (with_field f l)
  stays_field l = go (leb (length l) line_most)
    where
      go : (b : Bool) → Stays (cond b (brief_field f l) (wrong f))
      go true = (
        clear_judge f.cells (suc f.lines) f.judged l clear,
        λ e. absurd (not_both false e refl),
      )
      go false = stays_wrong

stays_line : (s : Stage) (f : Found) (l : List ℕ) → Clear f.judged → (is_head s ≡ true → f.judged.fields ≡ [])
    → (is_head f.stage ≡ true → f.judged.fields ≡ []) → Stays (lined_at s f l)
unfolding lined_at
stays_line opening f l c h k = stays_name f c (h refl) (opening_name l)
stays_line blank f l c h k = stays_expect f c (h refl) [] tens_ruler l
stays_line tens_ruler f l c h k = stays_width f c (h refl) (read_tens l)
stays_line units_ruler f l c h k = stays_expect f c (h refl) (units f.width) top_border l
stays_line top_border f l c h k = stays_expect f c (h refl) (border f.width) first_row l
stays_line first_row f l c h k = stays_row f c (h refl) (read_row f.width l)
stays_line in_row f l c h k = stays_more f c (h refl) l f.row
stays_line row_or_blank f l c h k = stays_blank f c (h refl) l
stays_line where_line f l c h k = stays_expect f c (h refl) (bytes "where:") last_blank l
stays_line last_blank f l c h k = stays_expect f c (h refl) [] first_field l
stays_line first_field f l c h k = stays_field f c l
stays_line field_line f l c h k = stays_field f c l
stays_line lost f l c h k = (c, k)

-- ── a row exactly inside of rows ──

abbrev Goes : Found → Type 0
Goes f = row_goes f.stage f.row ≡ true

module _ (f : Found) where
  goes_row : (o : Option Row) → Goes (with_row f o)
  goes_row none = refl
  goes_row (some r) = refl

  goes_on : (w : ℕ) (r : Row) (l : List ℕ) (o : Option Row) → Goes (on_more f w r l o)
  goes_on w r l (some x) = refl
  goes_on w r l none = go (is_labelled r) (same l (border w))
    where
      go : (a b : Bool) → Goes (cond a (cond b (with_cells f (f.cells ++ slots_in r)) (wrong f)) (wrong f))
      go true true = refl
      go true false = refl
      go false b = refl

  goes_more : (l : List ℕ) (o : Option Row) → Goes (with_more f l o)
  goes_more l none = refl
  goes_more l (some r) = goes_on f.width r l (more_row f.width r l)

  module _ (no_row : is_none f.row ≡ true) where
    goes_expect : (w : List ℕ) (s : Stage) (l : List ℕ) → row_goes s f.row ≡ is_none f.row → Goes (expect w s f l)
    goes_expect w s l e = go (same l w)
      where
        go : (b : Bool) → Goes (cond b (onward s f) (wrong f))
        go true = e ∙ no_row
        go false = refl

    goes_name : (o : Option (List ℕ)) → Goes (with_name f o)
    goes_name none = refl
    goes_name (some n) = no_row

    goes_width : (o : Option ℕ) → Goes (with_width f o)
    goes_width none = refl
    goes_width (some w) = refl

    goes_blank : (l : List ℕ) → Goes (cond (is_empty l) (onward where_line f) (with_row f (read_row f.width l)))
    goes_blank l = go (is_empty l)
      where
        go : (b : Bool) → Goes (cond b (onward where_line f) (with_row f (read_row f.width l)))
        go true = no_row
        go false = goes_row (read_row f.width l)

    goes_field : (l : List ℕ) → Goes (with_field f l)
    goes_field l = go (leb (length l) line_most)
      where
        go : (b : Bool) → Goes (cond b (brief_field f l) (wrong f))
        go true = no_row
        go false = refl

goes_line : (s : Stage) (f : Found) (l : List ℕ) → row_goes s f.row ≡ true → Goes f → Goes (lined_at s f l)
unfolding lined_at
goes_line opening f l h k = goes_name f h (opening_name l)
goes_line blank f l h k = goes_expect f h [] tens_ruler l refl
goes_line tens_ruler f l h k = goes_width f h (read_tens l)
goes_line units_ruler f l h k = goes_expect f h (units f.width) top_border l refl
goes_line top_border f l h k = goes_expect f h (border f.width) first_row l refl
goes_line first_row f l h k = goes_row f (read_row f.width l)
goes_line in_row f l h k = goes_more f l f.row
goes_line row_or_blank f l h k = goes_blank f h l
goes_line where_line f l h k = goes_expect f h (bytes "where:") last_blank l refl
goes_line last_blank f l h k = goes_expect f h [] first_field l refl
goes_line first_field f l h k = goes_field f h l
goes_line field_line f l h k = goes_field f h l
goes_line lost f l h k = k

pub steady_line : (f : Found) (l : List ℕ) → Steady f → Steady (lined f l)
steady_line f l h =
    let s = stays_line f.stage f l h.clear h.head h.head in
    record {
      small = small_line f.stage f l h.small;
      clear = s.0;
      head = s.1;
      row = goes_line f.stage f l h.row h.row;
    }

-- a refusal by 1, 2 or 3
pub steady_losing : (a : Answer) (f : Found) → Steady f → Steady (losing a f)
steady_losing a f h =
    let s = stays_losing f h.clear a in
    record { small = small_losing a f h.small; clear = s.0; head = s.1; row = refl }

-- a line that is cut
pub steady_cut : (f : Found) → Steady f → Steady (cut f)
steady_cut f h = go (is_lost f.stage)
  where
    go : (b : Bool) → Steady (cond b f (wrong f))
    go true = h
    go false = steady_losing (refused 3 (blamed f.row f.lines)) f h

pub steady_start : Steady start
unfolding all first_break
steady_start = record {
  small = small_start;
  clear = λ e. refl;
  head = λ e. refl;
  row = refl;
}

-- ── where there is a row ──

pub none_is : (o : Option Row) → is_none o ≡ true → o ≡ none
none_is none k = refl
none_is (some r) k = absurd (not_both false k refl)

pub no_row : {f : Found} (s : Stage) → Steady f → f.stage ≡ s → ((o : Option Row) → row_goes s o ≡ is_none o)
    → f.row ≡ none
no_row {f} s h e g =
    none_is f.row (sym (g f.row) ∙ subst (λ (z : Stage). row_goes z f.row ≡ true) e h.row)

pub some_row : {f : Found} → Steady f → f.stage ≡ in_row → (r : Row) × (f.row ≡ some r)
some_row {f} h e = some_is f.row (subst (λ (z : Stage). row_goes z f.row ≡ true) e h.row)
  where
    some_is : (o : Option Row) → not (is_none o) ≡ true → (r : Row) × (o ≡ some r)
    some_is none k = absurd (not_both false k refl)
    some_is (some r) k = (r, refl)
