-- What was read stands in the state: after each line, the lines so far are those of the state.
use mathlib.Core.Path.{◌≡◌, refl, ap, sym, ◌∙◌}
use mathlib.Core.Bool.{Bool, true, false, cond}
use mathlib.Core.List.{List, [], ◌∷◌, ◌++◌, append_assoc, append-nil}
use mathlib.Core.Option.{Option, none, some}
use Prim.Native.Nat.{ℕ}
use lib.Dec.{leb}
use lib.ListN.{length}
use Rattle.base.specs.Bytes.{bytes}
use Rattle.base.specs.Lists.{all, same, is_empty, joined}
use Rattle.base.proofs.Lists.{same_true, all_append, all_back}
use Rattle.base.proofs.Joined.{joined_append, joined_one}
use Rattle.rules.specs.Limits.{line_most, row_lines_most}
use Rattle.rules.specs.Names.{is_label}
use Rattle.rules.specs.Rows.{Row, row_lines, is_drawn_row}
use Rattle.rules.specs.Frames.{tens, units, border, is_line, is_brief}
use Rattle.text_laws.specs.FrameReader.{read_row, more_row, read_tens, Top, State, begun, named, spaced, ruled}
use Rattle.text_laws.specs.FrameReader.{counted, bordered, rowed, closed, headed, filled, on_width, on_row}
use Rattle.text_laws.specs.FrameReader.{row_or_end, on_same, row_or_border, on_brief, step, on_state, run}
use Rattle.text_laws.proofs.RowReader.{Reads, row_sound, more_sound}
use Rattle.text_laws.proofs.FrameStates.{opening_line, pairs, framed, state_lines, IsTop, AreRows, Sane, Reached}
use Rattle.text_laws.proofs.FrameTop.{opened_sound, Widths, tens_sound}

-- ── lines at the end ──

pub framed_more : (h : Top) (rows : List Row) (m n : List (List ℕ)) → framed h rows (m ++ n) ≡ framed h rows m ++ n
framed_more h rows m n =
    ap {B = List (List ℕ)}
    (λ p. opening_line h.an h.name ∷ [] ∷ tens h.row_width ∷ units h.row_width ∷ border h.row_width ∷ p)
    (sym (append_assoc (pairs h.row_width rows) m n))

pub pairs_row : (w : ℕ) (rows : List Row) (r : Row) (m : List (List ℕ))
    → pairs w (rows ++ (r ∷ [])) ++ m ≡ pairs w rows ++ (row_lines r ++ (border w ∷ m))
pairs_row w rows r m =
    rw (
      joined_append (λ q. row_lines q ++ (border w ∷ [])) rows (r ∷ []),
      joined_one (λ q. row_lines q ++ (border w ∷ [])) r,
    )
    (append_assoc (pairs w rows) (row_lines r ++ (border w ∷ [])) m
    ∙ ap (λ (k : List (List ℕ)). pairs w rows ++ k) (append_assoc (row_lines r) (border w ∷ []) m))

pub framed_row : (h : Top) (rows : List Row) (r : Row) (m : List (List ℕ))
    → framed h (rows ++ (r ∷ [])) m ≡ framed h rows (row_lines r ++ (border h.row_width ∷ m))
framed_row h rows r m =
    ap {B = List (List ℕ)}
    (λ p. opening_line h.an h.name ∷ [] ∷ tens h.row_width ∷ units h.row_width ∷ border h.row_width ∷ p)
    (pairs_row h.row_width rows r m)

-- field lines are lines where all are
pub fields_are_lines : (h : Top) (rows : List Row) (ls : List (List ℕ))
    → all is_line (state_lines (filled h rows ls)) ≡ true → all is_line ls ≡ true
fields_are_lines h rows ls a = all_back is_line (framed h rows ([] ∷ bytes "where:" ∷ [] ∷ [])) ls
    (rw (← framed_more h rows ([] ∷ bytes "where:" ∷ [] ∷ []) ls) a)

-- ── one line ──

on_same_lem : (w : List ℕ) (s : State) (l : List ℕ) (ls : List (List ℕ)) → Sane s → state_lines s ≡ ls ++ (w ∷ [])
    → Reached (ls ++ (l ∷ [])) (on_same w s l)
unfolding on_same
on_same_lem w s l ls h e = go (same l w) refl
  where
    go : (x : Bool) → same l w ≡ x → Reached (ls ++ (l ∷ [])) (cond x (some s) none)
    go true p = (h, rw (same_true l w p) e)
    go false p = tt

on_width_lem : (an : Bool) (n l : List ℕ) → is_label n ≡ true → (o : Option ℕ) → Widths l o
    → Reached (opening_line an n ∷ [] ∷ l ∷ []) (on_width an n o)
unfolding on_width
on_width_lem an n l h none p = tt
on_width_lem an n l h (some w) p =
    ((h, p.0), ap {B = List (List ℕ)} (λ m. opening_line an n ∷ [] ∷ m ∷ []) p.1)

on_row_lem : (h : Top) (rows : List Row) (l : List ℕ) → IsTop h → AreRows h rows → (o : Option Row)
    → Reads h.row_width (l ∷ []) o → Reached (framed h rows [] ++ (l ∷ [])) (on_row h rows o)
unfolding on_row
on_row_lem h rows l t a none p = tt
on_row_lem h rows l t a (some r) p = (
  (t, a, p.0),
  ap (λ (m : List (List ℕ)). framed h rows m) p.1 ∙ framed_more h rows [] (l ∷ []),
)

row_or_end_lem : (h : Top) (rows : List Row) (l : List ℕ) → IsTop h → AreRows h rows
    → Reached (framed h rows [] ++ (l ∷ [])) (row_or_end h rows l)
unfolding row_or_end
row_or_end_lem h rows (b ∷ l) t a =
    on_row_lem h rows (b ∷ l) t a (read_row h.row_width (b ∷ l)) (row_sound h.row_width (b ∷ l))
row_or_end_lem h rows [] t a = go (is_empty rows) refl
  where
    go : (x : Bool) → is_empty rows ≡ x → Reached (framed h rows [] ++ ([] ∷ [])) (cond x none (some (closed h rows)))
    go true e = tt
    go false e = ((t, a, e), framed_more h rows [] ([] ∷ []))

pub more_rows : (h : Top) (rows : List Row) (r : Row) → AreRows h rows
    → is_drawn_row row_lines_most h.row_width r ≡ true
    → AreRows h (rows ++ (r ∷ []))
unfolding all
more_rows h rows r a p = all_append (is_drawn_row row_lines_most h.row_width) rows (r ∷ []) a (rw p)

-- in a row
row_or_border_lem : (t : Top) (rows : List Row) (r : Row) (l : List ℕ) → Sane (rowed t rows r) → (o : Option Row)
    → Reads t.row_width (row_lines r ++ (l ∷ [])) o
    → Reached (state_lines (rowed t rows r) ++ (l ∷ [])) (row_or_border t rows r l o)
unfolding row_or_border
row_or_border_lem t rows r l h none p =
    on_same_lem (border t.row_width) (bordered t (rows ++ (r ∷ []))) l (state_lines (rowed t rows r))
    (h.0, more_rows t rows r h.1 h.2)
    (framed_row t rows r [] ∙ framed_more t rows (row_lines r) (border t.row_width ∷ []))
row_or_border_lem t rows r l h (some x) p = (
  (h.0, h.1, p.0),
  ap (λ (m : List (List ℕ)). framed t rows m) p.1 ∙ framed_more t rows (row_lines r) (l ∷ []),
)

on_brief_lem : (t : Top) (rows : List Row) (ls : List (List ℕ)) (l : List ℕ) → Sane (filled t rows ls) → (b : Bool)
    → leb (length l) line_most ≡ b → Reached (state_lines (filled t rows ls) ++ (l ∷ [])) (on_brief t rows ls l b)
unfolding on_brief all
on_brief_lem t rows ls l h true e = (
  (h.0, h.1, h.2, all_append is_brief ls (l ∷ []) h.3 (rw e refl)),
  framed_more t rows ([] ∷ bytes "where:" ∷ [] ∷ ls) (l ∷ []),
)
on_brief_lem t rows ls l h false e = tt

pub step_sound : (s : State) (l : List ℕ) → Sane s → Reached (state_lines s ++ (l ∷ [])) (step s l)
unfolding step all joined
step_sound begun l h = opened_sound l
step_sound (named an n) l h = on_same_lem [] (spaced an n) l (state_lines (named an n)) h refl
step_sound (spaced an n) l h = on_width_lem an n l h (read_tens l) (tens_sound l)
step_sound (ruled t) l h = on_same_lem (units t.row_width) (counted t) l (state_lines (ruled t)) h refl
step_sound (counted t) l h = on_same_lem (border t.row_width) (bordered t []) l (state_lines (counted t)) (h, refl) refl
step_sound (bordered t rows) l h = row_or_end_lem t rows l h.0 h.1
step_sound (rowed t rows r) l h =
    row_or_border_lem t rows r l h (more_row t.row_width r l) (more_sound t.row_width r l)
step_sound (closed t rows) l h =
    on_same_lem (bytes "where:") (headed t rows) l (state_lines (closed t rows)) h
    (framed_more t rows ([] ∷ []) (bytes "where:" ∷ []))
step_sound (headed t rows) l h =
    on_same_lem [] (filled t rows []) l (state_lines (headed t rows)) (h.0, h.1, h.2, refl)
    (framed_more t rows ([] ∷ bytes "where:" ∷ []) ([] ∷ []))
step_sound (filled t rows ls) l h = on_brief_lem t rows ls l h (leb (length l) line_most) refl

-- ── all lines ──

pub run_sound : (ms : List (List ℕ)) (s : State) (ls : List (List ℕ)) → Sane s → state_lines s ≡ ls
    → Reached (ls ++ ms) (run s ms)
unfolding run
run_sound [] s ls h e = (h, e ∙ sym (append-nil ls))
run_sound (m ∷ ms) s ls h e = go (step s m) (step_sound s m h) (run_sound ms)
  where
    go : (o : Option State) → Reached (state_lines s ++ (m ∷ [])) o
        → ((q : State) (ls : List (List ℕ)) → Sane q → state_lines q ≡ ls → Reached (ls ++ ms) (run q ms))
        → Reached (ls ++ (m ∷ ms)) (on_state none (λ q. run q ms) o)
    go none p f = tt
    go (some q) p f =
        rw (← append_assoc ls (m ∷ []) ms) (f q (ls ++ (m ∷ [])) p.0 (rw (← e) p.1))
