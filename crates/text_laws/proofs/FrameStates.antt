-- The lines that a state of the reader stands for, and what it keeps of them.
use mathlib.Core.Path.{◌≡◌, refl}
use mathlib.Core.Bool.{Bool, true, false}
use mathlib.Core.List.{List, [], ◌∷◌, ◌++◌}
use mathlib.Core.Option.{Option, none, some}
use Prim.Native.Nat.{ℕ}
use lib.Dec.{eqb}
use borrow.Author.Tests.{eqb-true}
use Rattle.base.specs.Bytes.{bytes}
use Rattle.base.specs.Lists.{all, is_empty, joined}
use Rattle.base.proofs.Lists.{not_both}
use Rattle.rules.specs.Limits.{row_lines_most}
use Rattle.rules.specs.Names.{is_label}
use Rattle.rules.specs.Within.{is_row_width}
use Rattle.rules.specs.Rows.{Row, row_lines, is_drawn_row}
use Rattle.rules.specs.Frames.{tens, units, border, is_brief, article}
use Rattle.text_laws.specs.FrameReader.{closing, Top, State, begun, named, spaced, ruled, counted, bordered}
use Rattle.text_laws.specs.FrameReader.{rowed, closed, headed, filled}

abbrev pub opening_line : Bool → List ℕ → List ℕ
opening_line an n = article an ++ (n ++ closing)

-- rows, each with its border
abbrev pub pairs : ℕ → List Row → List (List ℕ)
pairs w rows = joined (λ r. row_lines r ++ (border w ∷ [])) rows

-- the lines of the top, the rows, and more lines
abbrev pub framed : Top → List Row → List (List ℕ) → List (List ℕ)
framed h rows m =
    opening_line h.an h.name ∷ [] ∷ tens h.row_width ∷ units h.row_width ∷ border h.row_width
    ∷ (pairs h.row_width rows ++ m)

abbrev pub state_lines : State → List (List ℕ)
state_lines begun = []
state_lines (named an n) = opening_line an n ∷ []
state_lines (spaced an n) = opening_line an n ∷ [] ∷ []
state_lines (ruled h) = opening_line h.an h.name ∷ [] ∷ tens h.row_width ∷ []
state_lines (counted h) = opening_line h.an h.name ∷ [] ∷ tens h.row_width ∷ units h.row_width ∷ []
state_lines (bordered h rows) = framed h rows []
state_lines (rowed h rows r) = framed h rows (row_lines r)
state_lines (closed h rows) = framed h rows ([] ∷ [])
state_lines (headed h rows) = framed h rows ([] ∷ bytes "where:" ∷ [])
state_lines (filled h rows ls) = framed h rows ([] ∷ bytes "where:" ∷ [] ∷ ls)

abbrev pub IsTop : Top → Type 0
IsTop h = (is_label h.name ≡ true) × (is_row_width h.row_width ≡ true)

abbrev pub AreRows : Top → List Row → Type 0
AreRows h rows = all (is_drawn_row row_lines_most h.row_width) rows ≡ true

abbrev pub Sane : State → Type 0
Sane begun = Unit {0}
Sane (named an n) = is_label n ≡ true
Sane (spaced an n) = is_label n ≡ true
Sane (ruled h) = IsTop h
Sane (counted h) = IsTop h
Sane (bordered h rows) = IsTop h × AreRows h rows
Sane (rowed h rows r) = IsTop h × AreRows h rows × (is_drawn_row row_lines_most h.row_width r ≡ true)
Sane (closed h rows) = IsTop h × AreRows h rows × (is_empty rows ≡ false)
Sane (headed h rows) = IsTop h × AreRows h rows × (is_empty rows ≡ false)
Sane (filled h rows ls) = IsTop h × AreRows h rows × (is_empty rows ≡ false) × (all is_brief ls ≡ true)

-- the lines read are those of the state, if there is one
abbrev pub Reached : List (List ℕ) → Option State → Type 0
Reached ls none = Unit {0}
Reached ls (some s) = Sane s × (state_lines s ≡ ls)

-- what holds at 8, 16 and 32 holds at each W
pub width_cases : (P : ℕ → Type 0) → P 8 → P 16 → P 32 → (w : ℕ) → is_row_width w ≡ true → P w
width_cases P a b c w h = go (eqb w 8) refl (eqb w 16) refl (eqb w 32) refl h
  where
    go : (x : Bool) → eqb w 8 ≡ x → (y : Bool) → eqb w 16 ≡ y → (z : Bool) → eqb w 32 ≡ z
        → is_row_width w ≡ true → P w
    go true p y q z r h = rw (eqb-true w 8 p) a
    go false p true q z r h = rw (eqb-true w 16 q) b
    go false p false q true r h = rw (eqb-true w 32 r) c
    go false p false q false r h = absurd (not_both (is_row_width w) h (rw (p, q, r)))
