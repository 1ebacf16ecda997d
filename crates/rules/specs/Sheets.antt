-- Frames of 8 bits a row, and forms of their lines, for the worked cases.
use Rattle.std.specs.Prelude.{false, List, [], ◌∷◌, ◌++◌, map, ℕ, replicate}
use Rattle.std.proofs.Math.Option.{none, some}
use Prim.Native.String.{String}
use Rattle.base.specs.Bytes.{bytes}
use Rattle.rules.specs.declared.Op.TheVariants.{Eq, Add}
use Rattle.rules.specs.Trees.{Tree, num, read, two}
use Rattle.rules.specs.Fields.{fixed, measured, rest, Form}
use Rattle.rules.specs.Rows.{Row, bit_row, long_row}
use Rattle.rules.specs.Frames.{Frame}
use Rattle.rules.specs.Cases.{unnamed, named}

-- some bits, and what stands there in one line
pub record Strip : Type 0 where
  pub bits : ℕ
  pub text : List ℕ

-- some bits that show a text with blanks before and behind it
abbrev pub cell : ℕ → ℕ → String → ℕ → Strip
cell bits before text behind = record {
  bits = bits;
  text = replicate before 32 ++ (bytes text ++ replicate behind 32);
}

-- rows of one line
abbrev pub line_of : List Strip → Row
line_of ss = bit_row (map (λ s. s.bits) ss) (map (λ s. s.text) ss ∷ [])

abbrev pub colon_line : Strip → Row
colon_line s = long_row s.bits s.text

-- a row of several lines
abbrev pub lines_of : List ℕ → List (List String) → Row
lines_of bits lines = bit_row bits (map (map bytes) lines)

-- n lines of one cell
abbrev pub many : ℕ → String → List (List String)
many n s = replicate n (s ∷ [])

-- a bit row and a long row that show one letter
abbrev pub bits_of : String → Row
bits_of l = line_of (cell 8 7 l 7 ∷ [])

abbrev pub long_of : String → Row
long_of l = colon_line (cell 8 7 l 7)

-- a name, W, rows and lines
abbrev pub framed : String → ℕ → List Row → List (List ℕ) → Frame
framed name w rows lines = record { an = false; name = bytes name; row_width = w; rows = rows; lines = lines }

-- rows of 8 bits, and n lines
abbrev pub sheet : List Row → ℕ → Frame
sheet rows n = framed "Sheet" 8 rows (replicate n (bytes "line"))

-- 8 bits; with a constraint; with a condition
abbrev pub plain : String → Form
plain l = unnamed l (fixed 8) none none

abbrev pub requiring : String → Tree (List ℕ) → Form
requiring l t = unnamed l (fixed 8) (some t) none

abbrev pub depending : String → Tree (List ℕ) → Form
depending l t = unnamed l (fixed 8) none (some t)

-- as many bytes as a sum says; what is left
abbrev pub summed : String → String → Form
summed l s = named l s (measured 8 (two Add (num 1) (num 1))) none none

abbrev pub left : String → Form
left l = unnamed l rest none none

-- `w == 1`
abbrev pub is_one : String → Tree (List ℕ)
is_one w = two Eq (read (bytes w)) (num 1)
