-- Worked cases: frames, labels and short names. [01, The lines of a text]
use Rattle.std.specs.Prelude.{List, [], ◌∷◌, ◌++◌, replicate}
use Rattle.std.proofs.Math.Option.{none, some}
use Rattle.base.specs.Bytes.{bytes}
use Rattle.rules.specs.Cases.{Case, fits, exceeds, unframed}
use Rattle.rules.specs.Pages.{called}
use Rattle.rules.specs.Sheets.{cell, line_of, colon_line, bits_of, long_of, framed}

abbrev frames : List Case
frames =
    -- no frame: NAME, W, rows, lines, the text of a cell and its blanks, the width of a row
    unframed (framed "Sheet-" 8 (bits_of "A" ∷ []) (bytes "line" ∷ []))
    ∷ unframed (framed "Sheet" 24 (line_of (cell 24 23 "A" 23 ∷ []) ∷ []) (bytes "line" ∷ []))
    ∷ unframed (framed "Sheet" 8 [] (bytes "line" ∷ []))
    ∷ unframed (framed "Sheet" 8 (bits_of "A" ∷ []) [])
    ∷ unframed (framed "Sheet" 8 (bits_of "A" ∷ []) (bytes "line\n" ∷ []))
    ∷ unframed (framed "Sheet" 8 (bits_of "-" ∷ []) (bytes "line" ∷ []))
    ∷ unframed (framed "Sheet" 8 (long_of " " ∷ []) (bytes "line" ∷ []))
    ∷ unframed (framed "Sheet" 8 (line_of (cell 8 7 "A" 6 ∷ []) ∷ []) (bytes "line" ∷ []))
    ∷ unframed (framed "Sheet" 8 (colon_line (cell 8 7 "A" 8) ∷ []) (bytes "line" ∷ []))
    ∷ unframed (framed "Sheet" 8 (line_of (cell 4 3 "A" 3 ∷ []) ∷ []) (bytes "line" ∷ []))
    ∷ unframed (framed "Sheet" 8 (colon_line (cell 16 15 "A" 15) ∷ []) (bytes "line" ∷ []))
    ∷ []

abbrev names : List Case
names =
    -- labels
    fits (called (replicate 40 97) (some (replicate 8 97)))
    ∷ exceeds (called (replicate 41 97) none)
    ∷ fits (called (bytes "2-a B") (some (bytes "a2B")))
    ∷ exceeds (called [] none)
    ∷ exceeds (called (bytes "a  b") none)
    ∷ exceeds (called (bytes "a-") none)
    ∷ exceeds (called (bytes " a") none)
    ∷ exceeds (called (bytes "a_b") none)
    -- short names
    ∷ exceeds (called (bytes "a") (some (replicate 9 97)))
    ∷ exceeds (called (bytes "a") (some []))
    ∷ exceeds (called (bytes "a") (some (bytes "2a")))
    ∷ exceeds (called (bytes "a") (some (bytes "a b")))
    ∷ exceeds (called (bytes "a") (some (bytes "bit")))
    ∷ exceeds (called (bytes "a") (some (bytes "bits")))
    ∷ exceeds (called (bytes "a") (some (bytes "byte")))
    ∷ exceeds (called (bytes "a") (some (bytes "bytes")))
    ∷ exceeds (called (bytes "a") (some (bytes "variable")))
    ∷ exceeds (called (bytes "a") (some (bytes "present")))
    ∷ []

abbrev pub lines_of_a_text : List Case
lines_of_a_text = frames ++ names
