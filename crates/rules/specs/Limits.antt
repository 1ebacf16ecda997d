-- The limits of documents 01 and 02, each in one place.
use Rattle.std.specs.Prelude.{Bool, List, [], ◌∷◌, ℕ, leb}

-- [01, Refusal numbers] bytes of a text
abbrev pub text_most : ℕ
text_most = 16384

-- [02, R-9] bytes of a line, its LF not counted
abbrev pub line_most : ℕ
line_most = 1024

-- [02, R-1] lines of a bit row
abbrev pub row_lines_most : ℕ
row_lines_most = 4

-- fields, bytes of a packet [01, Fields] [01, Refusal numbers] [02, R-10]
abbrev pub fields_most : ℕ
fields_most = 128

abbrev pub packet_most : ℕ
packet_most = 8191

-- [01, The lines of a text] bytes of a label and of a short name
abbrev pub label_most : ℕ
label_most = 40

abbrev pub short_most : ℕ
short_most = 8

-- [01, Expressions] a number, open parentheses, a tree's depth, the bytes of its stored form
abbrev pub number_most : ℕ
number_most = 4_294_967_295

-- 01's 'values': the numbers of the range
abbrev pub is_value : ℕ → Bool
is_value n = leb n number_most

abbrev pub open_most : ℕ
open_most = 12

abbrev pub depth_most : ℕ
depth_most = 12

abbrev pub stored_most : ℕ
stored_most = 120

-- [01, Fields] the bits of a fixed field
abbrev pub fixed_most : ℕ
fixed_most = 32

-- all of them, in this order
abbrev pub limits : List ℕ
limits =
    text_most
    ∷ fields_most
    ∷ packet_most
    ∷ label_most
    ∷ short_most
    ∷ number_most
    ∷ open_most
    ∷ depth_most
    ∷ stored_most
    ∷ fixed_most
    ∷ row_lines_most
    ∷ line_most
    ∷ []
