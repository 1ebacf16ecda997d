-- What the code that reads a frame answers, at places of a text: mirrors the code, no public promise rests on it.
use Rattle.std.specs.Prelude.{Bool, true, false, cond, ◌&&◌, List, [], ◌∷◌, map, ℕ, suc, eqb, None, Some}
use Rattle.std.specs.Prelude as std
use Rattle.std.proofs.Math.Option.{Option, none, some}
use Rattle.base.specs.Lists.{is_empty}
use Rattle.rules.specs.Rows.{bit_row}
use Rattle.text_laws.specs.FrameReader.{pieces, rest, bits_of, keep_row}

-- the number of bytes in front of the first e
unfoldable pub up_to : ℕ → List ℕ → ℕ
up_to e [] = 0
up_to e (b ∷ t) = cond (eqb b e) 0 (suc (up_to e t))

-- what the code answers, in the words of the rules
abbrev pub answered : {A : Type 0} → std.Option A → Option A
answered None = none
answered (Some a) = some a

abbrev pub is_some : {A : Type 0} → Option A → Bool
is_some none = false
is_some (some a) = true

-- cells of w bits stand behind the first bar of a row
abbrev pub is_bits : ℕ → List ℕ → Bool
is_bits w l =
    is_empty (rest 124 l) && is_some (keep_row w (bit_row (map bits_of (pieces 124 l)) (pieces 124 l ∷ [])))
