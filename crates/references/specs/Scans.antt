-- Stored expressions, scanned from one code to the next: what they read, and whether they have operators of 02 or read
-- a run of fields. [01, The stored table] [02, R-4] [02, R-5]
use Rattle.std.specs.Prelude.{Bool, cond, List, [], ◌∷◌, ℕ, zero, suc, eqb, get_or}
use Rattle.base.specs.Lists.{any, between, joined}
use Rattle.rules.specs.Operators.{number_code, field_code}
use Rattle.references.specs.declared.scans.Wanted.{Wanted}
use Rattle.references.specs.declared.scans.Wanted.TheVariants.{Added, Run}

-- the bytes that come behind a code before the next one: four of a number, one of a field's index
unfoldable pub behind : ℕ → ℕ
behind c = cond (eqb c number_code) 4 (cond (eqb c field_code) 1 0)

-- the codes of stored expressions, each with all bytes from it on; n bytes are passed over first
unfoldable pub codes_from : ℕ → List ℕ → List (List ℕ)
codes_from n [] = []
codes_from zero (c ∷ s) = (c ∷ s) ∷ codes_from (behind c) s
codes_from (suc n) (c ∷ s) = codes_from n s

-- the index of a field's code
unfoldable pub index_in : List ℕ → List ℕ
index_in [] = []
index_in (c ∷ []) = []
index_in (c ∷ i ∷ s) = cond (eqb c field_code) (i ∷ []) []

-- the indexes that are read
unfoldable pub references : List ℕ → List ℕ
references s = joined index_in (codes_from 0 s)

-- a code of `/`, `%` or `^` [02, R-7]
abbrev pub is_added_code : ℕ → Bool
is_added_code c = between 0x13 c 0x15

-- what is looked for stands at a code: one of them, or a field of a run that is read
abbrev pub is_wanted : Wanted → List ℕ → Bool
is_wanted Added l = is_added_code (get_or l 0 0)
is_wanted (Run first last) l = any (λ i. between first i last) (index_in l)

-- it stands at some code
unfoldable pub has_code : Wanted → List ℕ → Bool
has_code wanted s = any (is_wanted wanted) (codes_from 0 s)
