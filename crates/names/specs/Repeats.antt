-- The first of some things that is like an earlier one, and names held as arrays of bytes, zeros for none.
-- [01, The form for each place]
use Rattle.std.specs.Prelude.{Bool, cond, ◌&&◌, ◌||◌, not, List, [], ◌∷◌, ℕ, zero, suc, ◌+◌, ◌*◌, ◌%◌, ltb, eqb, get_or}
use Rattle.base.specs.Lists.{same}
use Rattle.rules.specs.Limits.{short_most}
use Rattle.rules.specs.Names.{is_short}

-- the first of the n indexes from i that passes the test, else i + n
unfoldable pub first_from : (ℕ → Bool) → ℕ → ℕ → ℕ
first_from f i zero = i
first_from f i (suc n) = cond (f i) i (first_from f (suc i) n)

-- what stands at j is like something earlier; alike takes the earlier index first
abbrev pub repeats : (ℕ → ℕ → Bool) → ℕ → Bool
repeats alike j = ltb (first_from (λ i. alike i j) 0 j) j

-- the first index below n whose thing repeats an earlier one, else n
abbrev pub first_repeat : (ℕ → ℕ → Bool) → ℕ → ℕ
first_repeat alike n = first_from (repeats alike) 0 n

-- how many remainders of keys are told apart
abbrev pub remainders : ℕ
remainders = 241

-- where a search for what is like j begins, that has a key: at j where no key of its remainder was seen
unfoldable pub start_of : List ℕ → ℕ → ℕ → ℕ
start_of seen key j = cond (eqb (get_or seen (key % remainders) 0) 0) j 0

-- the first n bytes of a name, with zeros behind its end
unfoldable pub pad_to : ℕ → List ℕ → List ℕ
pad_to zero w = []
pad_to (suc n) [] = 0 ∷ pad_to n []
pad_to (suc n) (x ∷ w) = x ∷ pad_to n w

-- the number that bytes make behind others of the number k, the first of them the most significant
unfoldable pub number_from : ℕ → List ℕ → ℕ
number_from k [] = k
number_from k (b ∷ w) = number_from (k * 256 + b) w

-- the number that the bytes of a held name make
abbrev pub name_number : List ℕ → ℕ
name_number name = number_from 0 name

-- both are the same name; a held name is none where its first byte is 0
unfoldable pub same_name : List ℕ → List ℕ → Bool
same_name a b = not (eqb (get_or a 0 0) 0) && same a b

-- a label as it is held for reading: none where it has not the form of a short name [02, R-2]
abbrev pub held_word : List ℕ → List ℕ
held_word w = pad_to short_most (cond (is_short w) w [])

-- of two fields with the held short names s and t and the held labels v and w: the short name of one is a name of the
-- other
unfoldable pub names_meet : List ℕ → List ℕ → List ℕ → List ℕ → Bool
names_meet s v t w = same_name s t || (same_name s w || same_name t v)

-- the names of two indexes meet
abbrev pub names_alike : List (List ℕ) → List (List ℕ) → ℕ → ℕ → Bool
names_alike shorts words i j = names_meet (get_or shorts i []) (get_or words i []) (get_or shorts j [])
    (get_or words j [])

-- n, or most where n is more
abbrev pub at_most : ℕ → ℕ → ℕ
at_most most n = cond (ltb most n) most n
