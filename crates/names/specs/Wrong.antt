-- Answers of wrong programs: of each, what is claimed is a promise, and it is false (proofs/RuledOut). A program that
-- keeps the promises is none of these. [01, The lines of a text] [01, The form for each place]
use Rattle.std.specs.Prelude.{◌≡◌, Bool, true, false, List, [], ◌∷◌, ◌++◌, ℕ, ◌+◌, ◌*◌, get_or, replicate, set}
use Prim.Native.String.{String}
use Rattle.base.specs.Bytes.{bytes}
use Rattle.base.specs.Lists.{same}
use Rattle.rules.specs.Limits.{fields_most, short_most}
use Rattle.rules.specs.Names.{is_label, is_reserved}
use Rattle.names.specs.Classes.{digit_class, operator_class, space_class, class_table, has_class, is_word_in}
use Rattle.names.specs.LentNames.{is_label_in, is_short_in}
use Rattle.names.specs.Repeats.{
  pad_to,
  name_number,
  names_meet,
  names_alike,
  first_repeat,
  remainders,
  start_of,
  at_most,
}

pub data Claim : Type 0 where
  -- the table of classes
  makes_table : List ℕ → Claim
  -- what a lent table says of a byte: a digit, an operator, a space, a letter or digit
  says_digit : List ℕ → ℕ → Bool → Claim
  says_operator : List ℕ → ℕ → Bool → Claim
  says_space : List ℕ → ℕ → Bool → Claim
  says_word : List ℕ → ℕ → Bool → Claim
  -- by a lent table, whether a word is a label, and a short name
  says_label_in : List ℕ → List ℕ → Bool → Claim
  says_short_in : List ℕ → List ℕ → Bool → Claim
  -- whether a word is a label, reserved, and the same as another
  says_label : List ℕ → Bool → Claim
  says_reserved : List ℕ → Bool → Claim
  says_same : List ℕ → List ℕ → Bool → Claim
  -- the byte of an index
  answers_byte : List ℕ → ℕ → ℕ → Claim
  -- the first n bytes of a word, a name as it is held, and the key of a held one
  pads : ℕ → List ℕ → List ℕ → Claim
  holds : List ℕ → List ℕ → Claim
  makes_key : List ℕ → ℕ → Claim
  -- whether the names of two fields meet: short name and label of one, then of the other
  says_meet : List ℕ → List ℕ → List ℕ → List ℕ → Bool → Claim
  -- where the names that may be like the one of an index begin; by short names and labels, the first of n fields
  -- whose names meet those of an earlier one
  begins : List ℕ → ℕ → ℕ → ℕ → Claim
  repeats_at : List (List ℕ) → List (List ℕ) → ℕ → ℕ → Claim

abbrev pub Claimed : Claim → Type 0
Claimed (makes_table r) = r ≡ class_table
Claimed (says_digit classes b r) = r ≡ has_class digit_class classes b
Claimed (says_operator classes b r) = r ≡ has_class operator_class classes b
Claimed (says_space classes b r) = r ≡ has_class space_class classes b
Claimed (says_word classes b r) = r ≡ is_word_in classes b
Claimed (says_label_in classes w r) = r ≡ is_label_in classes w
Claimed (says_short_in classes w r) = r ≡ is_short_in classes w
Claimed (says_label w r) = r ≡ is_label w
Claimed (says_reserved w r) = r ≡ is_reserved w
Claimed (says_same a b r) = r ≡ same a b
Claimed (answers_byte w i r) = r ≡ get_or w i 0
Claimed (pads n w r) = r ≡ pad_to n w
Claimed (holds w r) = r ≡ pad_to short_most w
Claimed (makes_key name r) = r ≡ name_number name
Claimed (says_meet a v b w r) = r ≡ names_meet a v b w
Claimed (begins seen key j r) = r ≡ start_of seen key j
Claimed (repeats_at shorts words n r) = r ≡ first_repeat (names_alike shorts words) (at_most fields_most n)

abbrev pub AllFalse : List Claim → Type 0
AllFalse [] = Unit {0}
AllFalse (c ∷ cs) = (Claimed c → ⊥) × AllFalse cs

-- ── short ways to write what is lent ──

-- a table in which no byte has a class
abbrev pub no_classes : List ℕ
no_classes = replicate 256 0

-- a word as it is held, and none
abbrev pub held_as : String → List ℕ
held_as w = pad_to short_most (bytes w)

abbrev pub no : List ℕ
no = pad_to short_most []

-- A, B, none, A, none
abbrev pub lent_names : List (List ℕ)
lent_names = held_as "A" ∷ held_as "B" ∷ no ∷ held_as "A" ∷ no ∷ []

-- 64 without a name, and A twice
abbrev pub late_names : List (List ℕ)
late_names = replicate 64 no ++ (held_as "A" ∷ held_as "A" ∷ [])

-- none of three, and then A
abbrev pub last_named : List (List ℕ)
last_named = no ∷ no ∷ no ∷ held_as "A" ∷ []

-- one remainder is marked
abbrev pub marked : ℕ → List ℕ
marked i = set (replicate remainders 0) i 1

-- ── the answers ──

-- of bytes
abbrev pub wrong_bytes : List Claim
wrong_bytes =
    -- every byte a letter; a space counted as an operator
    makes_table (replicate 256 1)
    ∷ makes_table (set class_table 32 3)
    -- a letter taken for a digit; the right table instead of the lent one
    ∷ says_digit class_table 65 true
    ∷ says_digit no_classes 48 true
    -- a parenthesis taken for an operator; `!` left out; `%`, `/` and `^` left out; `\` taken for one [02, R-7]
    ∷ says_operator class_table 40 true
    ∷ says_operator class_table 33 false
    ∷ says_operator class_table 37 false
    ∷ says_operator class_table 47 false
    ∷ says_operator class_table 94 false
    ∷ says_operator class_table 92 true
    ∷ makes_table (set class_table 94 0)
    -- a tab taken for a space; no space known
    ∷ says_space class_table 9 true
    ∷ says_space class_table 32 false
    -- operators in words; digits left out
    ∷ says_word class_table 43 true
    ∷ says_word class_table 48 false
    -- the first byte in every place; the last one behind the end
    ∷ answers_byte (bytes "AB") 1 65
    ∷ answers_byte (bytes "AB") 2 66
    ∷ []

-- of words
abbrev pub wrong_words : List Claim
wrong_words =
    -- a label of 41 bytes, and one of 40 refused; two spaces together; two hyphens refused; a hyphen at the end; none
    says_label (replicate 41 65) true
    ∷ says_label (replicate 40 65) false
    ∷ says_label (bytes "A  B") true
    ∷ says_label (bytes "A--B") false
    ∷ says_label (bytes "A-") true
    ∷ says_label [] true
    -- an underscore for the hyphen
    ∷ says_label (bytes "A_B") true
    -- the right table instead of the lent one; two spaces together; a space refused
    ∷ says_label_in no_classes (bytes "A") true
    ∷ says_label_in class_table (bytes "A  B") true
    ∷ says_label_in class_table (bytes "A B") false
    -- a short name of 9 bytes, and one of 8 refused; only reserved words
    ∷ says_short_in class_table (bytes "ABCDEFGHI") true
    ∷ says_short_in class_table (bytes "ABCDEFGH") false
    ∷ says_short_in class_table (bytes "Len") false
    -- the right table instead of the lent one; a hyphen; a digit in front; a reserved word
    ∷ says_short_in no_classes (bytes "A") true
    ∷ says_short_in class_table (bytes "A-B") true
    ∷ says_short_in class_table (bytes "1A") true
    ∷ says_short_in class_table (bytes "bits") true
    -- another reserved word; one left out
    ∷ says_reserved (bytes "Variable") true
    ∷ says_reserved (bytes "present") false
    -- a word and one that it begins; case ignored; nothing the same
    ∷ says_same (bytes "bit") (bytes "bits") true
    ∷ says_same (bytes "V") (bytes "v") true
    ∷ says_same (bytes "bits") (bytes "bits") false
    ∷ []

-- of held names
abbrev pub wrong_held : List Claim
wrong_held =
    -- a word cut a byte too soon; zeros in front; more bytes than were asked for
    pads 4 (bytes "ABCD") (bytes "ABC")
    ∷ pads 4 (bytes "AB") (0 ∷ 0 ∷ bytes "AB")
    ∷ pads 2 (bytes "ABC") (bytes "ABC")
    -- a held name cut at 7 bytes; the first byte in every place; spaces behind its end
    ∷ holds (bytes "ABCDEFGH") (pad_to short_most (bytes "ABCDEFG"))
    ∷ holds (bytes "AB") (replicate short_most 65)
    ∷ holds (bytes "AB") (bytes "AB      ")
    -- the last byte the most significant; the first byte alone; the last byte left out [02, R-3]
    ∷ makes_key (held_as "AB") (65 + 256 * 66)
    ∷ makes_key (held_as "AB") 65
    ∷ makes_key (held_as "AB") (name_number (held_as "A"))
    -- the label of one and the short name of the other left out, both ways; one word as both names of a field; two
    -- fields without names; labels that are compared elsewhere [02, R-2]
    ∷ says_meet (held_as "A") no no (held_as "A") false
    ∷ says_meet no (held_as "A") (held_as "A") no false
    ∷ says_meet (held_as "A") no (held_as "A") no false
    ∷ says_meet (held_as "A") (held_as "A") (held_as "B") (held_as "B") true
    ∷ says_meet no no no no true
    ∷ says_meet no (held_as "A") no (held_as "A") true
    -- a name and one that it begins; case ignored
    ∷ says_meet (held_as "A") no no (held_as "AB") true
    ∷ says_meet (held_as "A") no no (held_as "a") true
    ∷ []

-- of names that meet
abbrev pub wrong_repeats : List Claim
wrong_repeats =
    -- the search left out where the key was seen; another remainder of the key
    begins (marked 60) 60 7 7
    ∷ begins (marked 1) 60 7 0
    -- the earlier of two repeats; counted from 1; two without a name; beyond the names that were asked for
    ∷ repeats_at lent_names [] 5 0
    ∷ repeats_at lent_names [] 5 4
    ∷ repeats_at (no ∷ no ∷ []) [] 2 1
    ∷ repeats_at lent_names [] 3 1
    -- labels left out; a field whose two names are one word; the short name before its label [02, R-2]
    ∷ repeats_at (held_as "A" ∷ []) last_named 4 4
    ∷ repeats_at last_named (held_as "A" ∷ []) 4 4
    ∷ repeats_at last_named last_named 4 3
    ∷ repeats_at (held_as "A" ∷ []) last_named 4 0
    -- the pair with the earliest first field; short names before labels
    ∷ repeats_at (held_as "A" ∷ held_as "B" ∷ held_as "B" ∷ held_as "A" ∷ []) [] 4 3
    ∷ repeats_at (held_as "A" ∷ no ∷ held_as "B" ∷ held_as "A" ∷ []) (no ∷ held_as "B" ∷ []) 4 3
    -- names whose keys have one remainder taken for the same; labels behind the 64th left out
    ∷ repeats_at (held_as "Ap" ∷ held_as "Ba" ∷ []) [] 2 1
    ∷ repeats_at (no ∷ held_as "Ba" ∷ []) (held_as "Ap" ∷ []) 2 1
    ∷ repeats_at (held_as "A" ∷ []) (replicate 127 no ++ (held_as "A" ∷ [])) 128 128
    -- names behind the 64th left out; more asked for than there may be [02, R-10]
    ∷ repeats_at late_names [] 66 64
    ∷ repeats_at late_names [] 66 66
    ∷ repeats_at [] [] 65 64
    ∷ repeats_at [] [] 129 129
    ∷ []

abbrev pub wrong : List Claim
wrong = wrong_bytes ++ (wrong_words ++ (wrong_held ++ wrong_repeats))
