-- The test that names are unique. This mirrors the code of src/unique.rt: no public promise rests on this file.
use Rattle.std.specs.Prelude.{Bool, cond, ◌&&◌, List, [], ◌∷◌, map, ◌≡◌, ℕ, zero, suc, ◌+◌, ◌-◌, ◌*◌, ◌/◌, ◌<◌, ◌≤◌}
use Rattle.std.specs.Prelude.{eqb, ltb, length, take, get_or}
use Rattle.base.specs.Lists.{same}
use Rattle.laws.specs.Places.{two_at}
use Rattle.names.specs.Repeats.{pad_to, held_word, names_alike, first_repeat}
use Rattle.rules.specs.Limits.{short_most}
use Rattle.writing.specs.declared.spans.Span.{Span}
use Rattle.packets.specs.Parts.{table_most, parts_at}
use Rattle.packets.specs.FieldTest.{bytes_in, Inside}

-- the places of n records
unfoldable pub places_from : List ℕ → ℕ → ℕ → List ℕ
places_from s zero at = []
places_from s (suc n) at = at ∷ places_from s n (parts_at s at).next

-- a record there lies in the table
pub record FieldPlace (s : List ℕ) (at : ℕ) : Type 0 where
  pub place : at ≤ table_most
  pub inside : Inside s (parts_at s at)

abbrev pub FieldPlaces : List ℕ → ℕ → List ℕ → Type 0
FieldPlaces s n places = (i : ℕ) → i < n → FieldPlace s (get_or places i 0)

unfoldable pub label_at : List ℕ → ℕ → List ℕ
label_at s at = bytes_in s (parts_at s at).label

-- a number that like labels share, by which labels that differ are mostly told apart
unfoldable pub sample_key : List ℕ → ℕ
sample_key w =
    cond (ltb (length w) 2) 0 ((256 * length w + get_or w (length w / 2) 0) * 65536 + two_at w (length w - 2))

unfoldable pub label_key : List ℕ → ℕ → ℕ
label_key s at = sample_key (label_at s at)

-- the keys of the labels at the first n places
abbrev pub LabelKeys : List ℕ → List ℕ → ℕ → List ℕ → Type 0
LabelKeys s places n keys = (i : ℕ) → i < n → get_or keys i 0 ≡ label_key s (get_or places i 0)

-- a part as it is held for a name
unfoldable pub held_in : List ℕ → Span → List ℕ
held_in s p = pad_to short_most (bytes_in s p)

abbrev pub short_at : List ℕ → ℕ → List ℕ
short_at s at = held_in s (parts_at s at).short

-- a label as it is held for reading
abbrev pub word_at : List ℕ → ℕ → List ℕ
word_at s at = held_word (label_at s at)

-- the short names at the first n places, as they are held, and the labels
abbrev pub HeldNames : List ℕ → List ℕ → ℕ → List (List ℕ) → Type 0
HeldNames s places n shorts = (i : ℕ) → i < n → get_or shorts i [] ≡ short_at s (get_or places i 0)

abbrev pub HeldWords : List ℕ → List ℕ → ℕ → List (List ℕ) → Type 0
HeldWords s places n words = (i : ℕ) → i < n → get_or words i [] ≡ word_at s (get_or places i 0)

abbrev pub labels_alike : List ℕ → List ℕ → ℕ → ℕ → Bool
labels_alike s places i j = same (label_at s (get_or places i 0)) (label_at s (get_or places j 0))

abbrev pub shorts_at : List ℕ → List ℕ → List (List ℕ)
shorts_at s places = map (short_at s) places

abbrev pub words_at : List ℕ → List ℕ → List (List ℕ)
words_at s places = map (word_at s) places

unfoldable pub names_test : List ℕ → ℕ → ℕ → Bool
names_test s n at =
    eqb (first_repeat (labels_alike s (places_from s n at)) n) n
    && eqb (first_repeat (names_alike (shorts_at s (places_from s n at)) (words_at s (places_from s n at))) n) n

-- the same by the places and the names that the code holds
unfoldable pub unique_in : List ℕ → List ℕ → List (List ℕ) → List (List ℕ) → ℕ → Bool
unique_in s places shorts words n =
    eqb (first_repeat (labels_alike s places) n) n && eqb (first_repeat (names_alike shorts words) n) n

-- what is held of the n records from a place on
pub record Gathered (s : List ℕ) (n from : ℕ) (places keys : List ℕ) (shorts words : List (List ℕ)) : Type 0 where
  pub placed : take n places ≡ places_from s n from
  pub keyed : LabelKeys s (places_from s n from) n keys
  pub held : HeldNames s (places_from s n from) n shorts
  pub worded : HeldWords s (places_from s n from) n words
