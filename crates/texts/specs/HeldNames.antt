-- The names of fields as the code holds them, by value: mirrors the code, no public promise rests on it.
use Rattle.std.specs.Prelude.{◌≡◌, Bool, true, cond, ◌&&◌, ◌||◌, not, List, [], ◌∷◌, ℕ, zero, suc, ◌+◌, ◌*◌, ◌-◌, ◌≤◌}
use Rattle.std.specs.Prelude.{◌<◌, eqb, ltb, length, take, drop, get_or, set}
use Rattle.base.specs.Lists.{same}
use Rattle.rules.specs.Limits.{fields_most, label_most, short_most}
use Rattle.rules.specs.Fields.{Form, is_fixed}
use Rattle.rules.specs.Stored.{stored_name}
use Rattle.names.specs.Repeats.{first_from, pad_to, held_word, names_meet}
use Rattle.texts.specs.PartPlaces.{span_in}
use Rattle.texts.specs.NameStarts.{StartsBy, Lowered}
use Rattle.writing.specs.declared.spans.Span.{Span}

-- ── names that are held ──

-- short names, labels that may be read, 1 where a field is fixed, and where the walk for a name begins
pub record Names : Type 0 where
  pub shorts : List (List ℕ)
  pub words : List (List ℕ)
  pub marks : List ℕ
  pub starts : List ℕ

-- n entries of so many bytes, one behind the other
unfoldable pub entries : ℕ → ℕ → List ℕ → List (List ℕ)
entries size zero b = []
entries size (suc n) b = take size b ∷ entries size n (drop size b)

-- where they stand in the bytes that hold them
abbrev pub shorts_at : ℕ
shorts_at = 1024

abbrev pub words_at : ℕ
words_at = shorts_at + short_most * fields_most

abbrev pub marks_at : ℕ
marks_at = words_at + short_most * fields_most

abbrev pub names_room : ℕ
names_room = marks_at + fields_most

abbrev pub names_in : List ℕ → Names
names_in b = record {
  shorts = entries short_most fields_most (drop shorts_at b);
  words = entries short_most fields_most (drop words_at b);
  marks = drop marks_at b;
  starts = b;
}

-- labels, whole
abbrev pub labels_room : ℕ
labels_room = label_most * fields_most

abbrev pub labels_in : List ℕ → List (List ℕ)
labels_in b = entries label_most fields_most b

-- each list has at least n entries
abbrev pub NamesRoom : ℕ → Names → Type 0
NamesRoom n names = (n ≤ length names.shorts) × (n ≤ length names.words) × (n ≤ length names.marks)

-- a held name has a byte in the last of len places, and none behind it
unfoldable pub has_length : List ℕ → ℕ → Bool
has_length name len = not (eqb (get_or name (len - 1) 0) 0) && (eqb len short_most || eqb (get_or name len 0) 0)

-- a held name that is not none has so many bytes [02, R-3]
pub record HeldLength (name : List ℕ) (len : ℕ) : Type 0 where
  pub some : 0 < len
  pub most : len ≤ short_most
  pub first : get_or name 0 0 ≡ 0 → ⊥
  pub ends : has_length name len ≡ true

-- those of the index i are among the starts
abbrev pub Started : Names → ℕ → Type 0
Started names i =
    StartsBy names.starts (get_or names.shorts i []) i × StartsBy names.starts (get_or names.words i []) i

-- those of x are held at the index i
pub record HeldAs (names : Names) (i : ℕ) (x : Form) : Type 0 where
  pub short : get_or names.shorts i [] ≡ pad_to short_most (stored_name x.short)
  pub word : get_or names.words i [] ≡ held_word x.label
  pub mark : get_or names.marks i 0 ≡ cond (is_fixed x) 1 0
  pub starts : Started names i

-- the first n are as they were
pub record Kept (before : Names) (n : ℕ) (after : Names) : Type 0 where
  pub room : (m : ℕ) → NamesRoom m before → NamesRoom m after
  pub shorts : (i : ℕ) → i < n → get_or after.shorts i [] ≡ get_or before.shorts i []
  pub words : (i : ℕ) → i < n → get_or after.words i [] ≡ get_or before.words i []
  pub marks : (i : ℕ) → i < n → get_or after.marks i 0 ≡ get_or before.marks i 0
  pub starts : Lowered before.starts n after.starts

-- those of the line s are put at the index n: its label, its short name, and the mark, whether it is fixed
pub record OwnPut (before : Names) (n : ℕ) (s : List ℕ) (label : ℕ) (short : Span) (fixed : Bool) (after : Names)
    : Type 0 where
  pub shorts : after.shorts ≡ set before.shorts n (pad_to short_most (span_in s short))
  pub words : after.words ≡ set before.words n (held_word (take label s))
  pub marks : after.marks ≡ set before.marks n (cond fixed 1 0)
  pub own : Started after n
  pub starts : Lowered before.starts n after.starts

-- a label is put at the index n
pub record LabelPut (before : List ℕ) (n : ℕ) (label after : List ℕ) : Type 0 where
  pub long : length after ≡ length before
  pub labels : labels_in after ≡ set (labels_in before) n (pad_to label_most label)

-- ── names that clash ──

-- the fields of indexes n and i share a name
unfoldable pub clash_held : List (List ℕ) → List (List ℕ) → List (List ℕ) → ℕ → ℕ → Bool
clash_held labels shorts words n i =
    same (get_or labels n []) (get_or labels i [])
    || names_meet (get_or shorts n []) (get_or words n []) (get_or shorts i []) (get_or words i [])

-- the field of index n and one before it do
unfoldable pub any_clash : List (List ℕ) → List (List ℕ) → List (List ℕ) → ℕ → Bool
any_clash labels shorts words n = ltb (first_from (clash_held labels shorts words n) 0 n) n
