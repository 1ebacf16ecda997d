-- Where the walk over the held names begins: mirrors the code, no public promise rests on it. [02, R-3]
use Rattle.std.specs.Prelude.{◌≡◌, List, ℕ, ◌%◌, ◌≤◌, length, drop, get_or}
use Rattle.names.specs.Repeats.{name_number, at_most}

-- names fall into so many buckets, by the numbers that their bytes make
abbrev pub buckets : ℕ
buckets = 1013

-- the start of a bucket into which no name was put
abbrev pub no_start : ℕ
no_start = 255

abbrev pub bucket_of : List ℕ → ℕ
bucket_of name = name_number name % buckets

-- the start of a name's bucket: an index before which no field bears a name of it
abbrev pub start_in : List ℕ → List ℕ → ℕ
start_in starts name = get_or starts (bucket_of name) 0

-- a held name, unless it is none, starts at the index i or before
abbrev pub StartsBy : List ℕ → List ℕ → ℕ → Type 0
StartsBy starts name i = (get_or name 0 0 ≡ 0 → ⊥) → start_in starts name ≤ i

-- no start is later than it was, and one before the index i is as it was
abbrev pub Lowered : List ℕ → ℕ → List ℕ → Type 0
Lowered before i after = (v : List ℕ)
    → (start_in after v ≤ start_in before v) × (at_most i (start_in after v) ≡ at_most i (start_in before v))

-- the name of index i is put in among the starts
pub record StartPut (before : List ℕ) (name : List ℕ) (i : ℕ) (after : List ℕ) : Type 0 where
  pub long : length after ≡ length before
  pub own : StartsBy after name i
  pub lowered : Lowered before i after
  pub beyond : drop buckets after ≡ drop buckets before
