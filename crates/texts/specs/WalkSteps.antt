-- The lines of a text, one by one: mirrors the code, no public promise rests on it.
use Rattle.std.specs.Prelude.{◌≡◌, true, ℕ, ◌+◌, ◌-◌, ◌≤◌, length, drop}
use mathlib.Core.List.{List, [], foldl}
use Rattle.base.specs.Lists.{all}
use Rattle.rules.specs.Limits.{text_most}
use Rattle.rules.specs.Names.{is_printable}
use Rattle.text_laws.specs.Fold as fold
use Rattle.text_laws.specs.Steady.{Steady}
use Rattle.texts.specs.RowPlaces.{RowKept}
use Rattle.texts.specs.States.{Room, HoldsIn}
use Rattle.texts.specs.declared.states.Reading.{Reading}
use Rattle.texts.specs.declared.walks.Walked.{Walked}

-- what was found in whole lines is kept
pub record KeptAs (f : fold.Found) (r : Reading) (held row counts : List ℕ) : Type 0 where
  pub steady : Steady f
  pub rows : RowKept f.row r.width r.row row
  pub holds : HoldsIn f r held counts

-- with n bytes more, the lines are not too many
abbrev pub LinesFit : ℕ → Reading → Type 0
LinesFit n r = Room r × (r.lines + n ≤ text_most)

-- from a reading with n bytes more to one with m bytes more: at most one line more for each byte
abbrev pub LinesLeft : ℕ → Reading → ℕ → Reading → Type 0
LinesLeft n r m q = Room q × (q.lines + m ≤ r.lines + n)

-- the bytes from a place on make of k what those from a later place on make of what is kept there, behind a line feed
pub record Walking (k : fold.Kept) (text : List ℕ) (from at : ℕ) (r : Reading) (held row counts : List ℕ) : Type 0
  where
    pub kept : fold.Kept
    pub is : KeptAs kept.found r held row counts
    pub begun : kept.line ≡ []
    pub size : kept.size + (length text - at) ≤ text_most
    pub alike : fold.Alike (foldl fold.fed k (drop from text)) (foldl fold.fed kept (drop at text))

-- the same where no line feed is left
pub record WalkedTo (k : fold.Kept) (text : List ℕ) (from : ℕ) (w : Walked) (held row counts : List ℕ) : Type 0 where
  pub walking : Walking k text from w.at w.reading held row counts
  pub plain : all is_printable (drop w.at text) ≡ true

abbrev pub WalkStep : List ℕ → ℕ → Reading → Walked → List ℕ → List ℕ → List ℕ → List ℕ → List ℕ → List ℕ → Type 0
WalkStep text from r w held held' row row' counts counts' =
    (k : fold.Kept) → k.line ≡ [] → k.size + (length text - from) ≤ text_most → KeptAs k.found r held row counts
    → WalkedTo k text from w held' row' counts'
