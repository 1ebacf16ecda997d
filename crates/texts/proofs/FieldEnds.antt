-- What stands behind the width of a field line, against the reader over what is left of it.
use mathlib.Core.Path.{◌≡◌, refl}
use mathlib.Core.Bool.{true, false}
use mathlib.Core.List.{List}
use mathlib.Core.Option.{Option, none, some}
use Prim.Native.Nat.{ℕ}
use Rattle.base.specs.Bytes.{bytes}
use Rattle.rules.specs.Trees.{Tree}
use Rattle.text_laws.specs.LineReader.{miss, hit, literal, read_constraint, read_condition, is_remark}
use Rattle.text_laws.specs.LineReader.{form_of}
use Rattle.texts.specs.PartPlaces.{Ending, read_ends}

-- ── behind the width ──

pub ends_first : (form : Ending) (z : List ℕ) → read_constraint z ≡ miss → form_of (read_ends form z) ≡ none
unfolding read_ends
ends_first form z e = rw e refl

pub ends_second : (form : Ending) (z z₁ : List ℕ) (c : Option (Tree (List ℕ))) → read_constraint z ≡ hit c z₁
    → read_condition z₁ ≡ miss → form_of (read_ends form z) ≡ none
unfolding read_ends
ends_second form z z₁ c e f = rw (e, f) refl

pub ends_open : (form : Ending) (z z₁ z₂ : List ℕ) (c d : Option (Tree (List ℕ))) → read_constraint z ≡ hit c z₁
    → read_condition z₁ ≡ hit d z₂ → literal (bytes ".") z₂ ≡ miss → form_of (read_ends form z) ≡ none
unfolding read_ends
ends_open form z z₁ z₂ c d e f g = rw (e, f, g) refl

pub ends_bad : (form : Ending) (z z₁ z₂ z₃ : List ℕ) (c d : Option (Tree (List ℕ))) → read_constraint z ≡ hit c z₁
    → read_condition z₁ ≡ hit d z₂ → literal (bytes ".") z₂ ≡ hit tt z₃ → is_remark z₃ ≡ false
    → form_of (read_ends form z) ≡ none
unfolding read_ends
ends_bad form z z₁ z₂ z₃ c d e f g h = rw (e, f, g, h) refl

pub ends_good : (form : Ending) (z z₁ z₂ z₃ : List ℕ) (c d : Option (Tree (List ℕ))) → read_constraint z ≡ hit c z₁
    → read_condition z₁ ≡ hit d z₂ → literal (bytes ".") z₂ ≡ hit tt z₃ → is_remark z₃ ≡ true
    → form_of (read_ends form z) ≡ some (form c d)
unfolding read_ends
ends_good form z z₁ z₂ z₃ c d e f g h = rw (e, f, g, h) refl
