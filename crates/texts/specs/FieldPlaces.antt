-- What the reader of field lines answers, at places of a text: mirrors the code, no public promise rests on it.
use Rattle.std.specs.Prelude.{Option as CodeOption, None, Some}
use Rattle.std.specs.Prelude.{◌≡◌, List, ℕ, ◌+◌, ◌-◌, ◌≤◌, length, take, drop}
use Rattle.std.proofs.Math.Option.{Option, some}
use Rattle.rules.specs.Trees.{Tree}
use Rattle.text_laws.specs.LineReader.{Got, miss, hit, bind, read_tree}
use Rattle.texts.specs.PartPlaces.{ShortIs}
use Rattle.writing.specs.declared.spans.Span.{Span}

-- ── units ──

-- the code's answer r is that of the reader in the text s
unfoldable pub SameBits : List ℕ → Got ℕ → CodeOption (ℕ × ℕ) → Type 0
SameBits s miss r = r ≡ None
SameBits s (hit u q) r = (n : ℕ) × (r ≡ Some (u, n)) × (drop n s ≡ q)

-- an answered place stands at `at` or behind it, within the text
unfoldable pub WithinBits : List ℕ → ℕ → CodeOption (ℕ × ℕ) → Type 0
WithinBits s at None = Unit {0}
WithinBits s at (Some (u, n)) = (at ≤ n) × (n ≤ length s)

-- ── labels ──

-- the same, and the label is what stands between the two places
unfoldable pub SameLabel : List ℕ → ℕ → Got (List ℕ) → CodeOption ℕ → Type 0
SameLabel s at miss r = r ≡ None
SameLabel s at (hit w q) r = (n : ℕ) × (r ≡ Some n) × (take (n - at) (drop at s) ≡ w) × (drop n s ≡ q)

unfoldable pub WithinLabel : List ℕ → ℕ → CodeOption ℕ → Type 0
WithinLabel s at None = Unit {0}
WithinLabel s at (Some n) = (at ≤ n) × (n ≤ length s)

-- ── short names ──

-- the name, if there is one, stands in the span p
unfoldable pub SameShort : List ℕ → Got (Option (List ℕ)) → CodeOption (Span × ℕ) → Type 0
SameShort s miss r = r ≡ None
SameShort s (hit w q) r = (p : Span) × (n : ℕ) × (r ≡ Some (p, n)) × ShortIs s w p × (drop n s ≡ q)

unfoldable pub WithinShort : List ℕ → ℕ → CodeOption (Span × ℕ) → Type 0
WithinShort s at None = Unit {0}
WithinShort s at (Some (p, n)) = (at ≤ p.at) × (p.at + p.len ≤ n) × (n ≤ length s)

-- ── constraint and condition ──

-- an expression behind its phrase
unfoldable pub tree_clause : List ℕ → Got (Option (Tree (List ℕ)))
tree_clause s = bind (read_tree s) (λ t q. hit (some t) q)
