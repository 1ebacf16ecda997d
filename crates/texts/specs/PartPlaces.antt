-- Widths and what stands behind them, at places of a text: mirrors the code, no public promise rests on it.
use Rattle.std.specs.Prelude.{◌≡◌, Bool, cond, ◌||◌, List, [], ◌∷◌, ℕ, ◌+◌, ◌≤◌, eqb, take, drop}
use Rattle.std.proofs.Math.Option.{Option, none, some}
use Rattle.base.specs.Bytes.{bytes}
use Rattle.rules.specs.Trees.{Tree}
use Rattle.rules.specs.Fields.{Form}
use Rattle.text_laws.specs.LineReader.{Got, hit, bind, literal, read_unit}
use Rattle.text_laws.specs.LineReader.{read_width, read_constraint, read_condition}
use Rattle.writing.specs.declared.spans.Span.{Span}

-- ── spans ──

abbrev pub span_of : ℕ → ℕ → Span
span_of at len = record { at = at; len = len }

-- what stands in a span of s
abbrev pub span_in : List ℕ → Span → List ℕ
span_in s p = take p.len (drop p.at s)

abbrev pub ShortIs : List ℕ → Option (List ℕ) → Span → Type 0
ShortIs s none p = p.len ≡ 0
ShortIs s (some w) p = span_in s p ≡ w

-- ── widths ──

-- past each `(` in front
unfoldable pub past_open : List ℕ → List ℕ
past_open [] = []
past_open (c ∷ s) = cond (eqb c 40) (past_open s) (c ∷ s)

-- a space and a unit
unfoldable pub spaced_unit : List ℕ → Got ℕ
spaced_unit s = bind (literal (bytes " ") s) (λ _ p. read_unit p)

abbrev pub is_unit : ℕ → Bool
is_unit u = eqb u 1 || eqb u 8

-- ── behind the width ──

abbrev pub Ending : Type 0
Ending = Option (Tree (List ℕ)) → Option (Tree (List ℕ)) → Form

-- constraint, condition and full stop
unfoldable pub read_ends : Ending → List ℕ → Got Form
read_ends form z =
    bind (read_constraint z) (λ c z₁. bind (read_condition z₁) (λ d z₂. bind (literal (bytes ".") z₂) (λ _ z₃.
    hit (form c d) z₃)))

-- ── the line ──

-- behind the names
unfoldable pub read_behind : List ℕ → Option (List ℕ) → List ℕ → Got Form
read_behind label short z =
    bind (read_width z) (λ width z₁. read_ends (λ constraint condition. record {
      label = label;
      short = short;
      width = width;
      constraint = constraint;
      condition = condition;
    }) z₁)

-- a label of k bytes and a short name lie within n bytes
abbrev pub NamesFit : ℕ → ℕ → Span → Type 0
NamesFit n k p = (k ≤ n) × (p.at + p.len ≤ n)
