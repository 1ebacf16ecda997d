-- The parts of a field line as the code holds them, each expression in its stored form: mirrors the code, no public
-- promise rests on it.
use Rattle.std.specs.Prelude.{Option as CodeOption, None, Some, IfSome}
use Rattle.std.specs.Prelude.{◌≡◌, List, ℕ, ◌+◌, ◌≤◌, length, take, drop}
use Rattle.std.proofs.Math.Option.{Option, none, some}
use Rattle.base.specs.Lists.{between}
use Rattle.rules.specs.Limits.{fixed_most}
use Rattle.rules.specs.Trees.{Tree}
use Rattle.rules.specs.Fields.{Width, fixed, measured, rest, Form}
use Rattle.rules.specs.Within.{is_width}
use Rattle.text_laws.specs.LineReader.{Got, miss, hit, keep, read_tree, width_of, form_of}
use Rattle.texts.specs.HeldNames.{Names, NamesRoom, HeldAs}
use Rattle.texts.specs.PartPlaces.{ShortIs}
use Rattle.texts.specs.PartPlaces.{Ending, read_ends, read_behind}
use Rattle.texts.specs.StoredTrees.{held, StoredIs}
use Rattle.writing.specs.declared.spans.Span.{Span}
use Rattle.texts.specs.declared.stored_trees.StoredTree.{StoredTree}
use Rattle.texts.specs.declared.clause_trees.Ends.{Ends}
use Rattle.texts.specs.declared.kinds.Width.{Width as CodeWidth}
use Rattle.texts.specs.declared.kinds.Width.TheVariants as kind
use Rattle.texts.specs.declared.width_trees.Measure.{Measure}
use Rattle.texts.specs.declared.line_parts.Parts.{Parts}
use Rattle.texts.specs.declared.line_parts.Trees.{Trees}

-- a width and what stands behind it, with the names of the line
abbrev pub whole_parts : ℕ → Span → Measure → Ends → Parts
whole_parts label short w e = record {
  label = label;
  short = short;
  width = w.width;
  constraint = e.constraint;
  condition = e.condition;
}

-- ── constraint and condition ──

-- none, or the expression whose stored form stands in the bytes
abbrev pub MaybeHeld : Names → ℕ → Option (Tree (List ℕ)) → CodeOption StoredTree → List ℕ → Type 0
MaybeHeld names n none r b = r ≡ None
MaybeHeld names n (some v) r b = (t : StoredTree) × (r ≡ Some t) × StoredIs names n v (held t b)

-- the expression that the reader answered, if there is one
pub record ClauseAs (names : Names) (n : ℕ) (s : List ℕ) (g : Got (Option (Tree (List ℕ))))
    (r : CodeOption StoredTree) (next : ℕ) (b : List ℕ) : Type 0 where
  pub tree : Option (Tree (List ℕ))
  pub is_read : g ≡ hit tree (drop next s)
  pub stored : MaybeHeld names n tree r b

-- the code's answer is that of the reader in the text s
abbrev pub ClauseFor : Names → ℕ → List ℕ → Got (Option (Tree (List ℕ))) → List ℕ
    → CodeOption (CodeOption StoredTree × ℕ) → Type 0
ClauseFor names n s g bytes None = g ≡ miss
ClauseFor names n s g bytes (Some r) = ClauseAs names n s g r.0 r.1 bytes

-- the place behind it stands at `at` or behind it, within the text
abbrev pub ClauseWithin : List ℕ → ℕ → CodeOption (CodeOption StoredTree × ℕ) → Type 0
ClauseWithin s at r = IfSome r (λ t. (at ≤ t.1) × (t.1 ≤ length s))

pub record EndsAs (names : Names) (n : ℕ) (s : List ℕ) (at : ℕ) (b c : List ℕ) (r : Ends) : Type 0 where
  pub constraint : Option (Tree (List ℕ))
  pub condition : Option (Tree (List ℕ))
  pub is_read : (form : Ending) → form_of (read_ends form (drop at s)) ≡ some (form constraint condition)
  pub first : MaybeHeld names (n + 1) constraint r.constraint b
  pub second : MaybeHeld names n condition r.condition c

-- both, up to the end of the line
abbrev pub EndsFor : Names → ℕ → List ℕ → ℕ → List ℕ → List ℕ → CodeOption Ends → Type 0
EndsFor names n s at b c None = (form : Ending) → form_of (read_ends form (drop at s)) ≡ none
EndsFor names n s at b c (Some e) = EndsAs names n s at b c e

-- ── widths ──

-- the bits of a fixed width, or those of the unit and the expression, whose stored form stands in the bytes
abbrev pub WidthHeld : Names → ℕ → Width (List ℕ) → CodeWidth → List ℕ → Type 0
WidthHeld names n (fixed m) w b = w ≡ kind.Fixed m
WidthHeld names n (measured u v) w b = (t : StoredTree) × (w ≡ kind.Measured u t) × StoredIs names n v (held t b)
WidthHeld names n rest w b = w ≡ kind.Rest

pub record MeasureAs (names : Names) (n : ℕ) (s : List ℕ) (g : Got (Width (List ℕ))) (b : List ℕ)
    (r : Measure) : Type 0 where
  pub width : Width (List ℕ)
  pub is_read : g ≡ hit width (drop r.next s)
  pub stored : WidthHeld names n width r.width b

abbrev pub MeasureFor : Names → ℕ → List ℕ → Got (Width (List ℕ)) → List ℕ → CodeOption Measure → Type 0
MeasureFor names n s g b None = g ≡ miss
MeasureFor names n s g b (Some m) = MeasureAs names n s g b m

abbrev pub MeasureWithin : List ℕ → ℕ → CodeOption Measure → Type 0
MeasureWithin s at r = IfSome r (λ m. (at ≤ m.next) × (m.next ≤ length s))

-- a fixed width of so many bits before the place next, where that is one
abbrev pub FixedFor : ℕ → ℕ → CodeOption Measure → Type 0
FixedFor bits next r = (names : Names) (n : ℕ) (s b : List ℕ)
    → MeasureFor names n s (keep (between 1 bits fixed_most) (fixed bits) (drop next s)) b r
    × IfSome r (λ m. m.next ≡ next)

-- the width of a tree with its unit u, before the place next
abbrev pub SizedFor : List ℕ → ℕ → StoredTree → ℕ → ℕ → CodeOption Measure → Type 0
SizedFor s at t u next r = (names : Names) (n : ℕ) (b : List ℕ) (v : Tree (List ℕ)) (q : List ℕ)
    → StoredIs names n v (held t b) → read_tree (drop at s) ≡ hit v q
    → MeasureFor names n s (keep (is_width (width_of u v)) (width_of u v) (drop next s)) b r

-- ── the line ──

-- what is held of the expressions
abbrev pub LineBytes : Type 0
LineBytes = Trees

-- the parts of the line s, of the form x; names are the held ones, with its own at the index n, where that has room
pub record PartsHeld (names : Names) (n : ℕ) (s : List ℕ) (x : Form) (b : LineBytes) (p : Parts) : Type 0
  where
    pub label_fits : p.label ≤ length s
    pub short_fits : p.short.at + p.short.len ≤ length s
    pub label : take p.label s ≡ x.label
    pub short : ShortIs s x.short p.short
    pub width : WidthHeld names n x.width p.width b.width
    pub constraint : MaybeHeld names (n + 1) x.constraint p.constraint b.constraint
    pub condition : MaybeHeld names n x.condition p.condition b.condition
    pub own : NamesRoom (n + 1) names → HeldAs names n x

-- those of the form that the reader found
pub record PartsAs (names : Names) (n : ℕ) (s : List ℕ) (o : Option Form) (b : LineBytes) (p : Parts) : Type 0 where
  pub form : Form
  pub is_read : o ≡ some form
  pub held_parts : PartsHeld names n s form b p

-- the code's answer is that of the reader in the text s
abbrev pub PartsFor : Names → ℕ → List ℕ → Option Form → LineBytes → CodeOption Parts → Type 0
PartsFor names n s o b None = o ≡ none
PartsFor names n s o b (Some p) = PartsAs names n s o b p

-- behind a label of k bytes and a short name
unfoldable pub BehindFor : Names → ℕ → List ℕ → ℕ → Span → ℕ → LineBytes → CodeOption Parts → Type 0
BehindFor names n s k short at b r = (w : List ℕ) (h : Option (List ℕ)) → take k s ≡ w → ShortIs s h short
    → PartsFor names n s (form_of (read_behind w h (drop at s))) b r
