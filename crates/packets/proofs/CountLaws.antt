-- What the records of a table read is what the expressions of its fields read.
use mathlib.Core.Path.{◌≡◌, refl, sym, ap, ap₂, ◌∙◌}
use mathlib.Core.Bool.{cond}
use mathlib.Core.List.{List, [], ◌∷◌, ◌++◌, append-nil}
use mathlib.Core.Option.{Option, none, some}
use Prim.Native.Nat.{ℕ, suc, ◌+◌, ◌-◌}
use native.Mathlib.Omega.{arith}
use lib.Dec.{eqb}
use lib.ListN.{length, take, drop}
use Rattle.base.specs.Lists.{joined, list_of, first_break}
use Rattle.base.proofs.Joined.{joined_append}
use Rattle.base.proofs.Breaks.{first_break_cons}
use Rattle.laws.specs.Places.{Stands, two_at}
use Rattle.laws.proofs.Places.{stands_left, stands_right}
use Rattle.laws.proofs.Counting.{readers_from}
use Rattle.rules.specs.Trees.{Tree}
use Rattle.rules.specs.Fields.{Width, fixed, measured, rest, Field, width_trees}
use Rattle.rules.specs.Within.{keeps_form, keeps_size}
use Rattle.rules.specs.References.{tree_reads, field_reads, times}
use Rattle.rules.specs.Stored.{kind_number, stored_maybe, stored_field, records, records_in}
use Rattle.references.specs.Scans.{codes_from, references}
use Rattle.references.proofs.ScanLaws.{references_stored}
use Rattle.writing.specs.declared.spans.Span.{Span}
use Rattle.packets.specs.Parts.{ending, span_at, width_at, parts_at}
use Rattle.packets.specs.PartsStand.{In, WidthStands, PartsStand}
use Rattle.packets.specs.FieldTest.{bytes_in}
use Rattle.packets.specs.CountsTest.{part_reads, reads_from}
use Rattle.packets.proofs.FieldBounds.{field_bounds}
use Rattle.packets.proofs.RecordLaws.{record_parts}
use Rattle.packets.proofs.PartBytes.{bytes_are}

-- ── the expressions of a record ──

tree_reads_lem : (t : Tree ℕ) → tree_reads t ≡ joined tree_reads (t ∷ [])
unfolding joined
tree_reads_lem t = sym (append-nil (tree_reads t))

maybe_reads_lem : (s : List ℕ) (p : Span) (o : Option (Tree ℕ)) → In s p (stored_maybe o)
    → references (bytes_in s p) ≡ joined tree_reads (list_of o)
unfolding references codes_from joined
maybe_reads_lem s p none i = ap references (bytes_are s p [] i)
maybe_reads_lem s p (some t) i =
    ap references (bytes_are s p (stored_maybe (some t)) i) ∙ references_stored t ∙ tree_reads_lem t

-- a part of no bytes
no_bytes : (s : List ℕ) (a : ℕ) → take (a + 0 - a) (drop a s) ≡ []
no_bytes s a = let z : a + 0 - a ≡ 0 = omega arith in rw z refl

-- a width's expression, which only a measured one has
width_reads : (s : List ℕ) (at : ℕ) (w : Width ℕ) → two_at s (at + 2) ≡ kind_number w
    → WidthStands s (parts_at s at).number (parts_at s at).tree w
    → references (bytes_in s (parts_at s at).tree) ≡ joined tree_reads (width_trees w)
unfolding parts_at width_at references codes_from joined
width_reads s at (fixed n) k i = rw k (ap references (no_bytes s (ending (span_at s (ending (span_at s (at + 6)))))))
width_reads s at (measured u t) k i =
    ap references (bytes_are s (parts_at s at).tree _ i.1) ∙ references_stored t ∙ tree_reads_lem t
width_reads s at rest k i = rw k (ap references (no_bytes s (ending (span_at s (ending (span_at s (at + 6)))))))

pub part_reads_lem : (s : List ℕ) (at : ℕ) (f : Field ℕ) → PartsStand s (parts_at s at) f
    → part_reads s (parts_at s at) ≡ field_reads f
unfolding field_reads parts_at
part_reads_lem s at f q =
    let w = width_trees f.width in
    let c = list_of f.constraint in
    let d = list_of f.condition in
    ap₂ {C = List ℕ} (λ (a b : List ℕ). a ++ b) (width_reads s at f.width q.kind q.width)
    (ap₂ {C = List ℕ} (λ (a b : List ℕ). a ++ b) (maybe_reads_lem s _ f.constraint q.constraint)
    (maybe_reads_lem s _ f.condition q.condition) ∙ sym (joined_append tree_reads c d))
    ∙ sym (joined_append tree_reads w (c ++ d))

-- ── all records ──

pub reads_stored : (numbers : ℕ → ℕ) (k : ℕ) (s : List ℕ) (before l : List (Field ℕ))
    → first_break keeps_form before l ≡ none → first_break keeps_size before l ≡ none → (at next : ℕ)
    → Stands s at (records numbers k l) next → (i : ℕ) → reads_from s k (length l) at i ≡ readers_from k l i
unfolding records_in reads_from readers_from
reads_stored numbers k s before [] form size at next st i = refl
reads_stored numbers k s before (f ∷ l) form size at next st i =
    let a = first_break_cons keeps_form before f l form in
    let b = first_break_cons keeps_size before f l size in
    let one = stored_field (numbers k) f in
    let q = record_parts s at (at + length one) (numbers k) f (field_bounds f a.0 b.0)
    (stands_left s at next one (records numbers (suc k) l) st) in
    let r = stands_right s at next one (records numbers (suc k) l) st in
    rw (part_reads_lem s at f q.0, q.1)
    (ap (λ (n : ℕ). cond (eqb i k) 0 (times i (field_reads f)) + n)
    (reads_stored numbers (suc k) s (before ++ (f ∷ [])) l a.1 b.1 (at + length one) next r i))
