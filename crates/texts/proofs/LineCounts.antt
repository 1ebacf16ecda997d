-- What the expressions of a field line read, by their stored forms, is counted.
use mathlib.Core.Path.{◌≡◌, refl, ap, sym, subst, ◌∙◌}
use mathlib.Core.Bool.{true}
use mathlib.Core.List.{List, [], ◌∷◌, ◌++◌}
use mathlib.Core.Option.{Option, none, some, map}
use Prim.Native.Nat.{ℕ, ◌+◌, ◌≤◌}
use native.Mathlib.Omega.{arith}
use lib.ListN.{length, take, replicate, length-replicate}
use Rattle.std.specs.Prelude.{Option as CodeOption}
use Rattle.texts.specs.declared.stored_trees.StoredTree.{StoredTree}
use Rattle.base.specs.Lists.{all, joined, list_of}
use Rattle.base.proofs.Lists.{and_both, all_append}
use Rattle.base.proofs.Joined.{joined_one}
use Rattle.rules.specs.Limits.{fields_most}
use Rattle.rules.specs.Trees.{Tree}
use Rattle.rules.specs.Fields.{Width, fixed, measured, rest, Field, Form, width_trees}
use Rattle.rules.specs.References.{tree_reads}
use Rattle.references.specs.Scans.{codes_from, references}
use Rattle.references.specs.Tallies.{tallied}
use Rattle.references.specs.Counted.{Counted}
use Rattle.references.proofs.ScanLaws.{references_stored}
use Rattle.references.proofs.TallyLaws.{tallied_length}
use Rattle.references.proofs.Counted.{counted_none, counted_more}
use Rattle.text_laws.specs.Resolving.{rename_tree, rename_width}
use Rattle.texts.specs.HeldNames.{Names}
use Rattle.texts.specs.Kinds.{tree_length}
use Rattle.texts.specs.Resolved.{indexed}
use Rattle.texts.specs.StoredTrees.{look_up, form_length, TreeBytes, held, StoredIs}
use Rattle.texts.specs.HeldParts.{MaybeHeld, WidthHeld, LineBytes, PartsHeld}
use Rattle.texts.specs.HeldRecords.{line_tallied, Writable, BytesRoom}
use Rattle.texts.specs.States.{is_short_record, Numbers}
use Rattle.texts.specs.declared.kinds.Width.{Width as CodeWidth}
use Rattle.texts.specs.declared.line_parts.Parts.{Parts}
use Rattle.texts.proofs.PartBytes.{held_bytes}

-- ── what is read ──

none_read : references [] ≡ []
unfolding references codes_from joined
none_read = refl

tree_read : (names : Names) (n : ℕ) (v : Tree (List ℕ)) (t : TreeBytes) → StoredIs names n v t
    → t.len ≤ length t.bytes
    → references (take t.len t.bytes) ≡ joined tree_reads (rename_tree (look_up names n) v ∷ [])
tree_read names n v t h le =
    ap references (held_bytes names n v t h le) ∙ references_stored (rename_tree (look_up names n) v)
    ∙ sym (joined_one tree_reads (rename_tree (look_up names n) v))

maybe_read : (names : Names) (n : ℕ) (o : Option (Tree (List ℕ))) (r : CodeOption StoredTree) (b : List ℕ)
    → MaybeHeld names n o r b → form_length r ≤ length b
    → references (take (form_length r) b) ≡ joined tree_reads (list_of (map (rename_tree (look_up names n)) o))
unfolding joined
maybe_read names n none r b h le = rw h none_read
maybe_read names n (some v) r b h le =
    rw h.1 (tree_read names n v (held h.0 b) h.2 (omega (arith, ap form_length h.1, le)))

width_read : (names : Names) (n : ℕ) (v : Width (List ℕ)) (w : CodeWidth) (b : List ℕ)
    → WidthHeld names n v w b → tree_length w ≤ length b
    → references (take (tree_length w) b) ≡ joined tree_reads (width_trees (rename_width (look_up names n) v))
unfolding joined
width_read names n (fixed m) w b h le = rw h none_read
width_read names n (measured u v) w b h le =
    rw h.1 (tree_read names n v (held h.0 b) h.2 (omega (arith, ap tree_length h.1, le)))
width_read names n rest w b h le = rw h none_read

-- ── what is counted ──

-- what the expressions of a field read, counted, where it is the field of an index
abbrev pub field_tallied : ℕ → Field ℕ → List ℕ → List ℕ
field_tallied own f counts =
    tallied own (tallied own (tallied own counts (joined tree_reads (width_trees f.width)))
    (joined tree_reads (list_of f.constraint))) (joined tree_reads (list_of f.condition))

pub line_tallied_lem : (names : Names) (n : ℕ) (line : List ℕ) (x : Form) (v : LineBytes) (p : Parts)
    → PartsHeld names n line x v p → Writable (length line) p → BytesRoom v → (counts : List ℕ)
    → line_tallied n v p counts ≡ field_tallied n (indexed names n x) counts
line_tallied_lem names n line x v p h w room counts =
    rw (
      width_read names n x.width p.width v.width h.width
          (omega (arith, w.width, room.width)),
      maybe_read names (n + 1) x.constraint p.constraint v.constraint h.constraint
          (omega (arith, w.constraint, room.constraint)),
      maybe_read names n x.condition p.condition v.condition h.condition
          (omega (arith, w.condition, room.condition)),
    )
    refl

tallied_long : (own : ℕ) (f : Field ℕ) (counts : List ℕ) → length (field_tallied own f counts) ≡ length counts
tallied_long own f counts =
    let w = joined tree_reads (width_trees f.width) in
    let c = joined tree_reads (list_of f.constraint) in
    let k = joined tree_reads (list_of f.condition) in
    tallied_length own (tallied own (tallied own counts w) c) k ∙ tallied_length own (tallied own counts w) c
    ∙ tallied_length own counts w

pub numbers_none : (n : ℕ) → fields_most ≤ n → Numbers [] (replicate n 0)
unfolding all
numbers_none n le = record {
  short = refl;
  counted = counted_none n;
  room = (let m = length-replicate {A = ℕ} n 0 in omega (arith, m, le));
}

-- one field more
pub numbers_more : (fs : List (Field ℕ)) (f : Field ℕ) {counts after : List ℕ} → Numbers fs counts
    → is_short_record f ≡ true → after ≡ field_tallied (length fs) f counts → Numbers (fs ++ (f ∷ [])) after
unfolding all
numbers_more fs f {counts} {after} h short e = record {
  short = all_append is_short_record fs (f ∷ []) h.short (and_both (is_short_record f) true short refl);
  counted = subst (λ (l : List ℕ). Counted (fs ++ (f ∷ [])) l) (sym e) (counted_more fs f counts h.counted);
  room = (let n = ap length e in let m = tallied_long (length fs) f counts in omega (arith, n, m, h.room));
}
