-- One field of a packet with its constraint: the code's step is the reading's step, and the run has one entry more.
use mathlib.Core.Path.{◌≡◌, refl}
use mathlib.Core.Bool.{Bool, true, false, cond, ◌&&◌}
use mathlib.Core.List.{List, [], ◌∷◌, ◌++◌}
use Prim.Native.Nat.{ℕ, ◌+◌, ◌*◌, ◌≤◌}
use native.Mathlib.Omega.{arith}
use lib.Dec.{ltb, eqb}
use lib.ListN.{length, length-append}
use Rattle.base.specs.Lists.{all, if_any, list_of}
use Rattle.base.proofs.Breaks.{and_true, all_append}
use Rattle.rules.specs.declared.Fault.TheVariants.{BitsMissing, ConstraintFalse}
use Rattle.rules.specs.declared.ValueType.TheVariants.{YesNo}
use Rattle.rules.specs.Trees.{is_in_range, is_small, has_type}
use Rattle.rules.specs.Values.{Value, value, fault}
use Rattle.rules.specs.Fields.{Field, width_trees, trees}
use Rattle.rules.specs.Within.{is_formed, keeps_types, width_has_type, index_readable}
use Rattle.rules.specs.Reading.{
  Entry,
  absent,
  holds,
  Step,
  step,
  stop,
  and_then,
  width_at,
  entry_at,
  constrained,
  bounded,
  read_field,
  read_field_in,
  bit_total,
}
use Rattle.laws.proofs.ReadsFields.{formed_parts}
use Rattle.packets.specs.declared.records.Parts.{Parts}
use Rattle.packets.specs.PartsStand.{PartsStand}
use Rattle.packets.specs.Steps.{numbers_in, holds_at, later_bits, field_step}
use Rattle.packets.specs.Walks.{put_at, kept_at, step_after, run_with}
use Rattle.packets.proofs.RunEntries.{Begins, put_begins, run_agrees}
use Rattle.packets.proofs.FieldReads.{opened, holds_reads, width_reads}

-- a step of the reading behind some entries, and the code's step with the run after it
abbrev pub Matches : List Entry → List ℕ → Step → Step → Type 0
Matches entries after (step e next) (step d m) = (m ≡ next) × Begins after (entries ++ (e ∷ []))
Matches entries after (step e next) (stop g) = ⊥
Matches entries after (stop f) (step d m) = ⊥
Matches entries after (stop f) (stop g) = f ≡ g

abbrev kept : Value → Entry → ℕ → Step
kept v e next = and_then v (λ c. cond (eqb c 0) (stop ConstraintFalse) (step e next))

kept_matches : (entries : List Entry) (after : List ℕ) (e : Entry) (next : ℕ) → Begins after (entries ++ (e ∷ []))
    → (v : Value) → Matches entries after (kept v e next) (kept v e next)
kept_matches entries after e next b (value c) = go (eqb c 0)
  where
    go : (x : Bool)
        → Matches entries after (cond x (stop ConstraintFalse) (step e next))
        (cond x (stop ConstraintFalse) (step e next))
    go true = refl
    go false = (refl, b)
kept_matches entries after e next b (fault f) = refl

module _ (s packet run : List ℕ) (entries : List Entry) (place : ℕ) (f : Field ℕ) (p : Parts)
    (more : (e : Entry) → Begins (put_at run (length entries) (numbers_in e)) (entries ++ (e ∷ [])))
    (own : (e : Entry) → holds_at s (put_at run (length entries) (numbers_in e)) p.constraint
    ≡ holds (entries ++ (e ∷ [])) f.constraint) where
  abbrev Same : Step → Step → Type 0
  Same found said =
      Matches entries (run_with run (length entries) found) said (step_after s run (length entries) p found)

  bits_match : (n : ℕ) → Same (opened packet place f.width n) (bounded packet entries place f n)
  unfolding step_after kept_at
  bits_match n = go (ltb (bit_total packet) (place + n))
    where
      e : Entry
      e = entry_at packet place f.width n

      go : (x : Bool)
          → Same (cond x (stop BitsMissing) (step e (place + n)))
          (cond x (stop BitsMissing) (constrained entries e (place + n) f.constraint))
      go true = refl
      go false =
          rw (own e)
          (kept_matches entries (put_at run (length entries) (numbers_in e)) e (place + n) (more e)
          (holds (entries ++ (e ∷ [])) f.constraint))

  width_matches : (w : Value)
      → Same (and_then w (opened packet place f.width)) (and_then w (bounded packet entries place f))
  unfolding step_after
  width_matches (value n) = bits_match n
  width_matches (fault g) = refl

  condition_matches : (v w : Value)
      → Same
      (and_then v (λ c. cond (eqb c 0) (step absent place) (and_then w (opened packet place f.width))))
      (and_then v (λ c. cond (eqb c 0) (step absent place) (and_then w (bounded packet entries place f))))
  unfolding step_after
  condition_matches (value c) w = go (eqb c 0)
    where
      go : (x : Bool)
          → Same (cond x (step absent place) (and_then w (opened packet place f.width)))
          (cond x (step absent place) (and_then w (bounded packet entries place f)))
      go true = (refl, more absent)
      go false = width_matches w
  condition_matches (fault g) w = refl

-- the field behind those before it, where the run begins with their entries
module _ (s packet run : List ℕ) (before : List (Field ℕ)) (entries : List Entry) (place : ℕ) (f : Field ℕ) (p : Parts)
    (counts : length entries ≡ length before) (begins : Begins run entries)
    (room : 4 * length entries + 4 ≤ length run)
    (formed : is_formed f ≡ true) (small : all is_small (trees f) ≡ true)
    (typed : keeps_types index_readable before f ≡ true) (stands : PartsStand s p f) where
  own_entry : (e : Entry) → holds_at s (put_at run (length entries) (numbers_in e)) p.constraint
      ≡ holds (entries ++ (e ∷ [])) f.constraint
  own_entry e =
      let k = if_any (has_type (index_readable (before ++ (f ∷ []))) YesNo) f.constraint in
      let c = if_any (has_type (index_readable before) YesNo) f.condition in
      let types = and_true (width_has_type (index_readable before) f.width) (k && c) typed in
      let l = list_of f.constraint ++ list_of f.condition in
      let ranges = all_append is_in_range (width_trees f.width) l (formed_parts f formed).3 in
      let smalls = all_append is_small (width_trees f.width) l small in
      let n : length (entries ++ (e ∷ [])) ≡ length (before ++ (f ∷ [])) =
      omega (arith, length-append entries (e ∷ []), length-append before (f ∷ [])) in
      holds_reads s (put_at run (length entries) (numbers_in e)) (before ++ (f ∷ [])) (entries ++ (e ∷ []))
      (run_agrees (before ++ (f ∷ [])) (entries ++ (e ∷ [])) (put_at run (length entries) (numbers_in e)) n
      (put_begins run entries e begins room))
      f.constraint p.constraint (and_true k c types.1).0
      (all_append is_in_range (list_of f.constraint) (list_of f.condition) ranges.1).0
      (all_append is_small (list_of f.constraint) (list_of f.condition) smalls.1).0
      stands.constraint

  pub field_matches : (later total : ℕ) → later_bits later s p.next ≡ total
      → Matches entries (run_with run (length entries) (field_step s packet run p later place))
      (read_field packet entries place total f)
      (step_after s run (length entries) p (field_step s packet run p later place))
  unfolding field_step read_field_in
  field_matches later total sums =
      let k = if_any (has_type (index_readable (before ++ (f ∷ []))) YesNo) f.constraint in
      let c = if_any (has_type (index_readable before) YesNo) f.condition in
      let types = and_true (width_has_type (index_readable before) f.width) (k && c) typed in
      let l = list_of f.constraint ++ list_of f.condition in
      let form = formed_parts f formed in
      let ranges = all_append is_in_range (width_trees f.width) l form.3 in
      let smalls = all_append is_small (width_trees f.width) l small in
      let agrees = run_agrees before entries run counts begins in
      let e = holds_reads s run before entries agrees f.condition p.condition (and_true k c types.1).1
      (all_append is_in_range (list_of f.constraint) (list_of f.condition) ranges.1).1
      (all_append is_small (list_of f.constraint) (list_of f.condition) smalls.1).1
      stands.condition in
      let w =
      width_reads s run before entries agrees packet f.width p later total place stands.kind stands.width
      form.2 types.0 ranges.0 smalls.0 sums in
      rw (e, w)
      (condition_matches s packet run entries place f p (λ d. put_begins run entries d begins room) own_entry
      (holds entries f.condition) (width_at packet entries place total f.width))
