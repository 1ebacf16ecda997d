-- A field with other indexes reads to the same entry, where the values that it reads stand at them.
use mathlib.Core.Path.{◌≡◌, refl, ap}
use mathlib.Core.Bool.{Bool, false}
use mathlib.Core.List.{List, [], ◌∷◌, ◌++◌, map}
use mathlib.Core.Option.{Option, none, some}
use Prim.Native.Nat.{ℕ}
use Rattle.base.specs.Lists.{any, joined, list_of, sum}
use Rattle.base.proofs.Lists.{or_false_left, or_false_right}
use Rattle.base.proofs.Joined.{joined_append, joined_one}
use Rattle.rules.specs.Trees.{Tree, num, read, two, negation}
use Rattle.rules.specs.Values.{Value, value, fault, Meaning, evaluate_by}
use Rattle.rules.specs.Fields.{Width, fixed, measured, rest, Field, width_trees, fixed_width_bits, fixed_bits}
use Rattle.rules.specs.References.{tree_reads, field_reads}
use Rattle.rules.specs.Edits.{renumbered_tree, renumbered_maybe, renumbered_width, renumbered}
use Rattle.rules.specs.Editions.{current}
use Rattle.rules.specs.Reading.{
  Entry,
  Step,
  and_then,
  scaled,
  value_in,
  holds,
  width_at,
  number_at,
  entry_at,
  bounded,
  read_field,
  read_field_in,
}

-- ── widths ──

width_bits : (g : ℕ → ℕ) (w : Width ℕ) (packet : List ℕ) (place : ℕ)
    → number_at packet place (renumbered_width g w) ≡ number_at packet place w
width_bits g (fixed n) packet place = refl
width_bits g (measured u t) packet place = refl
width_bits g rest packet place = refl

fixed_stays : (g : ℕ → ℕ) (f : Field ℕ) → fixed_bits (renumbered g f) ≡ fixed_bits f
unfolding renumbered
fixed_stays g f = go f.width
  where
    go : (w : Width ℕ) → fixed_width_bits (renumbered_width g w) ≡ fixed_width_bits w
    go (fixed n) = refl
    go (measured u t) = refl
    go rest = refl

-- the fixed widths stay
pub fixed_sum : (g : ℕ → ℕ) (fs : List (Field ℕ)) → sum fixed_bits (map (renumbered g) fs) ≡ sum fixed_bits fs
unfolding sum
fixed_sum g [] = refl
fixed_sum g (f ∷ fs) = rw (fixed_stays g f, fixed_sum g fs)

-- ── tests of parts ──

pub any_parts : (p : ℕ → Bool) (l m : List ℕ) → any p (l ++ m) ≡ false → (any p l ≡ false) × (any p m ≡ false)
unfolding any
any_parts p [] m h = (refl, h)
any_parts p (i ∷ l) m h =
    let e = any_parts p l m (or_false_right (p i) (any p (l ++ m)) h) in
    (rw (or_false_left (p i) (any p (l ++ m)) h) e.0, e.1)

-- ── a field ──

then_same : (v : Value) (a b : ℕ → Step) → ((n : ℕ) → a n ≡ b n) → and_then v a ≡ and_then v b
then_same (value n) a b h = h n
then_same (fault x) a b h = refl

-- each index i becomes g i, and those that are out are not read
module _ (g : ℕ → ℕ) (out : ℕ → Bool) where
  -- what stands at an index by the one list stands at the other index by the other
  abbrev pub Alike : List Entry → List Entry → Type 0
  Alike es old = (i : ℕ) → out i ≡ false → value_in es (g i) ≡ value_in old i

  module _ (es old : List Entry) (alike : Alike es old) where
    tree_alike : (means : Meaning) (t : Tree ℕ) → any out (tree_reads t) ≡ false
        → evaluate_by means (value_in es) (renumbered_tree g t) ≡ evaluate_by means (value_in old) t
    unfolding evaluate_by renumbered_tree tree_reads any
    tree_alike means (num n) h = refl
    tree_alike means (read i) h = alike i (or_false_left (out i) false h)
    tree_alike means (two o a b) h =
        let e = any_parts out (tree_reads a) (tree_reads b) h in
        rw (tree_alike means a e.0, tree_alike means b e.1)
    tree_alike means (negation a) h = rw (tree_alike means a h)

    maybe_alike : (o : Option (Tree ℕ)) → any out (joined tree_reads (list_of o)) ≡ false
        → holds es (renumbered_maybe g o) ≡ holds old o
    maybe_alike none h = refl
    maybe_alike (some t) h = tree_alike current.means t (rw (← joined_one tree_reads t) h)

    width_alike : (packet : List ℕ) (place later : ℕ) (w : Width ℕ)
        → any out (joined tree_reads (width_trees w)) ≡ false
        → width_at packet es place later (renumbered_width g w) ≡ width_at packet old place later w
    width_alike packet place later (fixed n) h = refl
    width_alike packet place later (measured u t) h =
        ap (scaled u) (tree_alike current.means t (rw (← joined_one tree_reads t) h))
    width_alike packet place later rest h = refl

  -- the entries before the field are alike, and stay so with the field's own entry
  module _ (es old : List Entry) (alike : Alike es old)
      (own_alike : (own : Entry) → Alike (es ++ (own ∷ [])) (old ++ (own ∷ []))) where
    bounded_alike : (packet : List ℕ) (place : ℕ) (f : Field ℕ) (n : ℕ)
        → any out (joined tree_reads (list_of f.constraint)) ≡ false
        → bounded packet es place (renumbered g f) n ≡ bounded packet old place f n
    unfolding renumbered
    bounded_alike packet place f n h =
        let own = entry_at packet place f.width n in
        rw (
          width_bits g f.width packet place,
          maybe_alike (es ++ (own ∷ [])) (old ++ (own ∷ [])) (own_alike own) f.constraint h,
        )

    pub field_alike : (packet : List ℕ) (place later : ℕ) (f : Field ℕ) → any out (field_reads f) ≡ false
        → read_field packet es place later (renumbered g f) ≡ read_field packet old place later f
    unfolding read_field_in field_reads renumbered
    field_alike packet place later f h =
        let w = width_trees f.width in
        let c = list_of f.constraint in
        let k = list_of f.condition in
        let e = any_parts out (joined tree_reads w) (joined tree_reads (c ++ k))
        (rw (← joined_append tree_reads w (c ++ k)) h) in
        let s = any_parts out (joined tree_reads c) (joined tree_reads k)
        (rw (← joined_append tree_reads c k) e.1) in
        let behind = then_same (width_at packet old place later f.width)
        (bounded packet es place (renumbered g f)) (bounded packet old place f)
        (λ n. bounded_alike packet place f n s.0) in
        rw (
          maybe_alike es old alike f.condition s.1,
          width_alike es old alike packet place later f.width e.0,
          behind,
        )
