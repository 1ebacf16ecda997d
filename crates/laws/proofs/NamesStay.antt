-- What R-2 left as it was: what could be read may be read, names that are apart were apart, and where labels have not
-- the form of a short name nothing changed.
use mathlib.Core.Path.{◌≡◌, refl, sym}
use mathlib.Core.Bool.{Bool, true, false, ◌&&◌, ◌||◌, not}
use mathlib.Core.List.{List, [], ◌∷◌, ◌++◌, append-nil}
use mathlib.Core.Option.{Option, none, some}
use Prim.Native.Nat.{ℕ}
use lib.ListN.{get_elem?}
use Rattle.base.specs.Lists.{any, same, if_any, list_of, is_none, is_empty}
use Rattle.base.proofs.Lists.{
  and_left,
  and_right,
  and_both,
  or_left,
  or_right,
  not_both,
  fails,
  any_found,
  any_mem,
  same_true,
}
use Rattle.base.proofs.Breaks.{or_true, keeps_weaker}
use Rattle.rules.specs.declared.ValueType.{ValueType}
use Rattle.rules.specs.declared.ValueType.TheVariants.{Number, YesNo}
use Rattle.rules.specs.Operators.{takes, gives}
use Rattle.rules.specs.Trees.{Tree, num, read, two, negation, same_type, has_type}
use Rattle.rules.specs.Names.{is_short}
use Rattle.rules.specs.Fields.{Width, fixed, measured, rest, Field, is_fixed, read_names}
use Rattle.rules.specs.Within.{clash, keeps_names, width_has_type, keeps_types, is_readable, index_readable}
use Rattle.rules.specs.Results.{has_short, like_clash, ReadStays, ApartBefore, PlainRead, PlainClash}
use Rattle.laws.proofs.ReadsFields.{formed_parts}

-- ── what may be read ──

module _ (may can : ℕ → Bool) (more : (i : ℕ) → may i ≡ true → can i ≡ true) where
  type_more : (k : ValueType) (t : Tree ℕ) → has_type may k t ≡ true → has_type can k t ≡ true
  unfolding has_type
  type_more k (num n) h = h
  type_more k (read i) h =
      and_both (same_type k Number) (can i) (and_left (same_type k Number) (may i) h)
      (more i (and_right (same_type k Number) (may i) h))
  type_more k (two o a b) h =
      let both = has_type may (takes o) a && has_type may (takes o) b in
      let operands = and_right (same_type k (gives o)) both h in
      and_both (same_type k (gives o)) (has_type can (takes o) a && has_type can (takes o) b)
      (and_left (same_type k (gives o)) both h)
      (and_both (has_type can (takes o) a) (has_type can (takes o) b)
      (type_more (takes o) a (and_left (has_type may (takes o) a) (has_type may (takes o) b) operands))
      (type_more (takes o) b (and_right (has_type may (takes o) a) (has_type may (takes o) b) operands)))
  type_more k (negation a) h =
      and_both (same_type k YesNo) (has_type can YesNo a) (and_left (same_type k YesNo) (has_type may YesNo a) h)
      (type_more YesNo a (and_right (same_type k YesNo) (has_type may YesNo a) h))

  width_more : (v : Width ℕ) → width_has_type may v ≡ true → width_has_type can v ≡ true
  width_more (fixed n) h = refl
  width_more (measured u t) h = type_more Number t h
  width_more rest h = refl

  maybe_more : (o : Option (Tree ℕ)) → if_any (has_type may YesNo) o ≡ true → if_any (has_type can YesNo) o ≡ true
  maybe_more none h = refl
  maybe_more (some t) h = type_more YesNo t h

-- a short name is a name to be read by
short_read : (o : Option (Field ℕ)) → has_short o ≡ true → is_readable o ≡ true
short_read none h = absurd (not_both false h refl)
short_read (some f) h =
    and_both (is_fixed f) (not (is_empty (read_names f))) (and_left (is_fixed f) (not (is_none f.short)) h)
    (go f.short _ (and_right (is_fixed f) (not (is_none f.short)) h))
  where
    go : (o : Option (List ℕ)) (l : List (List ℕ)) → not (is_none o) ≡ true → not (is_empty (list_of o ++ l)) ≡ true
    go none l h = absurd (not_both false h refl)
    go (some s) l h = refl

pub read_stays : ReadStays
read_stays l h = keeps_weaker (keeps_types was) (keeps_types index_readable) one [] l h
  where
    was : List (Field ℕ) → ℕ → Bool
    was listed i = has_short (get_elem? listed i)

    more : (listed : List (Field ℕ)) (i : ℕ) → was listed i ≡ true → index_readable listed i ≡ true
    more listed i e = short_read (get_elem? listed i) e

    one : (before : List (Field ℕ)) (x : Field ℕ) → keeps_types was before x ≡ true
        → keeps_types index_readable before x ≡ true
    one before x k =
        let own = before ++ (x ∷ []) in
        let wide = width_has_type (was before) x.width in
        let first = if_any (has_type (was own) YesNo) x.constraint in
        let second = if_any (has_type (was before) YesNo) x.condition in
        let behind = and_right wide (first && second) k in
        and_both (width_has_type (index_readable before) x.width) _
        (width_more (was before) (index_readable before) (more before) x.width (and_left wide (first && second) k))
        (and_both (if_any (has_type (index_readable own) YesNo) x.constraint) _
        (maybe_more (was own) (index_readable own) (more own) x.constraint (and_left first second behind))
        (maybe_more (was before) (index_readable before) (more before) x.condition (and_right first second behind)))

-- ── names that are apart ──

any_more : {A : Type 0} (p q : A → Bool) → ((x : A) → p x ≡ true → q x ≡ true) → (l : List A) → any p l ≡ true
    → any q l ≡ true
any_more p q f l h = let x = any_found p l h in any_mem q (f x.0 x.2) x.1

-- like names are names of both
like_clash_lem : {N : Type 0} (f g : Field N) → like_clash f g ≡ true → clash f g ≡ true
unfolding any
like_clash_lem f g h =
    let shorts = list_of g.short in
    let either : List ℕ → Bool = λ s. any (same s) (g.label ∷ shorts) in
    or_true (same f.label g.label) (any (λ s. any (same s) shorts) (list_of f.short))
    (λ e. or_left (either f.label) (any either (list_of f.short))
    (or_left (same f.label g.label) (any (same f.label) shorts) e))
    (λ e. or_right (either f.label) (any either (list_of f.short))
    (any_more (λ s. any (same s) shorts) either (λ s k. or_right (same s g.label) (any (same s) shorts) k)
    (list_of f.short) e))
    h

pub not_more : (a b : Bool) → (b ≡ true → a ≡ true) → not a ≡ true → not b ≡ true
not_more a true f h = absurd (not_both (not a) h (rw (f refl)))
not_more a false f h = refl

pub apart_before : ApartBefore
apart_before l h = keeps_weaker keeps_names (λ before x. not (any (like_clash x) before))
    (λ before x k. not_more (any (clash x) before) (any (like_clash x) before)
    (any_more (like_clash x) (clash x) (like_clash_lem x) before) k)
    [] l h

-- ── labels that have not the form of a short name ──

pub plain_read : PlainRead
plain_read N f e = rw e (append-nil (list_of f.short))

-- such a label is no short name
not_short : (l s : List ℕ) → is_short l ≡ false → is_short s ≡ true → (same l s ≡ false) × (same s l ≡ false)
not_short l s e p = (
  fails (same l s) (λ h. not_both (is_short l) (rw (same_true l s h) p) e),
  fails (same s l) (λ h. not_both (is_short l) (rw (sym (same_true s l h)) p) e),
)

pub plain_clash : PlainClash
unfolding any
plain_clash N f g p q d e = go f.short g.short (formed_parts f p).1 (formed_parts g q).1
  where
    l : List ℕ
    l = f.label

    m : List ℕ
    m = g.label

    shape : (a b : Bool) → (a || false) || (b || false) ≡ a || (b || false)
    shape true b = refl
    shape false b = refl

    bare : (a : Bool) → (a || false) || false ≡ a || false
    bare true = refl
    bare false = refl

    go : (a b : Option (List ℕ)) → if_any is_short a ≡ true → if_any is_short b ≡ true
        → any (λ s. any (same s) (m ∷ list_of b)) (l ∷ list_of a)
        ≡ (same l m || any (λ s. any (same s) (list_of b)) (list_of a))
    go none none u v = bare (same l m)
    go (some a) none u v = rw (not_short m a e u).1 (bare (same l m))
    go none (some b) u v = rw (not_short l b d v).0 (bare (same l m))
    go (some a) (some b) u v = rw ((not_short m a e u).1, (not_short l b d v).0) (shape (same l m) (same a b || false))
