-- Trees by the operators that they have: what an edition knows, another one knows and evaluates alike. [02, R-7]
use mathlib.Core.Path.{◌≡◌, refl}
use mathlib.Core.Bool.{Bool, true, ◌&&◌}
use mathlib.Core.List.{List, [], ◌∷◌, ◌++◌}
use mathlib.Core.Option.{Option, none, some}
use Prim.Native.Nat.{ℕ, ◌+◌, ◌≤◌}
use Rattle.base.specs.Lists.{all, list_of, first_break, sum}
use Rattle.base.proofs.Lists.{and_left, and_right, and_both, all_of, all_weaken}
use Rattle.base.proofs.Breaks.{all_one, all_append, first_break_cons, keeps_weaker}
use Rattle.base.proofs.Lookups.{none_breaks}
use Rattle.rules.specs.declared.Op.{Op}
use Rattle.rules.specs.Editions.{Edition, current}
use Rattle.rules.specs.Trees.{Tree, num, read, two, negation, has_operators}
use Rattle.rules.specs.Values.{Value, value, fault, with_right, with_left, evaluate_by}
use Rattle.rules.specs.Fields.{Width, fixed, measured, rest, Field, width_trees, trees, fixed_bits}
use Rattle.rules.specs.Within.{knows_all_in, keeps_operators_in, Keeps}
use Rattle.rules.specs.Reading.{
  Entry,
  entry_at,
  Step,
  step,
  stop,
  and_then,
  value_in,
  holds_in,
  width_at_in,
  constrained_in,
  bounded_in,
  read_field_in,
  read_on,
  read_fields_in,
}

-- ── the operators of a tree ──

pub operators_weaker : {N : Type 0} (p q : Op → Bool) → ((o : Op) → p o ≡ true → q o ≡ true) → (t : Tree N)
    → has_operators p t ≡ true → has_operators q t ≡ true
unfolding has_operators
operators_weaker p q f (num n) h = refl
operators_weaker p q f (read a) h = refl
operators_weaker p q f (two o a b) h =
    let both = and_right (p o) (has_operators p a && has_operators p b) h in
    and_both (q o) (has_operators q a && has_operators q b)
    (f o (and_left (p o) (has_operators p a && has_operators p b) h))
    (and_both (has_operators q a) (has_operators q b)
    (operators_weaker p q f a (and_left (has_operators p a) (has_operators p b) both))
    (operators_weaker p q f b (and_right (has_operators p a) (has_operators p b) both)))
operators_weaker p q f (negation a) h = operators_weaker p q f a h

pub field_known : {N : Type 0} (a b : Edition) → ((o : Op) → a.knows o ≡ true → b.knows o ≡ true) → (f : Field N)
    → knows_all_in a f ≡ true → knows_all_in b f ≡ true
field_known a b more f h =
    all_weaken (has_operators a.knows) (has_operators b.knows)
    (operators_weaker a.knows b.knows more) (trees f) h

-- the edition in force knows all operators
tree_known : {N : Type 0} (t : Tree N) → has_operators current.knows t ≡ true
unfolding has_operators
tree_known (num n) = refl
tree_known (read a) = refl
tree_known (two o a b) =
    and_both (has_operators current.knows a) (has_operators current.knows b) (tree_known a) (tree_known b)
tree_known (negation a) = tree_known a

pub knows_all : {N : Type 0} (f : Field N) → knows_all_in current f ≡ true
knows_all f = all_of (has_operators current.knows) (trees f) (λ t m. tree_known t)

pub keeps_known : {N : Type 0} (before l : List (Field N)) → first_break (keeps_operators_in current) before l ≡ none
keeps_known before l = none_breaks (keeps_operators_in current) before l (λ b i f g. knows_all f)

-- ── what one edition knows, another one knows, and means the same by it ──

pub record Widens (a b : Edition) : Type 0 where
  pub fields : a.fields ≤ b.fields
  pub packet : a.packet ≤ b.packet
  pub knows : (o : Op) → a.knows o ≡ true → b.knows o ≡ true
  pub means : (o : Op) → a.knows o ≡ true → (x y : ℕ) → a.means o x y ≡ b.means o x y

module _ (a b : Edition) (w : Widens a b) where
  pub operators_more : {N : Type 0} (l : List (Field N)) → Keeps (keeps_operators_in a) l
      → Keeps (keeps_operators_in b) l
  operators_more l h =
      keeps_weaker (keeps_operators_in a) (keeps_operators_in b) (λ before f k. field_known a b w.knows f k) [] l h

  evaluate_like : {N : Type 0} (env : N → Value) (t : Tree N) → has_operators a.knows t ≡ true
      → evaluate_by a.means env t ≡ evaluate_by b.means env t
  unfolding has_operators evaluate_by
  evaluate_like env (num n) h = refl
  evaluate_like env (read i) h = refl
  evaluate_like env (two o x y) h =
      let known = and_left (a.knows o) (has_operators a.knows x && has_operators a.knows y) h in
      let both = and_right (a.knows o) (has_operators a.knows x && has_operators a.knows y) h in
      rw (
        evaluate_like env x (and_left (has_operators a.knows x) (has_operators a.knows y) both),
        evaluate_like env y (and_right (has_operators a.knows x) (has_operators a.knows y) both),
      ) (with_left_lem known (evaluate_by b.means env x) (evaluate_by b.means env y))
    where
      with_right_lem : a.knows o ≡ true → (n : ℕ) (v : Value) → with_right a.means o n v ≡ with_right b.means o n v
      with_right_lem known n (value m) = w.means o known n m
      with_right_lem known n (fault f) = refl

      with_left_lem : a.knows o ≡ true → (u v : Value) → with_left a.means o u v ≡ with_left b.means o u v
      with_left_lem known (value n) v = rw (with_right_lem known n v)
      with_left_lem known (fault f) v = refl
  evaluate_like env (negation x) h = rw (evaluate_like env x h)

  holds_like : (entries : List Entry) (o : Option (Tree ℕ)) → all (has_operators a.knows) (list_of o) ≡ true
      → holds_in a entries o ≡ holds_in b entries o
  holds_like entries none h = refl
  holds_like entries (some t) h = evaluate_like (value_in entries) t (all_one (has_operators a.knows) t h)

  width_like : (packet : List ℕ) (entries : List Entry) (place later : ℕ) (v : Width ℕ)
      → all (has_operators a.knows) (width_trees v) ≡ true
      → width_at_in a packet entries place later v ≡ width_at_in b packet entries place later v
  width_like packet entries place later (fixed n) h = refl
  width_like packet entries place later (measured u t) h =
      rw (evaluate_like (value_in entries) t (all_one (has_operators a.knows) t h))
  width_like packet entries place later rest h = refl

  module _ (packet : List ℕ) (entries : List Entry) (place : ℕ) (f : Field ℕ)
      (h : all (has_operators a.knows) (list_of f.constraint) ≡ true) where
    constrained_like : (e : Entry) (next : ℕ)
        → constrained_in a entries e next f.constraint ≡ constrained_in b entries e next f.constraint
    constrained_like e next = rw (holds_like (entries ++ (e ∷ [])) f.constraint h)

    bounded_like : (n : ℕ) → bounded_in a packet entries place f n ≡ bounded_in b packet entries place f n
    bounded_like n = rw (constrained_like (entry_at packet place f.width n) (place + n))

    bits_like : (v : Value)
        → and_then v (bounded_in a packet entries place f) ≡ and_then v (bounded_in b packet entries place f)
    bits_like (value n) = bounded_like n
    bits_like (fault x) = refl

  field_like : (packet : List ℕ) (entries : List Entry) (place later : ℕ) (f : Field ℕ) → knows_all_in a f ≡ true
      → read_field_in a packet entries place later f ≡ read_field_in b packet entries place later f
  unfolding read_field_in
  field_like packet entries place later f h =
      let p = has_operators a.knows in
      let e = all_append p (width_trees f.width) (list_of f.constraint ++ list_of f.condition) h in
      let c = all_append p (list_of f.constraint) (list_of f.condition) e.1 in
      let present : and_then (width_at_in a packet entries place later f.width) (bounded_in a packet entries place f)
      ≡ and_then (width_at_in b packet entries place later f.width) (bounded_in b packet entries place f) =
      rw (width_like packet entries place later f.width e.0)
      (bits_like packet entries place f c.0 (width_at_in b packet entries place later f.width)) in
      rw (holds_like entries f.condition c.1, present)

  pub fields_like : (packet : List ℕ) (l : List (Field ℕ)) (before : List (Field ℕ))
      → first_break (keeps_operators_in a) before l ≡ none → (entries : List Entry) (place : ℕ)
      → read_fields_in a packet entries place l ≡ read_fields_in b packet entries place l
  unfolding read_fields_in
  fields_like packet [] before h entries place = refl
  fields_like packet (f ∷ l) before h entries place =
      let k = first_break_cons (keeps_operators_in a) before f l h in
      rw (field_like packet entries place (sum fixed_bits l) f k.0)
      (on (read_field_in b packet entries place (sum fixed_bits l) f)
      (fields_like packet l (before ++ (f ∷ [])) k.1))
    where
      on : (s : Step) → ((more : List Entry) (next : ℕ)
          → read_fields_in a packet more next l ≡ read_fields_in b packet more next l)
          → read_on entries s (λ more next. read_fields_in a packet more next l)
          ≡ read_on entries s (λ more next. read_fields_in b packet more next l)
      on (step e next) ih = ih (entries ++ (e ∷ [])) next
      on (stop x) ih = refl
