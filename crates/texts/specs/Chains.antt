-- Operators that group to the right and wait for their right operand: mirrors the code, no public promise rests on it.
use Rattle.std.specs.Prelude.{Option, None, Some}
use Rattle.std.specs.Prelude.{◌≡◌, cond, List, ◌∷◌, ℕ, ◌+◌, ◌*◌, ◌≤◌, ◌<◌, max, eqb, length, take, drop}
use Rattle.rules.specs.declared.Op.{Op}
use Rattle.rules.specs.declared.ValueType.{ValueType}
use Rattle.rules.specs.declared.ValueType.TheVariants.{Number}
use Rattle.rules.specs.Operators.{code, takes, gives, atom_level}
use Rattle.text_laws.specs.Reader.{missing, found, operator_at}
use Rattle.texts.specs.ExprPlaces.{taken_in}
use Rattle.texts.specs.HeldNames.{Names}
use Rattle.texts.specs.StoredTrees.{is_type, held}
use Rattle.texts.specs.StoredPlaces.{ExprStored, MoreStored, TreeWithin}
use Rattle.texts.specs.declared.signs.Taken.{Taken}
use Rattle.texts.specs.declared.stored_trees.StoredTree.{StoredTree}
use Rattle.texts.specs.declared.chains.Chain.{Chain}
use Rattle.texts.specs.declared.chains.Link.{Link}
use Rattle.texts.specs.declared.chains.Link.TheVariants as link

-- the tightest level of operators, whose operators group to the right
abbrev pub tightest_level : ℕ
tightest_level = 5

-- none waits
abbrev pub no_chain : ℕ → Chain
no_chain at = record { next = at; len = 0; ops = 0; deep = 0; want = Number; gives = None }

-- the type of the whole with an operand of the type t
unfoldable pub chain_type : Chain → Option ValueType → Option ValueType
chain_type c t = cond (eqb c.ops 0) t (cond (is_type c.want t) c.gives None)

-- the whole with the operand y
abbrev pub chained : Chain → StoredTree → StoredTree
chained c y = record {
  next = y.next;
  gives = chain_type c y.gives;
  depth = max c.deep (c.ops + y.depth);
  len = c.len + y.len;
}

-- one operator more with its left operand
abbrev pub pushed : Chain → Op → StoredTree → ℕ → Chain
pushed c o a next = record {
  next = next;
  len = c.len + (1 + a.len);
  ops = c.ops + 1;
  deep = max c.deep (c.ops + 1 + a.depth);
  want = takes o;
  gives = cond (is_type (takes o) a.gives) (chain_type c (Some (gives o))) None;
}

-- the operator behind the operand a waits, with its code before that operand in the bytes
pub record Waits (c : Chain) (a : StoredTree) (before after : List ℕ) (d : Chain) (op : Op) (end : ℕ) : Type 0 where
  pub is_pushed : d ≡ pushed c op a end
  pub long : length after ≡ length before
  pub front : c.len ≤ length before → take c.len after ≡ take c.len before
  pub back : c.len + (1 + a.len) ≤ length before
      → take (1 + a.len) (drop c.len after) ≡ code op ∷ take a.len (drop c.len before)

-- it is g
pub record Linked (g : Option Taken) (c : Chain) (a : StoredTree) (before after : List ℕ) (d : Chain) : Type 0 where
  pub by : Taken
  pub is_by : g ≡ Some by
  pub waits : Waits c a before after d by.op by.end

-- or none comes, and the whole is made
abbrev pub LinkMade : Option Taken → Chain → StoredTree → List ℕ → List ℕ → Link → Type 0
LinkMade g c a before after (link.Whole t) = (g ≡ None) × (t ≡ chained c a) × (after ≡ before)
LinkMade g c a before after (link.Waits d) = Linked g c a before after d

-- it is that of the reader, at the level k
pub record Pushes (s : List ℕ) (k : ℕ) (c : Chain) (a : StoredTree) (before after : List ℕ) (d : Chain)
    : Type 0 where
  pub op : Op
  pub end : ℕ
  pub is_taken : taken_in k atom_level (operator_at (drop a.next s)) ≡ found op (drop end s)
  pub low : a.next < end
  pub high : end ≤ length s
  pub waits : Waits c a before after d op end

pub record Closes (s : List ℕ) (k : ℕ) (c : Chain) (a : StoredTree) (before after : List ℕ) (t : StoredTree)
    : Type 0 where
  pub is_taken : taken_in k atom_level (operator_at (drop a.next s)) ≡ missing
  pub is_whole : t ≡ chained c a
  pub kept : after ≡ before

-- all that goes on behind the atom a: at looser levels the whole expression, at the tightest an operator that waits
pub record WholeMade (names : Names) (n : ℕ) (s : List ℕ) (at k b : ℕ) (c : Chain) (a : StoredTree)
    (before after : List ℕ) (t : StoredTree) : Type 0 where
  pub ends : k < tightest_level → TreeWithin s at at a.len t
      × MoreStored names n s at k atom_level b (held a before) (Some (held t after))
  pub closes : tightest_level ≤ k → Closes s k c a before after t

abbrev pub RestMade : Names → ℕ → List ℕ → ℕ → ℕ → ℕ → Chain → StoredTree → List ℕ → List ℕ → Option Link → Type 0
RestMade names n s at k b c a before after None =
    (k < tightest_level) × MoreStored names n s at k atom_level b (held a before) None
RestMade names n s at k b c a before after (Some (link.Whole t)) = WholeMade names n s at k b c a before after t
RestMade names n s at k b c a before after (Some (link.Waits d)) = (tightest_level ≤ k) × Pushes s k c a before after d

-- what the chain c, whose stored form stands at the start of `out`, makes of an expression at its next place
pub record ChainStored (names : Names) (n : ℕ) (s : List ℕ) (at k b : ℕ) (c : Chain) (out : List ℕ) : Type 0 where
  pub low : at ≤ c.next
  pub high : c.next ≤ length s
  pub grown : c.len + 5 * at ≤ 5 * c.next
  pub flat : c.deep ≤ c.len
  pub few : c.ops ≤ c.len
  pub fails : ExprStored names n s c.next k b None → ExprStored names n s at k b None
  pub goes : (y : StoredTree) (bytes : List ℕ) → length bytes ≡ length out
      → (c.len + y.len ≤ length out → take c.len bytes ≡ take c.len out)
      → c.next < y.next → y.next ≤ length s
      → ExprStored names n s c.next k b (Some (held y (drop c.len bytes)))
      → ExprStored names n s at k b (Some (held (chained c y) bytes))
