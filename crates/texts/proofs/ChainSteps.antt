-- Operators that wait for their right operand, step by step, against the reader over what is left of the text.
use mathlib.Core.Path.{◌≡◌, refl, ap, sym, ◌∙◌, subst}
use mathlib.Core.Bool.{Bool, true, false}
use mathlib.Core.List.{List, ◌∷◌}
use Prim.Native.Nat.{ℕ, ◌+◌, ◌-◌, ◌≤◌, ◌<◌, max}
use native.Mathlib.Omega.{arith}
use lib.Dec.{ltb}
use borrow.Author.Tests.{ltb-true, ltb-false}
use lib.ListN.{length, take, drop, length-drop}
use lib.Seq.{take_all}
use borrow.Rule.Slice.PartMut.{put_mid}
use Rattle.rules.specs.Operators.{code, atom_level}
use Rattle.text_laws.specs.Reader.{operator_at}
use Rattle.texts.specs.HeldNames.{Names}
use Rattle.texts.specs.ExprPlaces.{taken_in, SameTaken, WithinTaken}
use Rattle.texts.specs.StoredTrees.{TreeBytes, held}
use Rattle.texts.specs.StoredPlaces.{ExprStored, AtomStored, MoreStored, TreeWithin}
use Rattle.texts.specs.Chains.{tightest_level, no_chain, pushed, Linked, LinkMade}
use Rattle.texts.specs.Chains.{WholeMade, Pushes, Closes, RestMade, ChainStored}
use Rattle.texts.specs.declared.stored_trees.StoredTree.{StoredTree}
use Rattle.texts.specs.declared.chains.Chain.{Chain}
use Rattle.texts.specs.declared.chains.Link.{Link}
use Rattle.texts.specs.declared.chains.Link.TheVariants as link
use Rattle.texts.specs.declared.signs.Taken.{Taken}
use Rattle.std.specs.Prelude.{Option, None, Some}
use Rattle.texts.proofs.TakenSteps.{is_missing_lem, is_found}
use Rattle.texts.proofs.StoredBytes.{Joined, joined_part}
use Rattle.texts.proofs.StoredSteps.{up_within}
use Rattle.texts.proofs.StoredExprs.{expr_fail, expr_go}
use Rattle.texts.proofs.ChainReads.{expr_bytes, expr_ends}
use Rattle.texts.proofs.ChainLaws.{none_waits}

-- ── the code of one operator more ──

module _ (g : Option Taken) (c : Chain) (a : StoredTree) (before : List ℕ) (t : Taken)
    (i : g ≡ Some t) (d : Chain) (w : d ≡ pushed c t.op a t.end) (from : ℕ) (le : from ≤ length before)
    (at : c.len ≤ length before → from ≡ c.len) (right : List ℕ)
    (long : length right ≡ length (take (length before - from) (drop from before))) (x : ℕ) (is : x ≡ code t.op)
    (put : a.len < length (take (length before - from) (drop from before))
    → take (a.len + 1) right ≡ x ∷ take a.len (take (length before - from) (drop from before))) where
  part : c.len ≤ length before → take (length before - from) (drop from before) ≡ drop c.len before
  part h =
      let e = at h in
      take_all (length before - from) (drop from before) (omega (arith, length-drop from before))
      ∙ ap (λ (m : ℕ). drop m before) e

  code_first : c.len + (1 + a.len) ≤ length before
      → take (1 + a.len) right ≡ code t.op ∷ take a.len (drop c.len before)
  code_first h =
      let e = part (omega (arith, h)) in
      let lt : a.len < length (take (length before - from) (drop from before)) =
      rw e (omega (arith, h, length-drop c.len before)) in
      let q : 1 + a.len ≡ a.len + 1 = omega arith in
      rw q (put lt ∙ rw (is, e) refl)

  pub link_goes : LinkMade g c a before (put_mid from (length before - from) before right)
      (link.Waits d)
  link_goes =
      let j = joined_part c.len from before right le at long in
      record {
        by = t;
        is_by = i;
        waits = record {
          is_pushed = w;
          long = j.long;
          front = j.front;
          back = λ h. rw (j.back (omega (arith, h))) (code_first h);
        };
      }

-- where g is the reader's operator behind the atom a, which p still is
module _ (names : Names) (n : ℕ) (s : List ℕ) (at k b : ℕ) (ge : tightest_level ≤ k) (c : Chain) (a p : StoredTree)
    (level : ℕ) (here : a.next ≡ at) (before out after : List ℕ) (g : Option Taken) (r : Link)
    (i : WithinTaken s p.next g)
    (w : SameTaken s (taken_in k level (operator_at (drop p.next s))) g) (m : LinkMade g c p out after r)
    (same : (p ≡ a) × (level ≡ atom_level) × (out ≡ before)) where
  made : LinkMade g c a before after r
  made =
      subst (λ (l : List ℕ). LinkMade g c a l after r) same.2
      (subst (λ (x : StoredTree). LinkMade g c x out after r) same.0 m)

  within : WithinTaken s a.next g
  within = subst (λ (x : StoredTree). WithinTaken s x.next g) same.0 i

  taken_by : SameTaken s (taken_in k atom_level (operator_at (drop a.next s))) g
  taken_by =
      subst (λ (x : ℕ). SameTaken s (taken_in k x (operator_at (drop a.next s))) g) same.1
      (subst (λ (x : StoredTree). SameTaken s (taken_in k level (operator_at (drop x.next s))) g) same.0 w)

  closed : (t : StoredTree) → LinkMade g c a before after (link.Whole t) → Closes s k c a before after t
  closed t q =
      record {
        is_taken = is_missing_lem s (taken_in k atom_level (operator_at (drop a.next s))) g q.0 taken_by;
        is_whole = q.1;
        kept = q.2;
      }

  linked : (d : Chain) → Linked g c a before after d → Pushes s k c a before after d
  linked d q =
      let u = is_found s a.next (taken_in k atom_level (operator_at (drop a.next s))) g q.by q.is_by
      within taken_by in
      record {
        op = q.by.op;
        end = q.by.end;
        is_taken = u.found;
        low = u.low;
        high = u.high;
        waits = q.waits;
      }

  pub rest_link : RestMade names n s at k b c a before after (Some r)
  rest_link = go r made
    where
      go : (r : Link) → LinkMade g c a before after r → RestMade names n s at k b c a before after (Some r)
      go (link.Whole t) q = record { ends = λ lt. absurd (omega (arith, lt, ge)); closes = λ _. closed t q }
      go (link.Waits d) q = (ge, linked d q)

-- the whole expression at a looser level
pub rest_ends : (names : Names) (n : ℕ) (s : List ℕ) (at k b : ℕ) → k < tightest_level → (c : Chain) (a : StoredTree)
    (before after : List ℕ) (t : StoredTree)
    → TreeWithin s at at a.len t → MoreStored names n s at k atom_level b (held a before) (Some (held t after))
    → RestMade names n s at k b c a before after (Some (link.Whole t))
rest_ends names n s at k b lt c a before after t w m =
    record { ends = λ _. (w, m); closes = λ le. absurd (omega (arith, lt, le)) }

-- ── the chain ──

pub chain_none : (names : Names) (n : ℕ) (s : List ℕ) (at k b : ℕ) (out : List ℕ) → at ≤ length s
    → ChainStored names n s at k b (no_chain at) out
chain_none names n s at k b out hi = record {
  low = omega arith;
  high = hi;
  grown = omega arith;
  flat = omega arith;
  few = omega arith;
  fails = λ E. E;
  goes = λ y bytes long front lo hi E.
      subst (λ (t : StoredTree). ExprStored names n s at k b (Some (held t bytes))) (sym (none_waits at y)) E;
}

-- where no operand comes
pub chain_fails : (names : Names) (n : ℕ) (s : List ℕ) (at k b : ℕ) (c : Chain) (out : List ℕ)
    → ChainStored names n s at k b c out → AtomStored names n s c.next b None → ExprStored names n s at k b None
chain_fails names n s at k b c out C A = C.fails (expr_fail names n s c.next k b A)

module _ (names : Names) (n : ℕ) (s : List ℕ) (at k b : ℕ) (c : Chain) (out part mid : List ℕ)
    (C : ChainStored names n s at k b c out) (j : Joined c.len out part mid) (a : StoredTree)
    (A : AtomStored names n s c.next b (Some (held a part))) (p : TreeWithin s (c.next + 1) c.next 0 a) where
  back : 0 < a.len → a.len ≤ length (drop c.len mid) → drop c.len mid ≡ part
  back some h = j.back (omega (arith, h, some, length-drop c.len mid, j.long))

  pub chain_ends : (t : StoredTree) (after : List ℕ) → Closes s k c a mid after t
      → TreeWithin s (at + 1) at 0 t × ExprStored names n s at k b (Some (held t after))
  chain_ends t after x =
      let E = expr_ends names n s k b c.next (held a part) A (omega (arith, p.0)) p.1 x.is_taken in
      let F = C.goes a mid j.long (λ h. j.front (omega (arith, h))) (omega (arith, p.0)) p.1
      (expr_bytes names n s c.next k b a part (drop c.len mid) back E) in (
        rw x.is_whole (
          omega (arith, C.low, p.0),
          p.1,
          omega (arith, C.grown, p.2),
          deep_le C.flat (omega (arith, C.few, p.3)),
        ),
        rw (x.is_whole, x.kept) F,
      )
    where
      deep_le : c.deep ≤ c.len → c.ops + a.depth ≤ c.len + a.len
          → max c.deep (c.ops + a.depth) ≤ c.len + a.len
      deep_le q r = omega arith

-- ── the whole expression ──

module _ (names : Names) (n : ℕ) (s : List ℕ) (at k b : ℕ) (c : Chain) (out part mid : List ℕ)
    (C : ChainStored names n s at k b c out) (only : k < tightest_level → c ≡ no_chain at)
    (j : Joined c.len out part mid) (a : StoredTree) (A : AtomStored names n s c.next b (Some (held a part)))
    (p : TreeWithin s (c.next + 1) c.next 0 a) where
  -- at a looser level none waits
  module _ (lt : k < tightest_level) where
    starts : c.next ≡ at
    starts = ap (λ (d : Chain). d.next) (only lt)

    start : AtomStored names n s at b (Some (held a mid))
    start =
        let cl : c.len ≡ 0 = ap (λ (d : Chain). d.len) (only lt) in
        let whole : drop c.len mid ≡ part = j.back (omega (arith, cl)) in
        subst (λ (x : ℕ). AtomStored names n s x b (Some (held a mid))) starts
        (subst (λ (l : List ℕ). AtomStored names n s c.next b (Some (held a l))) (sym (rw cl at whole)) A)

    goes : (r : Option TreeBytes) → MoreStored names n s a.next k atom_level b (held a mid) r
        → ExprStored names n s at k b r
    goes r m = expr_go names n s at k b (held a mid) start (omega (arith, p.0, starts)) p.1 r m

  pub rest_fails : (after : List ℕ) → RestMade names n s a.next k b c a mid after None
      → ExprStored names n s at k b None
  rest_fails after r = goes r.0 None r.1

  pub rest_whole : (after : List ℕ) (x : StoredTree) → WholeMade names n s a.next k b c a mid after x
      → TreeWithin s (at + 1) at 0 x × ExprStored names n s at k b (Some (held x after))
  rest_whole after x R = go (ltb k tightest_level) refl
    where
      loose : k < tightest_level → TreeWithin s (at + 1) at 0 x × ExprStored names n s at k b (Some (held x after))
      loose lt =
          let q = R.ends lt in (
            up_within s a.next a.next a.len (at + 1) at 0 (Some x) (omega (arith, p.0, starts lt))
                (omega (arith, p.2, starts lt)) q.0,
            goes lt (Some (held x after)) q.1,
          )

      go : (t : Bool) → ltb k tightest_level ≡ t
          → TreeWithin s (at + 1) at 0 x × ExprStored names n s at k b (Some (held x after))
      go true t = loose (ltb-true k tightest_level t)
      go false t = chain_ends names n s at k b c out part mid C j a A p x after
          (R.closes (ltb-false k tightest_level t))
