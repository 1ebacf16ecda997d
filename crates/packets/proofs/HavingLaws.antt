-- What is looked for is found in a stored table where its description has it.
use mathlib.Core.Path.{◌≡◌, refl, sym, subst, ap₂, ◌∙◌}
use mathlib.Core.Bool.{Bool, true, false, cond, ◌&&◌, ◌||◌, not}
use mathlib.Core.List.{List, [], ◌∷◌, ◌++◌, append_assoc}
use mathlib.Core.Option.{Option as Maybe, none, some}
use Prim.Native.Nat.{ℕ, zero, suc, ◌+◌, ◌-◌, ◌<◌, ◌≤◌}
use native.Mathlib.Omega.{arith}
use lib.ListN.{length, take, drop, length-append}
use lib.Dec.{ltb, eqb}
use native.Mathlib.Nat.{add-zero, zero-add}
use Rattle.std.specs.Prelude.{Option, Some, None, is_some}
use Rattle.std.specs.List.{position_or_len, enumerate_from}
use Rattle.std.proofs.lemmas.Option.{none-some, same_Some}
use Rattle.std.proofs.lemmas.List.FromFn.{length-enumerate_from}
use Rattle.packets.specs.declared.records.Parts.{Parts}
use Rattle.packets.specs.Lookups.{records_from}
use borrow.Author.Tests.{lt-ltb, le-ltb, ltb-true, ltb-false, eq-eqb, ne_eqb}
use Rattle.base.specs.Lists.{any, list_of, first_break}
use Rattle.base.proofs.Breaks.{first_break_cons}
use Rattle.laws.specs.Places.{Stands, two_at}
use Rattle.laws.proofs.Places.{stands_left, stands_right, stands_some}
use Rattle.rules.specs.Trees.{Tree, num, read, two, negation, stored_tree}
use Rattle.rules.specs.Fields.{Width, fixed, measured, rest, Field, width_trees, trees}
use Rattle.rules.specs.Within.{keeps_form, keeps_size}
use Rattle.rules.specs.Stored.{kind_number, stored_expression, stored_maybe, stored_field, records, records_in}
use Rattle.references.specs.declared.scans.Wanted.{Wanted}
use Rattle.references.specs.Scans.{codes_from, has_code}
use Rattle.references.proofs.ScanLaws.{any_append, tree_has, has_stored}
use Rattle.writing.specs.declared.spans.Span.{Span}
use Rattle.packets.specs.Parts.{table_most, ending, width_at, parts_at}
use Rattle.packets.specs.PartsStand.{In, WidthStands, PartsStand}
use Rattle.packets.specs.Expressions.{part_has, record_has, is_passed, has_it, having_from, FirstHaving}
use Rattle.packets.proofs.FieldBounds.{field_bounds}
use Rattle.packets.proofs.RecordLaws.{record_parts}
use Rattle.packets.proofs.LookupSteps.{records_few, missing_past, missing_empty}
use Rattle.packets.proofs.PartBytes.{bytes_are}

-- ── the loop ──

-- the index from k on of what stands q behind it, where m do, or the end of n
abbrev index_at : ℕ → ℕ → ℕ → ℕ → ℕ
index_at k n q m = cond (ltb q m) (k + q) (k + n)

one_behind : (k n q m : ℕ) → index_at (k + 1) n q m ≡ index_at k (suc n) (1 + q) (suc m)
one_behind k n q m =
    let e : k + 1 + q ≡ k + (1 + q) = omega arith in
    let f : k + 1 + n ≡ k + suc n = omega arith in
    rw (e, f) (go (ltb q m) refl)
  where
    go : (b : Bool) → ltb q m ≡ b → cond b (k + (1 + q)) (k + suc n) ≡ index_at k (suc n) (1 + q) (suc m)
    go true e = let h = ltb-true q m e in rw (lt-ltb (1 + q) (suc m) (omega arith))
    go false e = let h = ltb-false q m e in rw (le-ltb (1 + q) (suc m) (omega arith))

here_or_behind : (k n q m x : ℕ) (h : Bool) → x ≡ index_at k n (1 + q) (suc m)
    → cond h k x ≡ index_at k n (cond (not h) (1 + q) 0) (suc m)
here_or_behind k n q m x true e = rw (add-zero k, lt-ltb 0 (suc m) (omega arith))
here_or_behind k n q m x false e = e

-- the first record that has it, by how many stand before it
pub having_is : (w : Wanted) (s : List ℕ) (k n place : ℕ) → having_from w s k n place
    ≡ index_at k n (position_or_len (λ e. has_it w s e.1 e.0) (enumerate_from k (records_from s n place)))
    (length (enumerate_from k (records_from s n place)))
unfolding having_from records_from
having_is w s k zero place = sym (add-zero k)
having_is w s k (suc n) place =
    go (ltb table_most place)
    (here_or_behind k (suc n) (position_or_len test all) (length all) _ (has_it w s p k)
    (having_is w s (k + 1) n p.next ∙ one_behind k n (position_or_len test all) (length all)))
  where
    test : ℕ × Parts → Bool
    test e = has_it w s e.1 e.0

    p : Parts
    p = parts_at s place

    all : List (ℕ × Parts)
    all = enumerate_from (k + 1) (records_from s n p.next)

    go : {x : ℕ} (b : Bool)
        → x ≡ index_at k (suc n) (position_or_len test ((k, p) ∷ all)) (length ((k, p) ∷ all))
        → cond b (k + suc n) x
        ≡ index_at k (suc n) (position_or_len test (enumerate_from k (cond b [] (p ∷ records_from s n p.next))))
        (length (enumerate_from k (cond b [] (p ∷ records_from s n p.next))))
    go true e = refl
    go false e = e

-- the index, where one has it
pub first_is : (w : Wanted) (s : List ℕ) (r : Option ℕ)
    → r ≡ (let all = enumerate_from 0 (records_from s (two_at s 6) (two_at s 0)) in
    let q = position_or_len (λ e. has_it w s e.1 e.0) all in cond (ltb q (length all)) (Some q) None)
    → FirstHaving w s r
first_is w s r is = rw is (go (ltb q (length all)) refl)
  where
    n : ℕ
    n = two_at s 6

    all : List (ℕ × Parts)
    all = enumerate_from 0 (records_from s n (two_at s 0))

    q : ℕ
    q = position_or_len (λ e. has_it w s e.1 e.0) all

    go : (b : Bool) → ltb q (length all) ≡ b → FirstHaving w s (cond b (Some q) None)
    go true e =
        let few = records_few s n (two_at s 0) in
        let size = length-enumerate_from 0 (records_from s n (two_at s 0)) in
        let h = ltb-true q (length all) e in
        (having_is w s 0 n (two_at s 0) ∙ rw e (zero-add q), omega (arith, h, few, size))
    go false e = having_is w s 0 n (two_at s 0) ∙ rw e (zero-add n)

-- whether one has it
pub some_is : (w : Wanted) (s : List ℕ) (r : Option ℕ) → FirstHaving w s r
    → is_some r ≡ ltb (having_from w s 0 (two_at s 6) (two_at s 0)) (two_at s 6)
some_is w s None h = rw h (sym (le-ltb (two_at s 6) (two_at s 6) (omega arith)))
some_is w s (Some i) h = rw h.0 (sym (lt-ltb i (two_at s 6) h.1))

module _ (w : Wanted) (s : List ℕ) where
  pub first_some : (r : Option ℕ) (i : ℕ) → FirstHaving w s r → r ≡ Some i
      → (i ≡ having_from w s 0 (two_at s 6) (two_at s 0)) × (i < two_at s 6)
  first_some None i h e = absurd (none-some i e)
  first_some (Some j) i h e = let f = same_Some j i e in rw (← f) (sym h.0, h.1)

  pub first_none : (r : Option ℕ) → FirstHaving w s r → r ≡ None
      → two_at s 6 ≡ having_from w s 0 (two_at s 6) (two_at s 0)
  first_none None h e = sym h
  first_none (Some j) h e = absurd (none-some j (sym e))

-- ── an expression ──

module _ (w : Wanted) (s : List ℕ) (p : Span) where
  pub has_past : length s < ending p → part_has w s p ≡ false
  unfolding part_has
  has_past h = rw (missing_past s p h)

  -- nothing stands in no bytes
  pub has_there : ending p ≤ length s → part_has w s p ≡ has_code w (take p.len (drop p.at s))
  unfolding part_has has_code any codes_from
  has_there h = rw (missing_empty s p h) (go p.len)
    where
      go : (n : ℕ) → cond (eqb n 0 || false) false (has_code w (take n (drop p.at s)))
          ≡ has_code w (take n (drop p.at s))
      go zero = refl
      go (suc n) = rw (ne_eqb (suc n) 0 (λ e. omega (arith, e)))

-- ── the expressions of a field ──

abbrev pub field_has : Wanted → Field ℕ → Bool
field_has w f = any (tree_has w) (trees f)

-- a stored expression has bytes
first_byte : (t : Tree ℕ) → (x : ℕ) × (l : List ℕ) × (stored_expression t ≡ x ∷ l)
unfolding stored_tree
first_byte (num n) = (_, _, refl)
first_byte (read i) = (_, _, refl)
first_byte (two o a b) = (_, _, refl)
first_byte (negation a) = (_, _, refl)

module _ (w : Wanted) (s : List ℕ) where
  part_some : (p : Span) (t : Tree ℕ) → In s p (stored_expression t) → part_has w s p ≡ tree_has w t
  unfolding part_has
  part_some p t i =
      let b = first_byte t in
      let q : In s p (b.0 ∷ b.1) = subst (In s p) b.2 i in
      let inside = stands_some s p.at (ending p) b.0 b.1 q in
      let n : p.len ≡ suc (length b.1) = omega (arith, q.end) in
      let z : p.len ≡ 0 → ⊥ = λ e. omega (arith, e, n) in
      let m : p.at + p.len - p.at ≡ p.len = omega arith in
      let bytes : take p.len (drop p.at s) ≡ stored_expression t =
      rw m at (bytes_are s p (stored_expression t) i) in
      rw (
        ne_eqb p.len 0 z,
        le-ltb (length s) p.at (omega (arith, inside)),
        le-ltb (length s - p.at) p.len (omega (arith, inside)),
        bytes,
      ) (has_stored w t)

  part_none : (p : Span) → p.len ≡ 0 → part_has w s p ≡ false
  unfolding part_has
  part_none p e = rw (eq-eqb p.len 0 e)

  maybe_has : (p : Span) (o : Maybe (Tree ℕ)) → In s p (stored_maybe o) → part_has w s p ≡ any (tree_has w) (list_of o)
  unfolding any
  maybe_has p none i = part_none p (omega (arith, i.end))
  maybe_has p (some t) i = part_some p t i ∙ or_false (tree_has w t)
    where
      or_false : (b : Bool) → b ≡ (b || false)
      or_false true = refl
      or_false false = refl

  width_has : (at : ℕ) (v : Width ℕ) → two_at s (at + 2) ≡ kind_number v
      → WidthStands s (parts_at s at).number (parts_at s at).tree v
      → part_has w s (parts_at s at).tree ≡ any (tree_has w) (width_trees v)
  unfolding parts_at width_at any
  width_has at (fixed n) k i = rw k (part_none _ refl)
  width_has at (measured u t) k i = maybe_has _ (some t) i.1
  width_has at rest k i = rw k (part_none _ refl)

  record_has_lem : (at : ℕ) (f : Field ℕ) → PartsStand s (parts_at s at) f
      → record_has w s (parts_at s at) ≡ field_has w f
  unfolding parts_at
  record_has_lem at f q =
      let v = width_trees f.width in
      let c = list_of f.constraint in
      let d = list_of f.condition in
      rw (
        width_has at f.width q.kind q.width,
        maybe_has _ f.constraint q.constraint,
        maybe_has _ f.condition q.condition,
        any_append (tree_has w) v (c ++ d),
        any_append (tree_has w) c d,
      ) refl

-- ── all fields ──

-- the index of what was found, or the end
abbrev pub or_end : ℕ → Maybe ℕ → ℕ
or_end n none = n
or_end n (some i) = i

-- the field is passed over, or does not have it
abbrev pub lacks : Wanted → List (Field ℕ) → Field ℕ → Bool
lacks w before f = is_passed w (length before) || not (field_has w f)

not_it : (p h : Bool) → not (not p && h) ≡ (p || not h)
not_it true h = refl
not_it false h = refl

turned : (b : Bool) (x y : ℕ) → cond b x y ≡ cond (not b) y x
turned true x y = refl
turned false x y = refl

or_end_lem : (b : Bool) (n k : ℕ) (o : Maybe ℕ) → or_end n (cond b o (some k)) ≡ cond b (or_end n o) k
or_end_lem true n k o = refl
or_end_lem false n k o = refl

pub having_stored : (w : Wanted) (numbers : ℕ → ℕ) (k : ℕ) (s : List ℕ) (before fs : List (Field ℕ)) (place end : ℕ)
    (r : List ℕ) → first_break keeps_form before fs ≡ none → first_break keeps_size before fs ≡ none → end ≤ table_most
    → Stands s place (records numbers k fs ++ r) end
    → having_from w s (length before) (length fs) place
    ≡ or_end (length before + length fs) (first_break (lacks w) before fs)
unfolding having_from has_it records_in first_break
having_stored w numbers k s before [] place end r hf hs le p = omega arith
having_stored w numbers k s before (f ∷ fs) place end r hf hs le p =
    let kf = first_break_cons keeps_form before f fs hf in
    let ks = first_break_cons keeps_size before f fs hs in
    let here = stored_field (numbers k) f in
    let p' : Stands s place (here ++ (records numbers (suc k) fs ++ r)) end
    = rw (append_assoc here (records numbers (suc k) fs) r) at p in
    let q = record_parts s place (place + length here) (numbers k) f (field_bounds f kf.0 ks.0)
    (stands_left s place end _ _ p') in
    let more = before ++ (f ∷ []) in
    let ih = having_stored w numbers (suc k) s more fs (place + length here) end r kf.1 ks.1 le
    (stands_right s place end here _ p') in
    let one : length more ≡ length before + 1 = length-append before (f ∷ []) in
    let all_of : length before + 1 + length fs ≡ length before + suc (length fs) = omega arith in
    let n = length before in
    let passed = is_passed w n in
    let next : having_from w s (n + 1) (length fs) (place + length here)
    ≡ or_end (n + suc (length fs)) (first_break (lacks w) more fs) =
    rw (one, all_of) at ih in
    rw (le-ltb table_most place (omega (arith, p.end)), record_has_lem w s place f q.0, q.1)
    (turned (not passed && field_has w f) n _
    ∙ ap₂ {C = ℕ} (λ (b : Bool) (m : ℕ). cond b m n) (not_it passed (field_has w f)) next
    ∙ sym (or_end_lem (passed || not (field_has w f)) (n + suc (length fs)) n _))
