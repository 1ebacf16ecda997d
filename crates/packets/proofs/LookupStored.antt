-- Fields by name and by index, for a stored description.
use mathlib.Core.Path.{◌≡◌, refl, sym, ◌∙◌, ap}
use mathlib.Core.Bool.{Bool, true, false, cond, ◌||◌, false≢true}
use mathlib.Core.List.{List, [], ◌∷◌, ◌++◌, append_assoc}
use mathlib.Core.Option.{Option, none, some}
use Prim.Native.Nat.{ℕ, zero, suc, ◌+◌, ◌-◌, ◌%◌, ◌<◌, ◌≤◌}
use native.Mathlib.Omega.{arith}
use native.Mathlib.Nat.{add-zero}
use native.Mathlib.Numerals.{add-one}
use lib.ListN.{length, take, drop, get_elem?, length-append}
use lib.Seq.{take_at}
use borrow.Author.Tests.{le-ltb, eq-eqb, ne_eqb}
use Rattle.base.specs.Lists.{all, any, same, if_any, list_of, first_break}
use Rattle.laws.specs.Places.{Stands, two_at}
use Rattle.laws.proofs.Places.{stands_left, stands_right, stands_some}
use Rattle.base.proofs.Breaks.{first_break_cons}
use Rattle.std.specs.Prelude.{Ok}
use Rattle.rules.specs.Names.{is_label, is_short}
use Rattle.rules.specs.Fields.{Field, field_names}
use Rattle.rules.specs.Within.{keeps_form, keeps_size}
use Rattle.rules.specs.Stored.{stored_name, stored_field, records, records_in}
use Rattle.rules.specs.Answers.{accepted, of_field}
use Rattle.rules.specs.Promises.{first_named}
use Rattle.laws.proofs.ReadsFields.{formed_parts}
use Rattle.writing.specs.declared.spans.Span.{Span}
use Rattle.packets.specs.declared.records.Parts.{Parts}
use Rattle.packets.specs.Parts.{table_most, ending, parts_at}
use Rattle.packets.specs.PartsStand.{In, PartsStand}
use Rattle.packets.specs.Lookups.{place_from, is_named_in, has_name, find_from}
use Rattle.packets.proofs.RecordLaws.{record_parts}
use Rattle.packets.proofs.FieldBounds.{field_bounds}

-- a part with some bytes in it is compared; an empty one is no name
named_some : (s : List ℕ) (p : Span) (name : List ℕ) (x : ℕ) (w : List ℕ) → In s p (x ∷ w)
    → is_named_in s p name ≡ same name (x ∷ w)
unfolding is_named_in
named_some s p name x w l =
    let n : p.len ≡ length (x ∷ w) = omega (arith, l.end) in
    let inside = stands_some s p.at (ending p) x w l in
    let t : take p.len (drop p.at s) ≡ x ∷ w
    = rw l.text (take_at (x ∷ w) (drop (ending p) s) p.len (sym n)) in
    let z : p.len ≡ 0 → ⊥ = λ e. omega arith in
    rw (
      ne_eqb p.len 0 z,
      le-ltb (length s) p.at (omega arith),
      le-ltb (length s - p.at) p.len (omega arith),
      t,
    )

named_none : (s : List ℕ) (p : Span) (name : List ℕ) → In s p [] → is_named_in s p name ≡ false
unfolding is_named_in
named_none s p name l = rw (eq-eqb p.len 0 (omega (arith, l.end)))

named_label : (s : List ℕ) (p : Span) (name l : List ℕ) → is_label l ≡ true → In s p l
    → is_named_in s p name ≡ same name l
unfolding is_label all
named_label s p name [] h i = absurd (false≢true h)
named_label s p name (x ∷ l) h i = named_some s p name x l i

or_false : (b : Bool) → b ≡ b || false
or_false true = refl
or_false false = refl

named_short : (s : List ℕ) (p : Span) (name : List ℕ) (o : Option (List ℕ)) → if_any is_short o ≡ true
    → In s p (stored_name o) → is_named_in s p name ≡ any (same name) (list_of o)
unfolding is_short any
named_short s p name none h i = named_none s p name i
named_short s p name (some []) h i = absurd (false≢true h)
named_short s p name (some (x ∷ w)) h i = named_some s p name x w i ∙ or_false (same name (x ∷ w))

has_name_lem : (s : List ℕ) (p : Parts) (name : List ℕ) (f : Field ℕ) → is_label f.label ≡ true
    → if_any is_short f.short ≡ true → PartsStand s p f → has_name s p name ≡ any (same name) (field_names f)
unfolding has_name any
has_name_lem s p name f l h q =
    rw (named_label s p.label name f.label l q.label, named_short s p.short name f.short h q.short)

-- ── one record after the other ──

module _ (numbers : ℕ → ℕ) (s : List ℕ) (end : ℕ) (r : List ℕ) (short : end ≤ table_most) where
  -- what is known of the record in front
  record Front (k : ℕ) (f : Field ℕ) (fs : List (Field ℕ)) (before : List (Field ℕ)) (place : ℕ) : Type 0 where
    formed : first_break keeps_form (before ++ (f ∷ [])) fs ≡ none
    sized : first_break keeps_size (before ++ (f ∷ [])) fs ≡ none
    label : is_label f.label ≡ true
    name : if_any is_short f.short ≡ true
    parts : PartsStand s (parts_at s place) f
    number : two_at s (place + 4) ≡ numbers k % 65536
    next : (parts_at s place).next ≡ place + length (stored_field (numbers k) f)
    more : Stands s (place + length (stored_field (numbers k) f)) (records numbers (suc k) fs ++ r) end
    low : place ≤ table_most

  front : (k : ℕ) (f : Field ℕ) (fs before : List (Field ℕ)) (place : ℕ) → first_break keeps_form before (f ∷ fs) ≡ none
      → first_break keeps_size before (f ∷ fs) ≡ none → Stands s place (records numbers k (f ∷ fs) ++ r) end
      → Front k f fs before place
  unfolding records_in
  front k f fs before place hf hs p =
      let kf = first_break_cons keeps_form before f fs hf in
      let ks = first_break_cons keeps_size before f fs hs in
      let here = stored_field (numbers k) f in
      let p' : Stands s place (here ++ (records numbers (suc k) fs ++ r)) end
      = rw (append_assoc here (records numbers (suc k) fs) r) at p in
      let b = field_bounds f kf.0 ks.0 in
      let w = record_parts s place (place + length here) (numbers k) f b (stands_left s place end _ _ p') in
      let q = formed_parts f kf.0 in
      record {
        formed = kf.1;
        sized = ks.1;
        label = q.0;
        name = q.1;
        parts = w.0;
        number = w.3;
        next = w.1;
        more = stands_right s place end here _ p';
        low = omega (arith, p.end);
      }

  pub find_stored : (k : ℕ) (name : List ℕ) (fs before : List (Field ℕ)) (i place : ℕ)
      → first_break keeps_form before fs ≡ none
      → first_break keeps_size before fs ≡ none → Stands s place (records numbers k fs ++ r) end
      → of_field (find_from s name i (length fs) place) ≡ first_named name i fs
  unfolding find_from first_named of_field
  find_stored k name [] before i place hf hs p = refl
  find_stored k name (f ∷ fs) before i place hf hs p =
      let w = front k f fs before place hf hs p in
      let ih = find_stored (suc k) name fs (before ++ (f ∷ [])) (i + 1) (place + length (stored_field (numbers k) f))
      w.formed w.sized w.more in
      rw (
        le-ltb table_most place w.low,
        has_name_lem s (parts_at s place) name f w.label w.name w.parts,
        w.next,
      )
      (go (any (same name) (field_names f)) (ih ∙ ap (λ (n : ℕ). first_named name n fs) (add-one i)))
    where
      go : (b : Bool)
          → of_field (find_from s name (i + 1) (length fs) (place + length (stored_field (numbers k) f)))
          ≡ first_named name (suc i) fs
          → of_field (cond b (Ok i)
          (find_from s name (i + 1) (length fs) (place + length (stored_field (numbers k) f))))
          ≡ cond b (accepted i) (first_named name (suc i) fs)
      go true ih = refl
      go false ih = ih

  -- the record of an index that there is
  pub record Placed (k : ℕ) (fs : List (Field ℕ)) (i place : ℕ) : Type 0 where
    pub field : Field ℕ
    pub element : get_elem? fs i ≡ some field
    pub place_is : place_from s i place ≡ place + length (records numbers k (take i fs))
    pub number_is : two_at s (place_from s i place + 4) ≡ numbers (k + i) % 65536
    pub label_is : is_label field.label ≡ true
    pub short_is : if_any is_short field.short ≡ true
    pub parts_are : PartsStand s (parts_at s (place_from s i place)) field
    pub is_low : place_from s i place ≤ table_most

  pub place_stored : (k : ℕ) (fs before : List (Field ℕ)) (i place : ℕ) → first_break keeps_form before fs ≡ none
      → first_break keeps_size before fs ≡ none → Stands s place (records numbers k fs ++ r) end → i < length fs
      → Placed k fs i place
  unfolding place_from records_in
  place_stored k [] before i place hf hs p lt = absurd (omega arith)
  place_stored k (f ∷ fs) before zero place hf hs p lt = let w = front k f fs before place hf hs p in record {
    field = f;
    element = refl;
    place_is = omega arith;
    number_is = w.number ∙ ap (λ (j : ℕ). numbers j % 65536) (sym (add-zero k));
    label_is = w.label;
    short_is = w.name;
    parts_are = w.parts;
    is_low = w.low;
  }
  place_stored k (f ∷ fs) before (suc i) place hf hs p lt =
      let w = front k f fs before place hf hs p in
      let here = stored_field (numbers k) f in
      let ih = place_stored (suc k) fs (before ++ (f ∷ [])) i (place + length here) w.formed w.sized w.more
      (omega arith) in
      let one : suc k + i ≡ k + suc i = omega arith in
      let e : place_from s (suc i) place ≡ place_from s i (place + length here)
      = rw (le-ltb table_most place w.low, w.next) in
      record {
        field = ih.field;
        element = ih.element;
        place_is = e ∙ omega (arith, ih.place_is, length-append here (records numbers (suc k) (take i fs)));
        number_is = rw e (ih.number_is ∙ ap (λ (j : ℕ). numbers j % 65536) one);
        label_is = ih.label_is;
        short_is = ih.short_is;
        parts_are = rw e ih.parts_are;
        is_low = rw e ih.is_low;
      }

  -- the place behind so many records
  pub place_upto : (k : ℕ) (fs before : List (Field ℕ)) (i place : ℕ) → first_break keeps_form before fs ≡ none
      → first_break keeps_size before fs ≡ none → Stands s place (records numbers k fs ++ r) end → i ≤ length fs
      → place_from s i place ≡ place + length (records numbers k (take i fs))
  unfolding place_from records_in
  place_upto k fs before zero place hf hs p le = omega arith
  place_upto k [] before (suc i) place hf hs p le = absurd (omega arith)
  place_upto k (f ∷ fs) before (suc i) place hf hs p le =
      let w = front k f fs before place hf hs p in
      let here = stored_field (numbers k) f in
      let ih = place_upto (suc k) fs (before ++ (f ∷ [])) i (place + length here) w.formed w.sized w.more
      (omega arith) in
      rw (le-ltb table_most place w.low, w.next)
      (ih ∙ omega (arith, length-append here (records numbers (suc k) (take i fs))))
