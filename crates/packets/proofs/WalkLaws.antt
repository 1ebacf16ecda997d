-- The walk over the fields of a table passes where fields that keep their rules are stored, and only there.
use mathlib.Core.Path.{◌≡◌, refl, sym, subst, ◌∙◌, ap}
use mathlib.Core.Bool.{Bool, true, false, cond, ◌&&◌, ◌||◌}
use mathlib.Core.List.{List, [], ◌∷◌, ◌++◌}
use mathlib.Core.Option.{none}
use Prim.Native.Nat.{ℕ, zero, suc, ◌+◌, ◌%◌, ◌≤◌, ◌<◌}
use native.Mathlib.Omega.{arith}
use lib.Dec.{eqb}
use lib.ListN.{length, get_or}
use Rattle.base.specs.Lists.{all, any, if_any, first_break}
use Rattle.laws.specs.Places.{Stands, IsBytes, two_at}
use Rattle.base.proofs.Lists.{and_left, and_right, and_both}
use Rattle.laws.proofs.Places.{stands_none, stands_join, stands_left, stands_right}
use Rattle.base.proofs.Breaks.{first_break_cons}
use Rattle.rules.specs.declared.ValueType.TheVariants.{YesNo}
use Rattle.rules.specs.Trees.{le2, is_small, has_type}
use Rattle.rules.specs.Fields.{Field, is_rest, fixed_bits, trees}
use Rattle.rules.specs.Within.{
  is_formed,
  keeps_form,
  keeps_size,
  keeps_types,
  keeps_rest,
  width_has_type,
  index_readable,
  rows_fit,
  widths,
}
use Rattle.rules.specs.Stored.{record_of, kind_number, field_body, stored_field, stored_field_in, records, records_in}
use Rattle.laws.proofs.ReadsFields.{formed_parts}
use Rattle.std.specs.Prelude.{Option, Some, None}
use Rattle.std.proofs.lemmas.Option.{none-some}
use Rattle.packets.specs.Parts.{parts_at}
use Rattle.packets.specs.PartsStand.{PartsStand}
use Rattle.packets.specs.FieldTest.{trees_test, bounds_test, form_test, order_test, field_test, mark_of, bits_of}
use Rattle.packets.specs.NamesTest.{places_from}
use Rattle.packets.specs.TableTest.{walk_at}
use Rattle.packets.proofs.FieldTests.{Keeps, record_sound, record_complete}
use Rattle.packets.proofs.FieldOrder.{
  mark,
  marks_of,
  marked_readable,
  marks_end,
  mark_is,
  bits_are,
  rest_is,
  fits_row,
  rows_step,
  order_is,
  any_end,
}

-- ── one step ──

pub past_bad : (next : ℕ) → None ≡ Some next → ⊥
past_bad next e = none-some next e

module _ (w n : ℕ) (marks : List ℕ) (place : ℕ) (ended : Bool) (s : List ℕ) (at next : ℕ) where
  abbrev own : List ℕ
  own = marks ++ (mark_of s (parts_at s at) ∷ [])

  abbrev then : Option ℕ
  then =
      walk_at w n own (place + bits_of (parts_at s at)) (ended || eqb (parts_at s at).kind 14) s (parts_at s at).next

  pub walk_parts : walk_at w (suc n) marks place ended s at ≡ Some next
      → (field_test w place ended s at (parts_at s at) ≡ true) × (trees_test s marks own (parts_at s at) ≡ true)
      × (then ≡ Some next)
  unfolding walk_at
  walk_parts h = go (field_test w place ended s at (parts_at s at) && trees_test s marks own (parts_at s at)) refl h
    where
      go : (b : Bool) → (field_test w place ended s at (parts_at s at) && trees_test s marks own (parts_at s at)) ≡ b
          → cond b then None ≡ Some next
          → (field_test w place ended s at (parts_at s at) ≡ true) × (trees_test s marks own (parts_at s at) ≡ true)
          × (then ≡ Some next)
      go true e f = (
        and_left (field_test w place ended s at (parts_at s at)) _ e,
        and_right
            (field_test w place ended s at (parts_at s at)) _ e,
        f,
      )
      go false e f = absurd (none-some next f)

  pub walk_passes : field_test w place ended s at (parts_at s at) ≡ true → trees_test s marks own (parts_at s at) ≡ true
      → walk_at w (suc n) marks place ended s at ≡ then
  unfolding walk_at
  walk_passes e f = rw (e, f)

module _ (w place : ℕ) (ended : Bool) (s : List ℕ) (at : ℕ) where
  test_parts : field_test w place ended s at (parts_at s at) ≡ true
      → (bounds_test s at (parts_at s at) ≡ true) × (form_test s (parts_at s at) ≡ true)
      × (order_test w place ended (parts_at s at) ≡ true)
  unfolding field_test
  test_parts h =
      let r = and_right (bounds_test s at (parts_at s at)) _ h in (
        and_left (bounds_test s at (parts_at s at)) _ h,
        and_left (form_test s (parts_at s at)) _ r,
        and_right (form_test s (parts_at s at)) _ r,
      )

  test_whole : bounds_test s at (parts_at s at) ≡ true → form_test s (parts_at s at) ≡ true
      → order_test w place ended (parts_at s at) ≡ true → field_test w place ended s at (parts_at s at) ≡ true
  unfolding field_test
  test_whole a b c = rw (a, b) c

-- ── the fields from a place on, behind some fields ──

-- with the numbers from the index k on
pub record FieldsIn (numbers : ℕ → ℕ) (k w : ℕ) (before : List (Field ℕ)) (place : ℕ) (s : List ℕ) (at next : ℕ)
    (l : List (Field ℕ)) : Type 0 where
  pub stands : Stands s at (records numbers k l) next
  pub form : first_break keeps_form before l ≡ none
  pub size : first_break keeps_size before l ≡ none
  pub types : first_break (keeps_types index_readable) before l ≡ none
  pub rests : first_break keeps_rest before l ≡ none
  pub rows : rows_fit w place (widths l) ≡ true

-- the numbers from the index k on stand in the n records from a place on
abbrev pub KeptAt : (ℕ → ℕ) → ℕ → List ℕ → ℕ → ℕ → Type 0
KeptAt numbers k s n at =
    (j : ℕ) → j < n → le2 (numbers (k + j)) ≡ le2 (two_at s (get_or (places_from s n at) j 0 + 4))

break_cons : (keeps : List (Field ℕ) → Field ℕ → Bool) (before : List (Field ℕ)) (f : Field ℕ) (l : List (Field ℕ))
    → keeps before f ≡ true → first_break keeps (before ++ (f ∷ [])) l ≡ none → first_break keeps before (f ∷ l) ≡ none
unfolding first_break
break_cons keeps before f l e h = rw e h

-- the rules of a field by the marks are those by the fields
module _ (before : List (Field ℕ)) (f : Field ℕ) where
  keeps_types_lem : Keeps (marks_of before) (marks_of (before ++ (f ∷ []))) f
      → keeps_types index_readable before f ≡ true
  keeps_types_lem h =
      and_both (width_has_type (index_readable before) f.width) _
      (rw (marked_readable before) at h.width)
      (and_both (if_any (has_type (index_readable (before ++ (f ∷ []))) YesNo) f.constraint) _
      (rw (marked_readable (before ++ (f ∷ []))) at h.constraint)
      (rw (marked_readable before) at h.condition))

  types_keep : is_formed f ≡ true → all is_small (trees f) ≡ true → keeps_types index_readable before f ≡ true
      → Keeps (marks_of before) (marks_of (before ++ (f ∷ []))) f
  types_keep formed small h =
      let r = and_right (width_has_type (index_readable before) f.width) _ h in
      let c = if_any (has_type (index_readable (before ++ (f ∷ []))) YesNo) f.constraint in
      record {
        formed = formed;
        small = small;
        width = rw (marked_readable before) (and_left (width_has_type (index_readable before) f.width) _ h);
        constraint = rw (marked_readable (before ++ (f ∷ []))) (and_left c _ r);
        condition = rw (marked_readable before) (and_right c _ r);
      }

  own_marks : (x : ℕ) → x ≡ mark f → marks_of before ++ (x ∷ []) ≡ marks_of (before ++ (f ∷ []))
  own_marks x e = rw e (sym (marks_end before f))

-- ── sound ──

module _ (numbers : ℕ → ℕ) (k w n place : ℕ) (before : List (Field ℕ)) (s : List ℕ) (at next : ℕ) where
  fields_cons : (f : Field ℕ) (l : List (Field ℕ))
      → Keeps (marks_of before) (marks_of (before ++ (f ∷ []))) f → fits_row w place f.width ≡ true
      → keeps_rest before f ≡ true → Stands s at (stored_field (numbers k) f) (parts_at s at).next
      → FieldsIn numbers (suc k) w (before ++ (f ∷ [])) (place + fixed_bits f) s (parts_at s at).next next l
      → FieldsIn numbers k w before place s at next (f ∷ l)
  unfolding records_in
  fields_cons f l keeps row rests st h = record {
    stands = stands_join s at (parts_at s at).next next (stored_field (numbers k) f) (records numbers (suc k) l) st
        h.stands;
    form = break_cons keeps_form before f l keeps.formed h.form;
    size = break_cons keeps_size before f l keeps.small h.size;
    types = break_cons (keeps_types index_readable) before f l (keeps_types_lem before f keeps) h.types;
    rests = break_cons keeps_rest before f l rests h.rests;
    rows = rows_step w place f (widths l)
        ∙ and_both (fits_row w place f.width) _ row h.rows;
  }

  walk_cons : ((b : List (Field ℕ)) (q a : ℕ) → walk_at w n (marks_of b) q (any is_rest b) s a ≡ Some next
      → KeptAt numbers (suc k) s n a
      → (l : List (Field ℕ)) × (length l ≡ n) × FieldsIn numbers (suc k) w b q s a next l)
      → (f : Field ℕ) → PartsStand s (parts_at s at) f
      → Keeps (marks_of before) (marks_of before ++ (mark_of s (parts_at s at) ∷ [])) f
      → Stands s at (stored_field (two_at s (at + 4)) f) (parts_at s at).next
      → KeptAt numbers k s (suc n) at
      → order_test w place (any is_rest before) (parts_at s at) ≡ true
      → walk_at w n (marks_of before ++ (mark_of s (parts_at s at) ∷ [])) (place + bits_of (parts_at s at))
      (any is_rest before || eqb (parts_at s at).kind 14) s (parts_at s at).next ≡ Some next
      → (l : List (Field ℕ)) × (length l ≡ suc n) × FieldsIn numbers k w before place s at next l
  unfolding places_from stored_field_in
  walk_cons rec f ps keeps st kept order h =
      let p = parts_at s at in
      let short = (formed_parts f keeps.formed).1 in
      let o : marks_of before ++ (mark_of s p ∷ []) ≡ marks_of (before ++ (f ∷ [])) = own_marks before f (mark_of s p)
      (mark_is s p f ps short) in
      let e : (any is_rest before || eqb p.kind 14) ≡ any is_rest (before ++ (f ∷ [])) =
      rw (rest_is s p f ps) (sym (any_end is_rest before f)) in
      let kept_all : Keeps (marks_of before) (marks_of (before ++ (f ∷ []))) f = rw o at keeps in
      let b : (fits_row w place f.width && keeps_rest before f) ≡ true = sym (order_is s p f before w place ps)
      ∙ order in
      let z : k + 0 ≡ k = omega arith in
      let number : le2 (two_at s (at + 4)) ≡ le2 (numbers k) = sym (rw z at (kept 0 (omega arith))) in
      let same : stored_field (two_at s (at + 4)) f ≡ stored_field (numbers k) f =
      ap (λ (m : List ℕ). record_of (kind_number f.width) (m ++ field_body f)) number in
      let q = rec (before ++ (f ∷ [])) (place + fixed_bits f) p.next (rw (o, bits_are s p f ps, e) at h)
      (λ j lt. let m : k + suc j ≡ suc k + j = omega arith in rw m at (kept (suc j) (omega arith))) in (
        f ∷ q.0,
        ap suc q.1,
        fields_cons f q.0 kept_all (and_left (fits_row w place f.width) _ b)
            (and_right (fits_row w place f.width) _ b)
            (subst (λ (r : List ℕ). Stands s at r p.next) same st) q.2,
      )

pub walk_sound : (numbers : ℕ → ℕ) (k w n : ℕ) (before : List (Field ℕ)) (place : ℕ) (s : List ℕ) (at next : ℕ)
    → IsBytes s → KeptAt numbers k s n at
    → walk_at w n (marks_of before) place (any is_rest before) s at ≡ Some next
    → (l : List (Field ℕ)) × (length l ≡ n) × FieldsIn numbers k w before place s at next l
unfolding walk_at first_break records_in rows_fit
walk_sound numbers k w zero before place s at next b kept h = go (eqb (place % w) 0) refl h
  where
    go : (x : Bool) → eqb (place % w) 0 ≡ x → cond x (Some at) None ≡ Some next
        → (l : List (Field ℕ)) × (length l ≡ 0) × FieldsIn numbers k w before place s at next l
    go true e f =
        let m : at ≡ next = cc in (
          [],
          refl,
          record {
            stands = rw m (stands_none s next);
            form = refl;
            size = refl;
            types = refl;
            rests = refl;
            rows = e;
          },
        )
    go false e f = absurd (none-some next f)
walk_sound numbers k w (suc n) before place s at next b kept h =
    let p = parts_at s at in
    let ended = any is_rest before in
    let q = walk_parts w n (marks_of before) place ended s at next h in
    let t = test_parts w place ended s at q.0 in
    let r = record_sound s (marks_of before) (marks_of before ++ (mark_of s p ∷ [])) at b t.0 t.1 q.1 in
    walk_cons numbers k w n place before s at next
    (λ c u a g more. walk_sound numbers (suc k) w n c u s a next b more g) r.0 r.1 r.2 r.3 kept
    t.2 q.2

-- ── complete ──

walk_none : (w : ℕ) (marks : List ℕ) (place : ℕ) (ended : Bool) (s : List ℕ) (at next : ℕ) → rows_fit w place [] ≡ true
    → next ≡ at → walk_at w 0 marks place ended s at ≡ Some next
unfolding walk_at rows_fit
walk_none w marks place ended s at next r e = rw (r, e)

pub walk_complete : (numbers : ℕ → ℕ) (k w : ℕ) (before : List (Field ℕ)) (place : ℕ) (s : List ℕ) (at next : ℕ)
    (l : List (Field ℕ)) → next ≤ length s → FieldsIn numbers k w before place s at next l
    → walk_at w (length l) (marks_of before) place (any is_rest before) s at ≡ Some next
unfolding records_in
walk_complete numbers k w before place s at next [] le h = end h.rows h.stands.end
  where
    end : rows_fit w place [] ≡ true → next ≡ at + 0
        → walk_at w 0 (marks_of before) place (any is_rest before) s at ≡ Some next
    end r e = walk_none w (marks_of before) place (any is_rest before) s at next r (omega (arith, e))
walk_complete numbers k w before place s at next (f ∷ l) le h =
    let p = parts_at s at in
    let one = stored_field (numbers k) f in
    let mid = at + length one in
    let st = stands_left s at next one (records numbers (suc k) l) h.stands in
    let right = stands_right s at next one (records numbers (suc k) l) h.stands in
    let form = first_break_cons keeps_form before f l h.form in
    let size = first_break_cons keeps_size before f l h.size in
    let types = first_break_cons (keeps_types index_readable) before f l h.types in
    let rests = first_break_cons keeps_rest before f l h.rests in
    let rows = sym (rows_step w place f (widths l)) ∙ h.rows in
    let keeps = types_keep before f form.0 size.0 types.0 in
    let c = record_complete s (marks_of before) (marks_of (before ++ (f ∷ []))) at (numbers k) f mid keeps st
    (omega (arith, right.end, le)) in
    let short = (formed_parts f form.0).1 in
    let o : marks_of before ++ (mark_of s p ∷ []) ≡ marks_of (before ++ (f ∷ [])) = own_marks before f (mark_of s p)
    (mark_is s p f c.3 short) in
    let e : (any is_rest before || eqb p.kind 14) ≡ any is_rest (before ++ (f ∷ [])) =
    rw (rest_is s p f c.3) (sym (any_end is_rest before f)) in
    let order : order_test w place (any is_rest before) p ≡ true =
    order_is s p f before w place c.3
    ∙ and_both (fits_row w place f.width) _ (and_left (fits_row w place f.width) _ rows) rests.0 in
    walk_passes w (length l) (marks_of before) place (any is_rest before) s at next
    (test_whole w place (any is_rest before) s at c.0 c.1 order) (rw o c.2)
    ∙ rw (o, bits_are s p f c.3, e, c.4)
    (walk_complete numbers (suc k) w (before ++ (f ∷ [])) (place + fixed_bits f) s mid next l le (record {
      stands = right;
      form = form.1;
      size = size.1;
      types = types.1;
      rests = rests.1;
      rows = and_right (fits_row w place f.width) _ rows;
    }))
