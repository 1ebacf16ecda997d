-- What may be read, and the types of a description's expressions and of the forms of its lines. The five rules as one.
use mathlib.Core.Path.{◌≡◌, refl, sym, ◌∙◌}
use mathlib.Core.Bool.{Bool, true, false, cond, ◌&&◌, ◌||◌, not}
use mathlib.Core.List.{List, [], ◌∷◌, ◌++◌, append_assoc}
use mathlib.Core.Option.{Option, none, some, map, map-eq-none_iff, none-ne-some, some-injective}
use Prim.Native.Nat.{ℕ, suc}
use lib.ListN.{get_elem?}
use Rattle.base.specs.Lists.{any, same, Each, first_break, is_empty, or_else}
use Rattle.base.proofs.Lists.{and_left, and_right, and_both, not_both}
use Rattle.base.proofs.Lookups.{each_any, each_breaks, each_joined, test_eq, element_front, element_any}
use Rattle.rules.specs.declared.ValueType.{ValueType}
use Rattle.rules.specs.Trees.{has_type}
use Rattle.rules.specs.Fields.{Field, Form, is_fixed, read_names}
use Rattle.rules.specs.Within.{
  keeps_size,
  keeps_names,
  keeps_types,
  keeps_rest,
  is_readable,
  index_readable,
  name_readable,
}
use Rattle.rules.specs.Answers.{Answer, refused}
use Rattle.rules.specs.Frames.{Frame, cells, line_number}
use Rattle.rules.specs.Spelling.{mismatch, NameOf}
use Rattle.rules.specs.Refusals.{rule_broken}
use Rattle.text_laws.specs.Resolving.{first_index}
use Rattle.text_laws.proofs.Named.{named_type}
use Rattle.text_laws.proofs.NamedFields.{NamedField, same_fixed_width, same_if_any, same_type_width}
use Rattle.laws.proofs.NameLaws.{name_unique_in}

-- the first element that passes a test
pub any_element : {A : Type 0} (p : A → Bool) (l : List A) → any p l ≡ true
    → (x : A) × (get_elem? l (first_index p l) ≡ some x) × (p x ≡ true)
unfolding any first_index
any_element p [] h = absurd (not_both false h refl)
any_element {A} p (y ∷ l) h = go (p y) refl h (any_element p l)
  where
    go : (b : Bool) → p y ≡ b → b || any p l ≡ true
        → (any p l ≡ true → (x : A) × (get_elem? l (first_index p l) ≡ some x) × (p x ≡ true))
        → (x : A) × (get_elem? (y ∷ l) (cond b 0 (suc (first_index p l))) ≡ some x) × (p x ≡ true)
    go true e k f = (y, refl, e)
    go false e k f = f k

-- ── what may be read ──

-- the field may be read by the name w
abbrev read_by : {N : Type 0} → List ℕ → Field N → Bool
read_by w f = is_fixed f && any (same w) (read_names f)

some_name : (w : List ℕ) (o : List (List ℕ)) → any (same w) o ≡ true → not (is_empty o) ≡ true
unfolding any
some_name w [] h = absurd (not_both false h refl)
some_name w (x ∷ l) h = refl

-- among the first fields: by index, and by a name of that index
module _ (before after : List (Field ℕ)) (kept : first_break keeps_names [] (before ++ after) ≡ none) where
  index_read : (i : ℕ) (w : List ℕ) → NameOf (before ++ after) i w
      → index_readable before i ≡ any (read_by w) before
  index_read i w n = test_eq (index_readable before i) (any (read_by w) before) (to (get_elem? before i) refl) from
    where
      to : (o : Option (Field ℕ)) → get_elem? before i ≡ o → is_readable o ≡ true → any (read_by w) before ≡ true
      to none e h = absurd (not_both false h refl)
      to (some g) e h =
          let g_is : g ≡ n.0 =
          some-injective g n.0 (sym (element_front before after i g e) ∙ n.1) in
          let named : any (same w) (read_names g) ≡ true = rw g_is n.2 in
          element_any (read_by w) before i g e
          (and_both (is_fixed g) (any (same w) (read_names g))
          (and_left (is_fixed g) (not (is_empty (read_names g))) h) named)

      from : any (read_by w) before ≡ true → index_readable before i ≡ true
      from h =
          let p = any_element (read_by w) before h in
          let j = first_index (read_by w) before in
          let g = p.0 in
          let named : any (same w) (read_names g) ≡ true = and_right (is_fixed g) (any (same w) (read_names g)) p.2 in
          let is : j ≡ i =
          name_unique_in (before ++ after) kept j i w (g, element_front before after j g p.1, named) n in
          let e : get_elem? before i ≡ some g = rw is at p.1 in
          rw e (and_both (is_fixed g) (not (is_empty (read_names g)))
          (and_left (is_fixed g) (any (same w) (read_names g)) p.2) (some_name w (read_names g) named))

  pub same_readable : (R : ℕ → List ℕ → Type 0) (earlier : List Form) → Each (NamedField R) before earlier
      → (i : ℕ) (w : List ℕ) → NameOf (before ++ after) i w → index_readable before i ≡ name_readable earlier w
  same_readable R earlier h i w n =
      index_read i w n
      ∙ each_any (NamedField R) (read_by w) (read_by w) (λ f g m. rw (same_fixed_width m.width, m.label, m.short))
      before earlier h

-- ── the types ──

pub same_types : (fields : List (Field ℕ)) (forms : List Form) → first_break keeps_names [] fields ≡ none
    → Each (NamedField (NameOf fields)) fields forms
    → first_break (keeps_types index_readable) [] fields ≡ first_break (keeps_types name_readable) [] forms
same_types fields forms kept h =
    each_breaks (NamedField R) (keeps_types index_readable) (keeps_types name_readable) [] [] fields forms tt h one
  where
    R : ℕ → List ℕ → Type 0
    R = NameOf fields

    may : (b a : List (Field ℕ)) (e : List Form) → fields ≡ b ++ a → Each (NamedField R) b e
        → (i : ℕ) (w : List ℕ) → R i w → index_readable b i ≡ name_readable e w
    may b a e u p i w n = same_readable b a (rw u at kept) R e p i w (rw u at n)

    one : (b : List (Field ℕ)) (x : Field ℕ) (a : List (Field ℕ)) (e : List Form) (y : Form) (c : List Form)
        → fields ≡ b ++ (x ∷ a) → forms ≡ e ++ (y ∷ c) → Each (NamedField R) b e → NamedField R x y
        → keeps_types index_readable b x ≡ keeps_types name_readable e y
    one b x a e y c u v p n =
        let f = may b (x ∷ a) e u p in
        let own : (i : ℕ) (w : List ℕ) → R i w → index_readable (b ++ (x ∷ [])) i ≡ name_readable (e ++ (y ∷ [])) w =
        may (b ++ (x ∷ [])) a (e ++ (y ∷ [])) (u ∙ sym (append_assoc b (x ∷ []) a))
        (each_joined (NamedField R) b e p (x ∷ []) (y ∷ []) (n, tt)) in
        rw (
          same_type_width (index_readable b) (name_readable e) f n.width,
          same_if_any (has_type (index_readable (b ++ (x ∷ []))) ValueType.YesNo)
              (has_type (name_readable (e ++ (y ∷ []))) ValueType.YesNo)
              (λ t u. named_type (index_readable (b ++ (x ∷ []))) (name_readable (e ++ (y ∷ []))) own ValueType.YesNo)
              n.constraint,
          same_if_any (has_type (index_readable b) ValueType.YesNo) (has_type (name_readable e) ValueType.YesNo)
              (λ t u. named_type (index_readable b) (name_readable e) f ValueType.YesNo) n.condition,
        )

-- ── the five rules ──

-- 6 to 10 are kept
pub record Kept (f : Frame) (forms : List Form) : Type 0 where
  pub size : first_break keeps_size [] forms ≡ none
  pub shown : mismatch 0 (cells f) forms ≡ none
  pub names : first_break keeps_names [] forms ≡ none
  pub types : first_break (keeps_types name_readable) [] forms ≡ none
  pub rests : first_break keeps_rest [] forms ≡ none

or_none : {A : Type 0} (a b : Option A) → or_else a b ≡ none → (a ≡ none) × (b ≡ none)
or_none none b h = (refl, h)
or_none (some a) b h = absurd (none-ne-some a (sym h))

pub kept_rules : (f : Frame) (forms : List Form) → Kept f forms → rule_broken f forms ≡ none
unfolding rule_broken
kept_rules f forms k = rw (k.size, k.shown, k.names, k.types, k.rests)

pub rules_kept : (f : Frame) (forms : List Form) → rule_broken f forms ≡ none → Kept f forms
unfolding rule_broken
rules_kept f forms h =
    let a = or_none (at 6 (first_break keeps_size [] forms)) _ h in
    let b = or_none (at 7 (mismatch 0 (cells f) forms)) _ a.1 in
    let c = or_none (at 8 (first_break keeps_names [] forms)) _ b.1 in
    let d = or_none (at 9 (first_break (keeps_types name_readable) [] forms)) _ c.1 in
    record {
      size = out 6 (first_break keeps_size [] forms) a.0;
      shown = out 7 (mismatch 0 (cells f) forms) b.0;
      names = out 8 (first_break keeps_names [] forms) c.0;
      types = out 9 (first_break (keeps_types name_readable) [] forms) d.0;
      rests = out 10 (first_break keeps_rest [] forms) d.1;
    }
  where
    at : ℕ → Option ℕ → Option Answer
    at number i = map (λ n. refused number (line_number f n)) i

    out : (number : ℕ) (i : Option ℕ) → at number i ≡ none → i ≡ none
    out number i e = (map-eq-none_iff (λ n. refused number (line_number f n)) i).0 e
