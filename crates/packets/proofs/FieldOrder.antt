-- What the parts of a record say of its field to the fields behind it: marks, bits, rows and the rest field.
use mathlib.Core.Path.{◌≡◌, refl, ap}
use mathlib.Core.Bool.{Bool, true, false, cond, ◌&&◌, ◌||◌, not}
use mathlib.Core.List.{List, [], ◌∷◌, ◌++◌, map}
use mathlib.Core.Option.{Option, none, some}
use Prim.Native.Nat.{ℕ, zero, suc, ◌+◌, ◌%◌}
use native.Mathlib.Omega.{arith}
use native.Mathlib.Nat.{add-zero}
use lib.Dec.{leb, eqb}
use lib.ListN.{length}
use borrow.Author.Tests.{ne_eqb}
use Rattle.base.specs.Lists.{any, is_empty, is_none, if_any, list_of}
use Rattle.base.proofs.Lists.{not_both}
use Rattle.rules.specs.Names.{is_short}
use Rattle.rules.specs.Trees.{Tree}
use Rattle.rules.specs.Fields.{Width, fixed, measured, rest, Field, is_rest, fixed_bits}
use Rattle.rules.specs.Within.{keeps_rest, is_readable, index_readable, rows_fit}
use Rattle.rules.specs.Stored.{kind_number, stored_expression, stored_name, stored_maybe}
use Rattle.names.proofs.PadLaws.{short_held}
use Rattle.packets.specs.declared.records.Parts.{Parts}
use Rattle.packets.specs.StoredTrees.{marked}
use Rattle.packets.specs.PartsStand.{WidthStands, PartsStand}
use Rattle.packets.specs.FieldTest.{order_test, mark_by, mark_of, bits_of}
use Rattle.packets.proofs.PartBytes.{bytes_are, in_length, stored_positive}

-- ── marks ──

abbrev pub mark : Field ℕ → ℕ
mark f = cond (is_readable (some f)) 1 0

abbrev pub marks_of : List (Field ℕ) → List ℕ
marks_of l = map mark l

mark_true : (b : Bool) → eqb (cond b 1 0) 1 ≡ b
mark_true true = refl
mark_true false = refl

marked_at : (l : List (Field ℕ)) (i : ℕ) → marked (marks_of l) i ≡ index_readable l i
marked_at [] i = refl
marked_at (f ∷ l) zero = mark_true (is_readable (some f))
marked_at (f ∷ l) (suc i) = marked_at l i

pub marked_readable : (l : List (Field ℕ)) → marked (marks_of l) ≡ index_readable l
marked_readable l = λ k i. marked_at l i k

pub marks_end : (l : List (Field ℕ)) (f : Field ℕ) → marks_of (l ++ (f ∷ [])) ≡ marks_of l ++ (mark f ∷ [])
marks_end [] f = refl
marks_end (g ∷ l) f = ap (λ (m : List ℕ). mark g ∷ m) (marks_end l f)

-- a short name is not empty
named_length : (o : Option (List ℕ)) → if_any is_short o ≡ true → eqb (length (stored_name o)) 0 ≡ is_empty (list_of o)
named_length none h = refl
named_length (some []) h = absurd (not_both false (short_held [] h).1 refl)
named_length (some (x ∷ w)) h = ne_eqb (suc (length w)) 0 (λ e. omega arith)

-- a field has a name by which it may be read where it has a short name, or its label b is such a word
named_mark : (o : Option (List ℕ)) (b : Bool) (l : List ℕ)
    → ◌≡◌ {A = ℕ} (cond b 1 (cond (is_empty (list_of o)) 0 1))
    (cond (not (is_empty (list_of o ++ cond b (l ∷ []) []))) 1 0)
named_mark none true l = refl
named_mark none false l = refl
named_mark (some w) true l = refl
named_mark (some w) false l = refl

module _ (s : List ℕ) (p : Parts) where
  pub mark_is : (f : Field ℕ) → PartsStand s p f → if_any is_short f.short ≡ true → mark_of s p ≡ mark f
  unfolding mark_by
  mark_is f st h = go f.width refl
    where
      l : eqb p.short.len 0 ≡ is_empty (list_of f.short)
      l = rw (in_length s p.short (stored_name f.short) st.short) (named_length f.short h)

      go : (w : Width ℕ) → f.width ≡ w → mark_of s p ≡ mark f
      go (fixed n) e =
          rw (st.kind, e, l, bytes_are s p.label f.label st.label)
          (named_mark f.short (is_short f.label) f.label)
      go (measured u t) e = rw (st.kind, e)
      go rest e = rw (st.kind, e)

  pub bits_are : (f : Field ℕ) → PartsStand s p f → bits_of p ≡ fixed_bits f
  unfolding bits_of
  bits_are f st = go f.width st.kind st.width refl
    where
      go : (w : Width ℕ) → p.kind ≡ kind_number w → WidthStands s p.number p.tree w → f.width ≡ w
          → bits_of p ≡ fixed_bits f
      go (fixed n) k d e = rw (k, e) d
      go (measured u t) k d e = rw (k, e)
      go rest k d e = rw (k, e)

  pub rest_is : (f : Field ℕ) → PartsStand s p f → eqb p.kind 14 ≡ is_rest f
  rest_is f st = go f.width st.kind refl
    where
      go : (w : Width ℕ) → p.kind ≡ kind_number w → f.width ≡ w → eqb p.kind 14 ≡ is_rest f
      go (fixed n) k e = rw (k, e)
      go (measured u t) k e = rw (k, e)
      go rest k e = rw (k, e)

-- ── rows and the rest field ──

-- a field of the width may stand at the place
abbrev pub fits_row : ℕ → ℕ → Width ℕ → Bool
fits_row w place (fixed n) = leb (place % w + n) w
fits_row w place (measured u t) = eqb (place % w) 0
fits_row w place rest = eqb (place % w) 0

pub rows_step : (w place : ℕ) (f : Field ℕ) (l : List (Width ℕ))
    → rows_fit w place (f.width ∷ l) ≡ (fits_row w place f.width && rows_fit w (place + fixed_bits f) l)
unfolding rows_fit
rows_step w place f l = go f.width refl
  where
    go : (x : Width ℕ) → f.width ≡ x
        → rows_fit w place (f.width ∷ l) ≡ (fits_row w place f.width && rows_fit w (place + fixed_bits f) l)
    go (fixed n) e = rw e
    go (measured u t) e = rw (e, add-zero place)
    go rest e = rw (e, add-zero place)

missing : (o : Option (Tree ℕ)) → eqb (length (stored_maybe o)) 0 ≡ is_none o
missing none = refl
missing (some t) = ne_eqb (length (stored_expression t)) 0 (λ e. omega (arith, e, stored_positive t))

or_false : (b : Bool) → (b || false) ≡ b
or_false true = refl
or_false false = refl

-- the test of the order is the rows' and the rest field's
pub order_is : (s : List ℕ) (p : Parts) (f : Field ℕ) (before : List (Field ℕ)) (w place : ℕ) → PartsStand s p f
    → order_test w place (any is_rest before) p ≡ (fits_row w place f.width && keeps_rest before f)
unfolding order_test
order_is s p f before w place st = go f.width st.kind st.width refl
  where
    l : eqb p.condition.len 0 ≡ is_none f.condition
    l = rw (in_length s p.condition (stored_maybe f.condition) st.condition) (missing f.condition)

    go : (x : Width ℕ) → p.kind ≡ kind_number x → WidthStands s p.number p.tree x → f.width ≡ x
        → order_test w place (any is_rest before) p ≡ (fits_row w place f.width && keeps_rest before f)
    go (fixed n) k d e = rw (k, e, d, l)
    go (measured u t) k d e = rw (k, e, or_false (not (any is_rest before)))
    go rest k d e = rw (k, e, or_false (not (any is_rest before)))

pub any_end : {A : Type 0} (p : A → Bool) (l : List A) (x : A) → any p (l ++ (x ∷ [])) ≡ (any p l || p x)
unfolding any
any_end p [] x = or_false (p x)
any_end p (y ∷ l) x = go (p y) (any_end p l x)
  where
    go : (b : Bool) → any p (l ++ (x ∷ [])) ≡ (any p l || p x)
        → (b || any p (l ++ (x ∷ []))) ≡ ((b || any p l) || p x)
    go true h = refl
    go false h = h
