-- Widths at a place of a text, against the reader over what is left of it.
use mathlib.Core.Path.{◌≡◌, refl, sym, ◌∙◌}
use mathlib.Core.Bool.{Bool, true, false, cond, ◌&&◌, ◌||◌}
use mathlib.Core.List.{List}
use mathlib.Core.Option.{none, some}
use Prim.Native.Nat.{ℕ, ◌+◌, ◌≤◌, max}
use native.Mathlib.Omega.{arith}
use lib.Dec.{eqb}
use lib.ListN.{length, drop}
use Rattle.base.specs.Bytes.{bytes}
use Rattle.base.specs.Lists.{same}
use Rattle.rules.specs.Trees.{Tree, num, read, two, negation, depth, stored_tree, stored_length, le4}
use Rattle.rules.specs.Fields.{rest}
use Rattle.rules.specs.Within.{is_width}
use Rattle.text_laws.specs.Reader.{word, behind}
use Rattle.text_laws.specs.LineReader.{Got, miss, hit, bind, keep, literal, begins, read_tree, unit_of, read_unit}
use Rattle.text_laws.specs.LineReader.{width_of, read_measure, read_width}
use Rattle.texts.proofs.OptionLaws.{some_pair}
use Rattle.texts.specs.FieldPlaces.{SameBits, WithinBits}
use Rattle.texts.specs.PartPlaces.{spaced_unit, is_unit}
use Rattle.std.specs.Prelude.{Option, None, Some}
use Rattle.text_laws.proofs.Combine.{Holds, holds_given, holds_bind}
use Rattle.texts.proofs.FieldNames.{literal_at, literal_none}

-- ── units ──

unit_bits : (w : List ℕ) (u : ℕ) → unit_of w ≡ some u → is_unit u ≡ true
unfolding unit_of
unit_bits w u = go (same w (bytes "bit") || same w (bytes "bits")) (same w (bytes "byte") || same w (bytes "bytes"))
  where
    go : (a b : Bool) → cond a (some 1) (cond b (some 8) none) ≡ some u → is_unit u ≡ true
    go true b e = let q : 1 ≡ u = cc in rw (← q) refl
    go false true e = let q : 8 ≡ u = cc in rw (← q) refl
    go false false e = let z : ◌≡◌ {A = ℕ} 0 1 = cc in absurd (omega arith)

holds_units : (z : List ℕ) → Holds (λ u q. is_unit u ≡ true) (spaced_unit z)
unfolding spaced_unit read_unit
holds_units z =
    holds_bind (λ _ q. Unit {0}) (λ u q. is_unit u ≡ true) (literal (bytes " ") z) (λ _ p. read_unit p)
    (always (literal (bytes " ") z))
    (λ _ p x. holds_given (λ u q. is_unit u ≡ true) (unit_of (word p)) (behind p) (λ u e. unit_bits (word p) u e))
  where
    always : (g : Got (Unit {0})) → Holds (λ _ q. Unit {0}) g
    always miss = tt
    always (hit a r) = tt

module _ (s : List ℕ) (at : ℕ) (r : Option (ℕ × ℕ)) (h : SameBits s (spaced_unit (drop at s)) r) where
  pub bits_none : r ≡ None → spaced_unit (drop at s) ≡ miss
  unfolding SameBits
  bits_none = go (spaced_unit (drop at s)) h
    where
      go : (g : Got ℕ) → SameBits s g r → r ≡ None → g ≡ miss
      go miss h e = refl
      go (hit u q) h e = let e' = h.1 in cc

  pub bits_some : {u n : ℕ} → r ≡ Some (u, n) → spaced_unit (drop at s) ≡ hit u (drop n s)
  unfolding SameBits
  bits_some {u} {n} = go u n (spaced_unit (drop at s)) h
    where
      go : (u n : ℕ) (g : Got ℕ) → SameBits s g r → r ≡ Some (u, n) → g ≡ hit u (drop n s)
      go u n miss h e = let z : ◌≡◌ {A = ℕ} 0 1 = cc in absurd (omega arith)
      go u n (hit v q) h e =
          let p = some_pair u v n h.0 (sym e ∙ h.1) in let e' = p.0 in let m = p.1 in let f = h.2 in cc

  pub bits_unit : {u n : ℕ} → r ≡ Some (u, n) → is_unit u ≡ true
  bits_unit e = go _ _ (spaced_unit (drop at s)) (holds_units (drop at s)) (bits_some e)
    where
      go : (u : ℕ) (q : List ℕ) (g : Got ℕ) → Holds (λ u q. is_unit u ≡ true) g → g ≡ hit u q → is_unit u ≡ true
      go u q miss h e = let z : ◌≡◌ {A = ℕ} 0 1 = cc in absurd (omega arith)
      go u q (hit v p) h e = let k : v ≡ u = cc in rw (← k) h

pub bits_within : (s : List ℕ) (at : ℕ) {r : Option (ℕ × ℕ)} {u n : ℕ} → r ≡ Some (u, n) → WithinBits s at r
    → (at ≤ n) × (n ≤ length s)
unfolding WithinBits
bits_within s at e w = rw e at w

bits_up : (s : List ℕ) (at : ℕ) (r : Option (ℕ × ℕ)) → WithinBits s (at + 1) r → WithinBits s at r
unfolding WithinBits
bits_up s at None w = tt
bits_up s at (Some (u, n)) w = (omega arith, w.1)

spaced_there : (z q : List ℕ) → literal (bytes " ") z ≡ hit tt q → spaced_unit z ≡ read_unit q
unfolding spaced_unit
spaced_there z q l = rw l refl

spaced_none : (z : List ℕ) → literal (bytes " ") z ≡ miss → spaced_unit z ≡ miss
unfolding spaced_unit
spaced_none z l = rw l refl

module _ (s : List ℕ) (at : ℕ) (le : at ≤ length s) where
  pub spaced_room : begins (bytes " ") (drop at s) ≡ true → at + 1 ≤ length s
  spaced_room y = (literal_at (bytes " ") s at le y).0

  pub spaced_yes : (r : Option (ℕ × ℕ)) → begins (bytes " ") (drop at s) ≡ true → WithinBits s (at + 1) r
      → SameBits s (read_unit (drop (at + 1) s)) r → WithinBits s at r × SameBits s (spaced_unit (drop at s)) r
  spaced_yes r y w h =
      let l = (literal_at (bytes " ") s at le y).1 in
      (bits_up s at r w, rw (spaced_there (drop at s) (drop (at + 1) s) l) h)

  pub spaced_no : begins (bytes " ") (drop at s) ≡ false
      → WithinBits s at None × SameBits s (spaced_unit (drop at s)) None
  unfolding WithinBits SameBits
  spaced_no n = (tt, rw (spaced_none (drop at s) (literal_none (bytes " ") (drop at s) n)) refl)

-- ── single numbers ──

depth_some : (t : Tree (List ℕ)) → 1 ≤ depth t
unfolding depth
depth_some (num n) = omega arith
depth_some (read a) = omega arith
depth_some (two o a b) = omega arith
depth_some (negation a) = omega arith

pub record Single (t : Tree (List ℕ)) : Type 0 where
  pub value : ℕ
  pub is_num : t ≡ num value

pub single : (t : Tree (List ℕ)) → depth t ≡ 1 → stored_length t ≡ 5 → Single t
unfolding depth stored_tree
single (num n) p q = record { value = n; is_num = refl }
single (read a) p q = absurd (omega arith)
single (two o a b) p q =
    let h = depth_some a in let m : max (depth a) (depth b) ≡ 0 = omega arith in absurd (omega arith)
single (negation a) p q = let h = depth_some a in absurd (omega arith)

pub one_single : (m d z : ℕ) → depth {N = List ℕ} (num m) ≡ d → stored_length {N = List ℕ} (num m) ≡ z
    → (eqb d 1 && eqb z 5) ≡ true
unfolding depth stored_tree le4
one_single m d z p q = rw (← p, ← q) refl

-- ── measures ──

pub measure_none : (z : List ℕ) → read_tree z ≡ miss → read_measure z ≡ miss
unfolding read_measure
measure_none z e = rw e refl

pub measure_is : (z : List ℕ) (t : Tree (List ℕ)) (q : List ℕ) → read_tree z ≡ hit t q
    → read_measure z ≡ bind (spaced_unit q) (λ u p. keep (is_width (width_of u t)) (width_of u t) p)
unfolding read_measure spaced_unit
measure_is z t q e = rw e (go (literal (bytes " ") q))
  where
    go : (g : Got (Unit {0}))
        → bind g (λ _ p. bind (read_unit p) (λ u q. keep (is_width (width_of u t)) (width_of u t) q))
        ≡ bind (bind g (λ _ p. read_unit p)) (λ u p. keep (is_width (width_of u t)) (width_of u t) p)
    go miss = refl
    go (hit a r) = refl

-- ── widths ──

pub variable_there : (z q : List ℕ) → begins (bytes "variable") z ≡ true → literal (bytes "variable") z ≡ hit tt q
    → read_width z ≡ hit rest q
unfolding read_width
variable_there z q y l = rw (y, l) refl

pub variable_none : (z : List ℕ) → begins (bytes "variable") z ≡ false → read_width z ≡ read_measure z
unfolding read_width
variable_none z n = rw n refl
