-- Where bytes stand in a list: parts joined and split, the byte in front, and the end.
use mathlib.Core.Path.{◌≡◌, refl, sym, ◌∙◌, ap}
use mathlib.Core.List.{List, [], ◌∷◌, ◌++◌, append_assoc, append-nil}
use Prim.Native.Nat.{ℕ, ◌+◌, ◌<◌, ◌≤◌}
use native.Mathlib.Omega.{arith}
use native.Mathlib.Nat.{add-zero}
use native.Mathlib.Numerals.{add-one}
use lib.ListN.{length, get_or, take, drop, length-append, length-drop, take-append-drop, drop_of_length-le}
use lib.Seq.{get_or-drop, drop-drop, drop-append_seam, drop-cons, length-take-le}
use Rattle.laws.specs.Places.{Stands, IsBytes, two_at, four_at}

-- ── lists from a place on ──

pub drop_more : (s : List ℕ) (at : ℕ) (w r : List ℕ) → drop at s ≡ w ++ r → drop (at + length w) s ≡ r
drop_more s at w r e = sym (drop-drop (length w) at s) ∙ ap (drop (length w)) e ∙ drop-append_seam w r

pub front_in : (s : List ℕ) (at x : ℕ) (l : List ℕ) → drop at s ≡ x ∷ l → at < length s
front_in s at x l e = omega (arith, simp length-drop at (ap length e))

pub front_is : (s : List ℕ) (at x : ℕ) (l : List ℕ) → drop at s ≡ x ∷ l → get_or s at 0 ≡ x
front_is s at x l e =
    ap (λ (n : ℕ). get_or s n 0) (sym (add-zero at))
    ∙ sym (get_or-drop at s 0 0)
    ∙ ap (λ (m : List ℕ). get_or m 0 0) e

pub drop_front : (s : List ℕ) (at next : ℕ) → at < length s → next ≡ at + 1 → drop at s ≡ get_or s at 0 ∷ drop next s
drop_front s at next lt e = rw (e, add-one, drop-cons s at 0)

-- ── joined and split ──

pub stands_none : (s : List ℕ) (a : ℕ) → Stands s a [] a
stands_none s a = record { text = refl; end = omega arith }

pub stands_join : (s : List ℕ) (a b c : ℕ) (w u : List ℕ) → Stands s a w b → Stands s b u c → Stands s a (w ++ u) c
stands_join s a b c w u p q = record {
  text = rw (p.text, q.text, append_assoc w u (drop c s));
  end = omega (arith, p.end, q.end, length-append w u);
}

pub stands_left : (s : List ℕ) (a c : ℕ) (w u : List ℕ) → Stands s a (w ++ u) c → Stands s a w (a + length w)
stands_left s a c w u p =
    let e : drop a s ≡ w ++ (u ++ drop c s) = p.text ∙ append_assoc w u (drop c s) in
    record { text = e ∙ ap (λ (r : List ℕ). w ++ r) (sym (drop_more s a w (u ++ drop c s) e)); end = refl }

pub stands_right : (s : List ℕ) (a c : ℕ) (w u : List ℕ) → Stands s a (w ++ u) c → Stands s (a + length w) u c
stands_right s a c w u p =
    let e : drop a s ≡ w ++ (u ++ drop c s) = p.text ∙ append_assoc w u (drop c s) in
    record { text = drop_more s a w (u ++ drop c s) e; end = omega (arith, p.end, length-append w u) }

-- ── the byte in front ──

pub stands_in : (s : List ℕ) (a b x : ℕ) (w : List ℕ) → Stands s a (x ∷ w) b → a < length s
stands_in s a b x w p = front_in s a x (w ++ drop b s) p.text

pub stands_byte : (s : List ℕ) (a b x : ℕ) (w : List ℕ) → Stands s a (x ∷ w) b → get_or s a 0 ≡ x
stands_byte s a b x w p = front_is s a x (w ++ drop b s) p.text

pub stands_rest : (s : List ℕ) (a b x : ℕ) (w : List ℕ) → Stands s a (x ∷ w) b → Stands s (a + 1) w b
stands_rest s a b x w p = stands_right s a b (x ∷ []) w p

-- the place past the front byte may be written in any way
pub stands_next : (s : List ℕ) (a m b x : ℕ) (w : List ℕ) → m ≡ a + 1 → Stands s a (x ∷ w) b → Stands s m w b
stands_next s a m b x w e p = rw e (stands_rest s a b x w p)

pub stands_front : (s : List ℕ) (a m b x : ℕ) (w : List ℕ) → a < length s → m ≡ a + 1 → get_or s a 0 ≡ x
    → Stands s m w b
    → Stands s a (x ∷ w) b
stands_front s a m b x w lt f e p = record {
  text = rw (drop_front s a m lt f, e, p.text);
  end = omega (arith, f, p.end);
}

-- ── the end, and a part by its place ──

pub stands_end : (s : List ℕ) (a b : ℕ) (w : List ℕ) → Stands s a w b → a ≤ length s → b ≤ length s
stands_end s a b w p le =
    omega (arith, p.end, le, simp (length-drop, length-append) at (ap length p.text))

pub stands_some : (s : List ℕ) (a b x : ℕ) (w : List ℕ) → Stands s a (x ∷ w) b → b ≤ length s
stands_some s a b x w p =
    let lt = stands_in s a b x w p in
    stands_end s a b (x ∷ w) p (omega arith)

pub stands_part : (s : List ℕ) (a n : ℕ) → a + n ≤ length s → Stands s a (take n (drop a s)) (a + n)
stands_part s a n le =
    let m : n ≤ length (drop a s) = omega (arith, le, length-drop a s) in record {
      text = sym (take-append-drop n (drop a s)) ∙ ap (λ (r : List ℕ). take n (drop a s) ++ r) (drop-drop n a s);
      end = omega (arith, length-take-le n (drop a s) m);
    }

pub stands_all : (s : List ℕ) → Stands s 0 s (length s)
stands_all s = record {
  text = sym (append-nil s) ∙ ap (λ (r : List ℕ). s ++ r) (sym (drop_of_length-le s {i = length s} (omega arith)));
  end = omega arith;
}

-- ── numbers in two bytes and in four ──

pub two_below : (s : List ℕ) (a : ℕ) → IsBytes s → two_at s a < 65536
unfolding two_at
two_below s a h = omega (arith, h a, h (a + 1))

pub four_below : (s : List ℕ) (a : ℕ) → IsBytes s → four_at s a < 4294967296
unfolding four_at
four_below s a h = omega (arith, two_below s a h, two_below s (a + 2) h)
