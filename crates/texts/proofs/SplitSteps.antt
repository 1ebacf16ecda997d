-- The pieces of a text from a place on, one by one, as the code reads them.
use mathlib.Core.Path.{◌≡◌, refl, ◌∙◌}
use mathlib.Core.List.{List, [], ◌∷◌}
use Prim.Native.Nat.{ℕ, suc, ◌+◌, ◌-◌, ◌≤◌, ◌<◌}
use native.Mathlib.Omega.{arith}
use lib.ListN.{length, take, drop, length-drop}
use lib.Seq.{drop-drop, drop-length, length-take-le}
use Rattle.text_laws.specs.FrameReader.{pieces, rest}
use Rattle.texts.specs.FramePlaces.{up_to}
use Rattle.texts.proofs.FrameLeaves.{pieces_first, pieces_none}
use Rattle.texts.proofs.RowLeaves.{rest_first}

module _ (e : ℕ) (s : List ℕ) (at i : ℕ) (h : i ≡ at + up_to e (drop at s)) where
  inside : i < length s → up_to e (drop at s) < length (drop at s)
  inside lt = omega (arith, h, lt, length-drop at s)

  -- the piece that ends at i
  pub piece_at : i < length s → pieces e (drop at s) ≡ take (i - at) (drop at s) ∷ pieces e (drop (i + 1) s)
  piece_at lt = pieces_first e (drop at s) (inside lt) ∙ go (up_to e (drop at s)) (omega (arith, h)) (omega (arith, h))
    where
      go : (u : ℕ) → u ≡ i - at → at + suc u ≡ i + 1
          → take u (drop at s) ∷ pieces e (drop (suc u) (drop at s))
          ≡ take (i - at) (drop at s) ∷ pieces e (drop (i + 1) s)
      go u p q = rw (drop-drop (suc u) at s, q, p) refl

  pub rest_at : i < length s → rest e (drop at s) ≡ rest e (drop (i + 1) s)
  rest_at lt = rest_first e (drop at s) (inside lt) ∙ go (up_to e (drop at s)) (omega (arith, h))
    where
      go : (u : ℕ) → at + suc u ≡ i + 1 → rest e (drop (suc u) (drop at s)) ≡ rest e (drop (i + 1) s)
      go u q = rw (drop-drop (suc u) at s, q) refl

  pub piece_length : i < length s → length (take (i - at) (drop at s)) ≡ i - at
  piece_length lt = length-take-le (i - at) (drop at s) (omega (arith, h, lt, length-drop at s))

  -- no piece is left
  pub piece_none : at ≤ length s → i ≤ length s → length s ≤ i
      → (pieces e (drop at s) ≡ []) × (rest e (drop at s) ≡ drop at s)
  piece_none le le' ge = pieces_none e (drop at s) (omega (arith, h, le, le', ge, length-drop at s))

pub pieces_end : (e : ℕ) (s : List ℕ) (at : ℕ) → length s ≤ at → at ≤ length s
    → (pieces e (drop at s) ≡ []) × (rest e (drop at s) ≡ [])
unfolding pieces rest
pieces_end e s at le le' = let q : at ≡ length s = omega arith in rw (q, drop-length s) (refl, refl)
