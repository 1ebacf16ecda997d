-- What the code tests of the lines that it holds says which rule their forms break.
use mathlib.Core.Path.{◌≡◌, refl}
use mathlib.Core.List.{List, [], ◌∷◌}
use mathlib.Core.Option.{Option, none, some}
use Prim.Native.Nat.{ℕ, zero, suc, ◌<◌}
use native.Mathlib.Omega.{arith}
use lib.ListN.{length, get_elem?}
use Rattle.std.specs.Prelude.{Option as CodeOption, is_none as code_none}
use Rattle.texts.specs.declared.stored_trees.StoredTree.{StoredTree}
use Rattle.base.specs.Lists.{is_none}
use Rattle.rules.specs.Trees.{Tree}
use Rattle.rules.specs.Fields.{Width, fixed, measured, rest, is_fixed_width, is_rest_width}
use Rattle.texts.specs.HeldNames.{Names}
use Rattle.texts.specs.Kinds as kind
use Rattle.texts.specs.HeldParts.{MaybeHeld, WidthHeld}
use Rattle.texts.specs.declared.kinds.Width.{Width as CodeWidth}

-- ── kinds and conditions, as the code holds them ──

module _ (names : Names) (n : ℕ) where
  pub fixed_kind_lem : (v : Width (List ℕ)) (w : CodeWidth) (b : List ℕ) → WidthHeld names n v w b
      → kind.is_fixed w ≡ is_fixed_width v
  fixed_kind_lem (fixed m) w b h = rw h refl
  fixed_kind_lem (measured u v) w b h = rw h.1 refl
  fixed_kind_lem rest w b h = rw h refl

  pub rest_kind_lem : (v : Width (List ℕ)) (w : CodeWidth) (b : List ℕ) → WidthHeld names n v w b
      → kind.is_rest w ≡ is_rest_width v
  rest_kind_lem (fixed m) w b h = rw h refl
  rest_kind_lem (measured u v) w b h = rw h.1 refl
  rest_kind_lem rest w b h = rw h refl

  pub none_held : (o : Option (Tree (List ℕ))) (r : CodeOption StoredTree) (b : List ℕ) → MaybeHeld names n o r b
      → code_none r ≡ is_none o
  none_held none r b h = rw h refl
  none_held (some v) r b h = rw h.1 refl

pub element_at : {A : Type 0} (l : List A) (i : ℕ) → i < length l → (x : A) × (get_elem? l i ≡ some x)
element_at [] i lt = absurd (omega arith)
element_at (y ∷ l) zero lt = (y, refl)
element_at (y ∷ l) (suc i) lt = element_at l i (omega arith)

pub element_in : {A : Type 0} (l : List A) (i : ℕ) (x : A) → get_elem? l i ≡ some x → i < length l
element_in [] i x e = absurd (let z : ◌≡◌ {A = ℕ} 0 1 = cc in omega arith)
element_in (y ∷ l) zero x e = omega arith
element_in (y ∷ l) (suc i) x e = let q = element_in l i x e in omega arith
