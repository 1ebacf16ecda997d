-- Pieces: what is kept of a joined text is what the second piece makes of what was kept of the first.
use mathlib.Core.Path.{◌≡◌, refl, sym, ◌∙◌}
use mathlib.Core.List.{List, [], ◌∷◌, ◌++◌, foldl, foldl-append}
use Prim.Native.Nat.{ℕ}
use Rattle.base.specs.Lists.{joined}
use Rattle.text_laws.specs.Fold.{Kept, fresh, fed, kept}

pub kept_joined : (t p : List ℕ) → kept (t ++ p) ≡ foldl fed (kept t) p
unfolding kept
kept_joined t p = foldl-append fed fresh t p

-- any number of pieces, cut anywhere, some with no bytes
all_pieces : (k : Kept) (ps : List (List ℕ)) → foldl (λ q p. foldl fed q p) k ps ≡ foldl fed k (joined (λ p. p) ps)
unfolding joined
all_pieces k [] = refl
all_pieces k (p ∷ ps) = all_pieces (foldl fed k p) ps ∙ sym (foldl-append fed k p (joined (λ q. q) ps))

pub kept_pieces : (ps : List (List ℕ)) → foldl (λ q p. foldl fed q p) fresh ps ≡ kept (joined (λ p. p) ps)
unfolding kept
kept_pieces ps = all_pieces fresh ps
