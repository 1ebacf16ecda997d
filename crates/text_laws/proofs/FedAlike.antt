-- States that are alike stay so, whatever bytes follow, and end alike.
use mathlib.Core.Path.{◌≡◌, refl, ap, ap₂, sym, ◌∙◌, subst}
use mathlib.Core.Bool.{Bool, true, false, cond}
use mathlib.Core.List.{List, [], ◌∷◌, ◌++◌, foldl}
use Prim.Native.Nat.{ℕ, suc, ◌+◌, ◌≤◌}
use lib.Dec.{ltb, eqb}
use lib.ListN.{length}
use Rattle.base.proofs.Lists.{not_both}
use Rattle.rules.specs.Answers.{refused}
use Rattle.rules.specs.Limits.{text_most, line_most}
use Rattle.rules.specs.Names.{is_allowed, line_feed}
use Rattle.text_laws.specs.Fold.{Stage, lost, Found, Kept, losing, lined, is_lost, cut, put, over, fed}
use Rattle.text_laws.specs.Fold.{lowest_at, outcome, finish, Alike}
use Rattle.text_laws.proofs.Fed.{lost_stage, held}
use Rattle.text_laws.proofs.FedRuns.{lost_by, fed_lost, lost_by_stage, fed_bad}

-- ── what is alike ──

pub alike_refl : (a : Kept) → Alike a a
alike_refl a = record { found = refl; line = λ e. refl }

pub alike_sym : (a b : Kept) → Alike a b → Alike b a
alike_sym a b h = record {
  found = sym h.found;
  line = λ e. sym (h.line (ap (λ (f : Found). is_lost f.stage) h.found ∙ e));
}

pub alike_trans : (a b c : Kept) → Alike a b → Alike b c → Alike a c
alike_trans a b c h k = record {
  found = h.found ∙ k.found;
  line = λ e. h.line e ∙ k.line (ap (λ (f : Found). is_lost f.stage) (sym h.found) ∙ e);
}

-- where 1, 2 or 3 was found
pub alike_lost : (a b : Kept) → a.found ≡ b.found → a.found.stage ≡ lost → Alike a b
alike_lost a b e s = record {
  found = e;
  line = λ h. absurd (not_both (is_lost a.found.stage) (ap is_lost s) h);
}

-- and where not, states of one size are the same
pub alike_same : (a b : Kept) → Alike a b → a.size ≡ b.size → is_lost a.found.stage ≡ false → a ≡ b
alike_same a b h n e =
    ap (λ (m : ℕ). held m a.line a.found) n
    ∙ ap₂ {C = Kept} (λ (l : List ℕ) (f : Found). held b.size l f) (h.line e) h.found

-- behind a byte that is not allowed
pub bad_alike : (b : ℕ) (t : List ℕ) (k q : Kept) → is_allowed b ≡ false → k.size + suc (length t) ≤ text_most
    → q.found ≡ losing (refused 2 0) k.found → Alike (foldl fed k (b ∷ t)) q
bad_alike b t k q h le e =
    let is = fed_bad b t k h le in
    alike_lost (foldl fed k (b ∷ t)) q (is ∙ sym e) (ap (λ (f : Found). f.stage) is)

-- ── bytes ──

-- bytes so far, behind one more
size_byte : (k : Kept) (b : ℕ) → (fed k b).size ≡ cond (ltb k.size text_most) (suc k.size) k.size
unfolding fed
size_byte k b = go (ltb k.size text_most) (is_allowed b) (eqb b line_feed) (ltb (length k.line) line_most)
  where
    go : (x y z v : Bool)
        → (cond x
        (cond y (cond z (put k [] (lined k.found k.line))
        (cond v (put k (k.line ++ (b ∷ [])) k.found) (put k k.line (cut k.found))))
        (put k k.line (losing (refused 2 0) k.found)))
        (over k)).size ≡ cond x (suc k.size) k.size
    go true true true v = refl
    go true true false true = refl
    go true true false false = refl
    go true false z v = refl
    go false y z v = refl

same_size : (a b : Kept) (x : ℕ) → a.size ≡ b.size → (fed a x).size ≡ (fed b x).size
same_size a b x n =
    size_byte a x ∙ ap (λ (m : ℕ). cond (ltb m text_most) (suc m) m) n ∙ sym (size_byte b x)

alike_byte : (a b : Kept) (x : ℕ) → Alike a b → a.size ≡ b.size → Alike (fed a x) (fed b x)
alike_byte a b x h n = go (is_lost a.found.stage) refl
  where
    go : (y : Bool) → is_lost a.found.stage ≡ y → Alike (fed a x) (fed b x)
    go true e =
        let s = lost_stage a.found.stage e in
        let is = fed_lost a x s in
        let t : b.found.stage ≡ lost = ap (λ (f : Found). f.stage) (sym h.found) ∙ s in
        alike_lost (fed a x) (fed b x)
        (is ∙ ap₂ {C = Found} (λ (m : ℕ) (f : Found). lost_by m x f) n h.found ∙ sym (fed_lost b x t))
        (ap (λ (f : Found). f.stage) is ∙ lost_by_stage a.size x a.found s)
    go false e = subst (λ (q : Kept). Alike (fed a x) (fed q x)) (alike_same a b h n e) (alike_refl (fed a x))

pub fed_alike : (t : List ℕ) (a b : Kept) → Alike a b → a.size ≡ b.size → Alike (foldl fed a t) (foldl fed b t)
fed_alike [] a b h n = h
fed_alike (x ∷ t) a b h n = fed_alike t (fed a x) (fed b x) (alike_byte a b x h n) (same_size a b x n)

-- ── the end ──

pub finish_alike : (a b : Kept) (out : List ℕ) → Alike a b → finish a out ≡ finish b out
unfolding finish lowest_at
finish_alike a b out h = go (is_lost a.found.stage) refl
  where
    -- no line matters
    any_line_lem : (s : Stage) (l m : List ℕ) (f : Found) → s ≡ lost → lowest_at s l f ≡ lowest_at s m f
    any_line_lem s l m f e =
        ap (λ (z : Stage). lowest_at z l f) e ∙ sym (ap (λ (z : Stage). lowest_at z m f) e)

    go : (y : Bool) → is_lost a.found.stage ≡ y → finish a out ≡ finish b out
    go true e =
        ap (outcome a.found out)
        (any_line_lem a.found.stage a.line b.line a.found (lost_stage a.found.stage e))
        ∙ ap (λ (f : Found). outcome f out (lowest_at f.stage b.line f)) h.found
    go false e =
        ap₂ (λ (l : List ℕ) (f : Found). outcome f out (lowest_at f.stage l f)) (h.line e) h.found
