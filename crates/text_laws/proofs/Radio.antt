-- What R-9 asks of pieces, on lists: the answer at the end, and what any state answers.
use mathlib.Core.Path.{◌≡◌, refl, sym, subst}
use mathlib.Core.Bool.{Bool, true, false, cond}
use mathlib.Core.List.{List, foldl}
use mathlib.Core.Option.{Option, none, some}
use Prim.Native.Nat.{ℕ}
use lib.Dec.{ltb}
use lib.ListN.{length}
use Rattle.base.specs.Lists.{joined}
use Rattle.rules.specs.Answers.{Answer, accepted, refused}
use Rattle.rules.specs.Stored.{stored}
use Rattle.rules.specs.Promises.{Outcome, leaves, overlaid, delivered, ReadsText}
use Rattle.text_laws.proofs.TextResults.{text_unique}
use Rattle.text_laws.specs.Fold.{Kept, fresh, fed, kept, lowest_of, found_description, outcome, finish}
use Rattle.text_laws.proofs.Pieces.{kept_pieces}
use Rattle.text_laws.proofs.Answering.{kept_answers}

-- the fold's outcome is the only one
pub kept_settles : (text out : List ℕ) (o : Outcome) → ReadsText text out o → o ≡ finish (kept text) out
kept_settles text out o h = text_unique text out o (finish (kept text) out) h (kept_answers text out)

-- pieces from a fresh start, each state handed on: the outcome is that of the joined text
pub pieces_answer : (ps : List (List ℕ)) (out : List ℕ)
    → ReadsText (joined (λ p. p) ps) out (finish (foldl (λ q p. foldl fed q p) fresh ps) out)
pieces_answer ps out =
    subst (λ (k : Kept). ReadsText (joined (λ p. p) ps) out (finish k out)) (sym (kept_pieces ps))
    (kept_answers (joined (λ p. p) ps) out)

-- from any state at all, a refusal changes no output byte
delivered_kept : (w out : List ℕ) → ((delivered w out).answer.number ≡ 0 → ⊥) → (delivered w out).buffer ≡ out
unfolding delivered
delivered_kept w out = go (ltb (length out) (length w))
  where
    go : (b : Bool)
        → ((cond b (leaves (refused 11 0) out) (leaves (accepted (length w)) (overlaid w out))).answer.number ≡ 0 → ⊥)
        → (cond b (leaves (refused 11 0) out) (leaves (accepted (length w)) (overlaid w out))).buffer ≡ out
    go true f = refl
    go false f = absurd (f refl)

pub refusal_keeps : (k : Kept) (out : List ℕ) → ((finish k out).answer.number ≡ 0 → ⊥) → (finish k out).buffer ≡ out
unfolding finish
refusal_keeps k out = go (lowest_of k)
  where
    go : (o : Option Answer) → ((outcome k.found out o).answer.number ≡ 0 → ⊥)
        → (outcome k.found out o).buffer ≡ out
    go none f = delivered_kept (stored (found_description k.found)) out f
    go (some a) f = refl
