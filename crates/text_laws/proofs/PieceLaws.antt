-- Texts that come in pieces: what the promises say together. [02, R-9]
use mathlib.Core.Path.{◌≡◌, refl, ap, sym, ◌∙◌, subst}
use mathlib.Core.List.{List, [], ◌∷◌, ◌++◌}
use Prim.Native.Nat.{ℕ, ◌≤◌}
use native.Mathlib.Omega.{arith}
use lib.ListN.{length, take, get_or, length-append, length-take}
use lib.Seq.{drop_at}
use Rattle.base.specs.Lists.{joined}
use Rattle.base.proofs.Joined.{joined_append, joined_one}
use Rattle.rules.specs.Answers.{Answer, of_text}
use Rattle.rules.specs.Pieces.{state_bytes, OnlyState}
use Rattle.rules.specs.Promises.{Outcome, ReadsText}
use Rattle.rules.specs.PieceResults.{Reached, started, taken, moved, joined_text}
use Rattle.rules.specs.PieceResults.{PiecesAnswer, CuttingsAgree, PiecesAsWhole}
use Rattle.text_laws.specs.WrongPieces.{WrongStates}
use Rattle.text_laws.proofs.TextResults.{text_unique}

joined_more : (ps : List (List ℕ)) (p : List ℕ) → joined_text (ps ++ (p ∷ [])) ≡ joined_text ps ++ p
joined_more ps p = rw (joined_append (λ (q : List ℕ). q) ps (p ∷ []), joined_one (λ (q : List ℕ). q) p)

module _ (Of : List ℕ → List ℕ → Type 0) (fresh : List ℕ) where
  reached_of : (pieces : List (List ℕ)) (state : List ℕ) → Reached Of fresh pieces state
      → Of (joined_text pieces) (take state_bytes state)
  unfolding joined
  reached_of ps state (started le s) = subst (λ (u : List ℕ). Of [] u) (sym (s.1 le).0) (s.1 le).1
  reached_of ps state (taken {pieces = qs} {before = before} {piece = p} r t) =
      subst (λ (u : List ℕ). Of u (take state_bytes state)) (sym (joined_more qs p))
      (t.1 (joined_text qs) (reached_of qs before r))
  reached_of ps state (moved {from = from} r e) =
      subst (λ (u : List ℕ). Of (joined_text ps) u) (sym e) (reached_of ps from r)

pub pieces_answered : PiecesAnswer
pieces_answered Of fresh ps state out o r e = e.reads (joined_text ps) (reached_of Of fresh ps state r)

pub cuttings_agree : CuttingsAgree
cuttings_agree Of fresh ps qs s t out o p same r q e f =
    text_unique (joined_text qs) out o p
    (subst (λ (u : List ℕ). ReadsText u out o) same (pieces_answered Of fresh ps s out o r e))
    (pieces_answered Of fresh qs t out p q f)

pub pieces_as_whole : PiecesAsWhole
pieces_as_whole Of fresh ps state out o p r e h =
    text_unique (joined_text ps) out o p (pieces_answered Of fresh ps state out o r e) h

-- ── states ──

only_short : OnlyState (9 ∷ []) (0 ∷ []) → ⊥
only_short h =
    let e : ◌≡◌ {A = ℕ} 0 9 = ap (λ (l : List ℕ). get_or l 0 0) (h.short (omega arith)) in absurd (omega (arith, e))

only_behind : (s t : List ℕ) → length s ≡ state_bytes → OnlyState (s ++ (9 ∷ [])) (t ++ (0 ∷ [])) → ⊥
only_behind s t long h =
    let n = length-append s (9 ∷ []) in
    let m = length-append t (0 ∷ []) in
    let same = h.long in
    let e : ◌≡◌ {A = ℕ} 0 9 = ap (λ (l : List ℕ). get_or l 0 0)
    (sym (drop_at t (0 ∷ []) state_bytes (omega (arith, n, m, same, long))) ∙ h.beyond
    ∙ drop_at s (9 ∷ []) state_bytes long) in
    absurd (omega (arith, e))

only_dropped : (s : List ℕ) → OnlyState s (take state_bytes s) → length s ≤ state_bytes
only_dropped s h =
    let n = length-take state_bytes s in
    let same = h.long in
    omega (arith, n, same)

first_byte : {o p : Outcome} → o ≡ p → get_or o.buffer 0 0 ≡ get_or p.buffer 0 0
first_byte e = ap (λ (o : Outcome). get_or o.buffer 0 0) e

pub states_ruled_out : (Of : List ℕ → List ℕ → Type 0) (fresh : List ℕ) → WrongStates Of fresh
unfolding of_text
states_ruled_out Of fresh = record {
  short_started = λ h. only_short h.0;
  short_taken = λ p h. only_short h.0;
  empty_taken = λ s t other h. other (h.2 refl);
  kept_started = λ s t n m other h k. other ((h.1 n).0 ∙ sym (k.1 m).0);
  behind_started = λ s t long h. only_behind s t long h.0;
  behind_taken = λ s t p long h. only_behind s t long h.0;
  dropped_started = λ s lt h. let n = only_dropped s h.0 in absurd (omega (arith, n, lt));
  dropped_taken = λ s p lt h. let n = only_dropped s h.0 in absurd (omega (arith, n, lt));
  short_ended = λ h. let e = ap (λ (o : Outcome). o.answer.number) (h.short (omega arith)) in
      absurd (omega (arith, e));
  refused_written = λ s h.
      let e = first_byte (h.refusal (λ z. absurd (omega (arith, z)))) in
      absurd (omega (arith, e));
  refused_long = λ s h.
      let e = ap (λ (o : Outcome). o.answer.amount) (h.refusal (λ z. absurd (omega (arith, z)))) in
      absurd (omega (arith, e));
  overlong = λ s h. let n = (h.written refl).within in absurd (omega (arith, n));
  beyond_written = λ s h.
      let e : ◌≡◌ {A = ℕ} 0 9 = ap (λ (l : List ℕ). get_or l 0 0) (h.written refl).beyond in
      absurd (omega (arith, e));
  beyond_lost = λ s h. let n = (h.written refl).long in absurd (omega (arith, n));
  accepted_placed = λ s h.
      let e = ap (λ (a : Answer). a.place) (h.written refl).answer in
      absurd (omega (arith, e));
}
