-- What is counted at each index.
use mathlib.Core.Path.{◌≡◌, refl, sym, ◌∙◌}
use mathlib.Core.Bool.{Bool, true, false, cond}
use mathlib.Core.List.{List, [], ◌∷◌, ◌++◌}
use Prim.Native.Nat.{ℕ, ◌+◌, ◌%◌, ◌≤◌, ◌<◌}
use native.Mathlib.Omega.{arith}
use lib.Dec.{eqb}
use lib.ListN.{length, get_or, set, length-set}
use lib.Seq.{get_or-set_same, get_or-set_other, set_out}
use borrow.Author.Tests.{eqb-true, eqb-false}
use Rattle.base.specs.Lists.{joined, sum}
use Rattle.rules.specs.References.{times}
use Rattle.references.specs.Scans.{index_in}
use Rattle.references.specs.Tallies.{one_more, tallied}

-- the counts after one index
abbrev one : ℕ → List ℕ → ℕ → List ℕ
one own counts i = cond (eqb i own) counts (set counts i (one_more (get_or counts i 0)))

one_length : (own : ℕ) (counts : List ℕ) (i : ℕ) → length (one own counts i) ≡ length counts
one_length own counts i = go (eqb i own)
  where
    go : (b : Bool) → length (cond b counts (set counts i (one_more (get_or counts i 0)))) ≡ length counts
    go true = refl
    go false = length-set counts i (one_more (get_or counts i 0))

pub tallied_length : (own : ℕ) (counts l : List ℕ) → length (tallied own counts l) ≡ length counts
unfolding tallied
tallied_length own counts [] = refl
tallied_length own counts (i ∷ l) = tallied_length own (one own counts i) l ∙ one_length own counts i

pub tallied_append : (own : ℕ) (counts l m : List ℕ)
    → tallied own counts (l ++ m) ≡ tallied own (tallied own counts l) m
unfolding tallied
tallied_append own counts [] m = refl
tallied_append own counts (i ∷ l) m = tallied_append own (one own counts i) l m

-- ── one index ──

pub tallied_out : (own : ℕ) (counts : List ℕ) (i : ℕ) → length counts ≤ i → counts ≡ tallied own counts (i ∷ [])
unfolding tallied
tallied_out own counts i le = go (eqb i own)
  where
    go : (b : Bool) → counts ≡ cond b counts (set counts i (one_more (get_or counts i 0)))
    go true = refl
    go false = sym (set_out counts i (one_more (get_or counts i 0)) le)

-- ── the indexes of codes ──

-- from one code to the next
pub tally_next : (own : ℕ) (counts code l : List ℕ) (codes more : List (List ℕ)) → codes ≡ code ∷ more
    → index_in code ≡ l → tallied own counts (joined index_in codes) ≡ tallied own (tallied own counts l)
    (joined index_in more)
unfolding joined
tally_next own counts code l codes more e f = rw (e, f) (tallied_append own counts l (joined index_in more))

pub tally_end : (own : ℕ) (counts : List ℕ) (codes : List (List ℕ)) → codes ≡ []
    → tallied own counts (joined index_in codes) ≡ counts
unfolding joined tallied
tally_end own counts codes e = rw e refl

-- ── the count at an index ──

one_at : (own : ℕ) (counts : List ℕ) (j i : ℕ) → i < length counts → get_or counts i 0 < 65536
    → get_or (one own counts j) i 0 ≡ (get_or counts i 0 + cond (eqb i own) 0 (cond (eqb j i) 1 0)) % 65536
one_at own counts j i lt h = go (eqb j own) refl (eqb i own) refl (eqb j i) refl
  where
    go : (a : Bool) → eqb j own ≡ a → (b : Bool) → eqb i own ≡ b → (c : Bool) → eqb j i ≡ c
        → get_or (cond a counts (set counts j (one_more (get_or counts j 0)))) i 0
        ≡ (get_or counts i 0 + cond b 0 (cond c 1 0)) % 65536
    go true ea true eb c ec = omega arith
    go true ea false eb true ec =
        let p : j ≡ own = eqb-true j own ea in
        let q : j ≡ i = eqb-true j i ec in
        absurd (eqb-false i own eb (sym q ∙ p))
    go true ea false eb false ec = omega arith
    go false ea true eb true ec =
        let p : i ≡ own = eqb-true i own eb in
        let q : j ≡ i = eqb-true j i ec in
        absurd (eqb-false j own ea (q ∙ p))
    go false ea false eb true ec =
        let q : j ≡ i = eqb-true j i ec in
        rw q (get_or-set_same counts i (one_more (get_or counts i 0)) 0 lt)
    go false ea true eb false ec =
        get_or-set_other counts j i (one_more (get_or counts j 0)) 0 (λ e. eqb-false j i ec (sym e)) ∙ omega arith
    go false ea false eb false ec =
        get_or-set_other counts j i (one_more (get_or counts j 0)) 0 (λ e. eqb-false j i ec (sym e)) ∙ omega arith

both : (b : Bool) (n x y : ℕ) → ((n + cond b 0 x) % 65536 + cond b 0 y) % 65536 ≡ (n + cond b 0 (x + y)) % 65536
both true n x y = omega arith
both false n x y = omega arith

pub tallied_at : (own : ℕ) (counts l : List ℕ) (i : ℕ) → i < length counts → get_or counts i 0 < 65536
    → get_or (tallied own counts l) i 0 ≡ (get_or counts i 0 + cond (eqb i own) 0 (times i l)) % 65536
unfolding tallied times sum
tallied_at own counts [] i lt h = go (eqb i own)
  where
    go : (b : Bool) → get_or counts i 0 ≡ (get_or counts i 0 + cond b 0 0) % 65536
    go true = omega arith
    go false = omega arith
tallied_at own counts (j ∷ l) i lt h =
    let e = one_at own counts j i lt h in
    let small : get_or (one own counts j) i 0 < 65536 = rw e (omega arith) in
    let size = one_length own counts j in
    tallied_at own (one own counts j) l i (omega (arith, size)) small
    ∙ rw e (both (eqb i own) (get_or counts i 0) (cond (eqb j i) 1 0) (times i l))

pub tallied_small : (own : ℕ) (counts l : List ℕ) (i : ℕ) → i < length counts → get_or counts i 0 < 65536
    → get_or (tallied own counts l) i 0 < 65536
tallied_small own counts l i lt h = rw (tallied_at own counts l i lt h) (omega arith)
