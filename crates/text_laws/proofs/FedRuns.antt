-- Runs of bytes: printable bytes, a line with its LF, what stands behind a byte that is not allowed, any text.
use mathlib.Core.Path.{◌≡◌, refl, ap, ap₂, sym, ◌∙◌}
use mathlib.Core.Bool.{Bool, true, false, cond, not}
use mathlib.Core.Logic.{◌⊎◌, inl, inr}
use mathlib.Core.List.{List, [], ◌∷◌, ◌++◌, append_assoc, append-nil, foldl, foldl-append}
use Prim.Native.Nat.{ℕ, suc, ◌+◌, ◌≤◌, ◌<◌}
use native.Mathlib.Omega.{arith}
use lib.Dec.{ltb, eqb}
use lib.ListN.{length, take}
use lib.Seq.{take_all}
use borrow.Author.Tests.{lt-ltb, le-ltb, ne_eqb}
use Rattle.base.specs.Lists.{all}
use Rattle.base.proofs.Lists.{and_left, and_right, all_append, all_weaken, between_true, or_left, or_cases, not_both}
use Rattle.rules.specs.Answers.{refused}
use Rattle.rules.specs.Limits.{text_most, line_most}
use Rattle.rules.specs.Names.{is_printable, is_allowed, line_feed}
use Rattle.rules.specs.Frames.{is_line}
use Rattle.text_laws.specs.Fold.{lost, Found, Kept, fresh, losing, lined, cut, unended, put, over, fed, kept}
use Rattle.text_laws.specs.Steady.{Small, Steady}
use Rattle.text_laws.proofs.Fed.{lost_line, cut_lost, held, begun_line, fed_plain, at_feed, at_byte, byte_size}
use Rattle.text_laws.proofs.Fed.{Lost, too_long}
use Rattle.text_laws.proofs.Steadiness.{steady_line, steady_losing, steady_cut, steady_start}

-- ── printable bytes ──

pub printable_allowed : (b : ℕ) → is_printable b ≡ true → is_allowed b ≡ true
unfolding is_allowed
printable_allowed b h = or_left (is_printable b) (eqb b line_feed) h

pub printable_other : (b : ℕ) → is_printable b ≡ true → eqb b line_feed ≡ false
unfolding is_printable
printable_other b h =
    let n = between_true 0x20 b 0x7E h in
    ne_eqb b line_feed (λ e. let m = n.0 in omega (arith, e, m))

pub other_printable : (b : ℕ) → is_allowed b ≡ true → eqb b line_feed ≡ false → is_printable b ≡ true
unfolding is_allowed
other_printable b h e = go (or_cases (is_printable b) (eqb b line_feed) h)
  where
    go : (is_printable b ≡ true) ⊎ (eqb b line_feed ≡ true) → is_printable b ≡ true
    go (inl k) = k
    go (inr k) = absurd (not_both (eqb b line_feed) k e)

pub all_allowed : (p : List ℕ) → all is_printable p ≡ true → all is_allowed p ≡ true
all_allowed p h = all_weaken is_printable is_allowed printable_allowed p h

pub printable_line : (p : List ℕ) → all is_printable p ≡ true → is_line p ≡ true
printable_line p h =
    all_weaken is_printable (λ b. not (eqb b line_feed)) (λ b e. ap not (printable_other b e)) p h

-- ── a run of them ──

pub unended_short : (f : Found) (l : List ℕ) → length l ≤ line_most → unended f l ≡ f
unfolding unended
unended_short f l le = rw (le-ltb line_most (length l) le) refl

printable_byte : (n : ℕ) (u : List ℕ) (f : Found) (b : ℕ) → n < text_most → is_printable b ≡ true
    → fed (begun_line n u f) b ≡ begun_line (suc n) (u ++ (b ∷ [])) f
printable_byte n u f b lt h =
    fed_plain n (take line_most u) (unended f u) b lt (printable_allowed b h)
    ∙ (rw (printable_other b h) (at_byte (suc n) u f b))

run_bytes : (p : List ℕ) (n : ℕ) (u : List ℕ) (f : Found) → all is_printable p ≡ true → n + length p ≤ text_most
    → foldl fed (begun_line n u f) p ≡ begun_line (n + length p) (u ++ p) f
unfolding all
run_bytes [] n u f h le = let z : n ≡ n + 0 = omega arith in rw (append-nil u, ← z) refl
run_bytes (b ∷ p) n u f h le =
    let z : suc n + length p ≡ n + suc (length p) = omega arith in
    ap (λ (k : Kept). foldl fed k p)
    (printable_byte n u f b (omega arith) (and_left (is_printable b) (all is_printable p) h))
    ∙ run_bytes p (suc n) (u ++ (b ∷ [])) f (and_right (is_printable b) (all is_printable p) h) (omega arith)
    ∙ ap₂ {C = Kept} (λ (m : ℕ) (l : List ℕ). begun_line m l f) z (append_assoc u (b ∷ []) p)

-- what is kept has begun a line that is short enough
as_begun : (k : Kept) → length k.line ≤ line_most → k ≡ begun_line k.size k.line k.found
as_begun k short =
    ap₂ {C = Kept} (λ (l : List ℕ) (f : Found). held k.size l f) (sym (take_all line_most k.line short))
    (sym (unended_short k.found k.line short))

pub fed_run : (p : List ℕ) (k : Kept) → all is_printable p ≡ true → k.size + length p ≤ text_most
    → length k.line ≤ line_most
    → foldl fed k p
    ≡ record {
      size = k.size + length p;
      line = take line_most (k.line ++ p);
      found = unended k.found (k.line ++ p);
    }
fed_run p k h le short =
    ap (λ (q : Kept). foldl fed q p) (as_begun k short) ∙ run_bytes p k.size k.line k.found h le

-- and an LF
feed_byte : (n : ℕ) (u : List ℕ) (f : Found) → n < text_most → Small f
    → fed (begun_line n u f) line_feed ≡ held (suc n) [] (lined f u)
unfolding is_allowed is_printable
feed_byte n u f lt s =
    fed_plain n (take line_most u) (unended f u) line_feed lt refl
    ∙ ap (λ (g : Found). held (suc n) [] g) (at_feed u f s)

pub fed_line : (p t : List ℕ) (k : Kept) → all is_printable p ≡ true → k.size + suc (length p + length t) ≤ text_most
    → length k.line ≤ line_most → Small k.found
    → foldl fed k (p ++ (line_feed ∷ t))
    ≡ foldl fed
    (record { size = k.size + suc (length p); line = []; found = lined k.found (k.line ++ p) }) t
fed_line p t k h le short s =
    let z : suc (k.size + length p) ≡ k.size + suc (length p) = omega arith in
    foldl-append fed k p (line_feed ∷ t)
    ∙ ap (λ (q : Kept). foldl fed (fed q line_feed) t) (fed_run p k h (omega arith) short)
    ∙ ap (λ (q : Kept). foldl fed q t)
    (feed_byte (k.size + length p) (k.line ++ p) k.found (omega arith) s
    ∙ ap (λ (n : ℕ). held n [] (lined k.found (k.line ++ p))) z)

-- ── a byte where 1, 2 or 3 was found, and behind a byte that is not allowed ──

-- what a byte makes of what was found, if 1, 2 or 3 was
abbrev pub lost_by : ℕ → ℕ → Found → Found
lost_by n b f =
    cond (ltb n text_most) (cond (is_allowed b) f (losing (refused 2 0) f)) (losing (refused 1 0) f)

pub fed_lost : (k : Kept) (b : ℕ) → k.found.stage ≡ lost → (fed k b).found ≡ lost_by k.size b k.found
unfolding fed
fed_lost k b h = go (ltb k.size text_most) (is_allowed b) (eqb b line_feed) (ltb (length k.line) line_most)
  where
    go : (x y z v : Bool)
        → (cond x
        (cond y (cond z (put k [] (lined k.found k.line))
        (cond v (put k (k.line ++ (b ∷ [])) k.found) (put k k.line (cut k.found))))
        (put k k.line (losing (refused 2 0) k.found)))
        (over k)).found
        ≡ cond x (cond y k.found (losing (refused 2 0) k.found)) (losing (refused 1 0) k.found)
    go true true true v = lost_line k.found k.line h
    go true true false true = refl
    go true true false false = cut_lost k.found h
    go true false z v = refl
    go false y z v = refl

pub lost_by_stage : (n b : ℕ) (f : Found) → f.stage ≡ lost → (lost_by n b f).stage ≡ lost
lost_by_stage n b f h = go (ltb n text_most) (is_allowed b)
  where
    go : (x y : Bool)
        → (cond x (cond y f (losing (refused 2 0) f)) (losing (refused 1 0) f)).stage ≡ lost
    go true true = h
    go true false = refl
    go false y = refl

-- once there was a 2, no byte within the limit changes what was found
two_stays : (t : List ℕ) (f : Found) (k : Kept) → k.found ≡ losing (refused 2 0) f → k.size + length t ≤ text_most
    → (foldl fed k t).found ≡ losing (refused 2 0) f
two_stays [] f k e le = e
two_stays (b ∷ t) f k e le =
    let lt : k.size < text_most = omega arith in
    let n = byte_size k b lt in
    let s : k.found.stage ≡ lost = ap (λ (g : Found). g.stage) e in
    two_stays t f (fed k b)
    (fed_lost k b s ∙ ap (lost_by k.size b) e ∙ (rw (lt-ltb k.size text_most lt) (go (is_allowed b))))
    (omega (arith, n, le))
  where
    go : (y : Bool)
        → cond y (losing (refused 2 0) f) (losing (refused 2 0) (losing (refused 2 0) f)) ≡ losing (refused 2 0) f
    go true = refl
    go false = refl

pub fed_bad : (b : ℕ) (t : List ℕ) (k : Kept) → is_allowed b ≡ false → k.size + suc (length t) ≤ text_most
    → (foldl fed k (b ∷ t)).found ≡ losing (refused 2 0) k.found
fed_bad b t k h le =
    let lt : k.size < text_most = omega arith in
    let n = byte_size k b lt in
    let e : fed k b ≡ put k k.line (losing (refused 2 0) k.found) =
    unfold fed in rw (lt-ltb k.size text_most lt, h) refl in
    two_stays t k.found (fed k b) (ap (λ (q : Kept). q.found) e) (omega (arith, n, le))

-- ── any text ──

line_byte : (k : Kept) (b : ℕ) → is_line k.line ≡ true → is_line (fed k b).line ≡ true
unfolding fed all
line_byte k b h =
    go (ltb k.size text_most) (is_allowed b) (eqb b line_feed) refl (ltb (length k.line) line_most)
  where
    go : (x y z : Bool) → eqb b line_feed ≡ z → (v : Bool)
        → is_line (cond x
        (cond y (cond z (put k [] (lined k.found k.line))
        (cond v (put k (k.line ++ (b ∷ [])) k.found) (put k k.line (cut k.found))))
        (put k k.line (losing (refused 2 0) k.found)))
        (over k)).line ≡ true
    go true true true e v = refl
    go true true false e true = all_append (λ c. not (eqb c line_feed)) k.line (b ∷ []) h (rw e refl)
    go true true false e false = h
    go true false z e v = h
    go false y z e v = h

pub fed_free : (t : List ℕ) (k : Kept) → is_line k.line ≡ true → is_line (foldl fed k t).line ≡ true
fed_free [] k h = h
fed_free (b ∷ t) k h = fed_free t (fed k b) (line_byte k b h)

-- the unfinished line has no LF
pub kept_free : (t : List ℕ) → is_line (kept t).line ≡ true
unfolding kept all
kept_free t = fed_free t fresh refl

pub fed_size : (t : List ℕ) (k : Kept) → k.size + length t ≤ text_most → (foldl fed k t).size ≡ k.size + length t
fed_size [] k le = omega arith
fed_size (b ∷ t) k le =
    let n = byte_size k b (omega arith) in
    let m = fed_size t (fed k b) (omega (arith, n, le)) in
    omega (arith, n, m)

pub kept_size : (t : List ℕ) → length t ≤ text_most → (kept t).size ≡ length t
unfolding kept
kept_size t le = let n = fed_size t fresh (omega arith) in omega (arith, n)

pub kept_over : (t : List ℕ) → text_most < length t → Lost 1 (kept t)
unfolding kept
kept_over t lt = too_long t fresh (omega arith) (omega arith)

pub steady_byte : (k : Kept) (b : ℕ) → Steady k.found → Steady (fed k b).found
unfolding fed
steady_byte k b h =
    go (ltb k.size text_most) (is_allowed b) (eqb b line_feed) (ltb (length k.line) line_most)
  where
    go : (x y z v : Bool)
        → Steady (cond x
        (cond y (cond z (put k [] (lined k.found k.line))
        (cond v (put k (k.line ++ (b ∷ [])) k.found) (put k k.line (cut k.found))))
        (put k k.line (losing (refused 2 0) k.found)))
        (over k)).found
    go true true true v = steady_line k.found k.line h
    go true true false true = h
    go true true false false = steady_cut k.found h
    go true false z v = steady_losing (refused 2 0) k.found h
    go false y z v = steady_losing (refused 1 0) k.found h

pub fed_steady : (t : List ℕ) (k : Kept) → Steady k.found → Steady (foldl fed k t).found
fed_steady [] k h = h
fed_steady (b ∷ t) k h = fed_steady t (fed k b) (steady_byte k b h)

pub kept_steady : (t : List ℕ) → Steady (kept t).found
unfolding kept
kept_steady t = fed_steady t fresh steady_start
