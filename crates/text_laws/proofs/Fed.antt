-- Bytes to lines: what is kept behind the bytes of a text.
use mathlib.Core.Path.{◌≡◌, refl, ap, ap₂, sym, ◌∙◌, subst}
use mathlib.Core.Bool.{Bool, true, false, cond, ◌&&◌, not}
use mathlib.Core.List.{List, [], ◌∷◌, ◌++◌, append_assoc, append-nil, foldl}
use mathlib.Core.Option.{some}
use Prim.Native.Nat.{ℕ, suc, ◌+◌, ◌≤◌, ◌<◌}
use native.Mathlib.Omega.{arith}
use lib.Dec.{ltb, eqb}
use lib.ListN.{length, length-append, take}
use lib.Seq.{length-take-le, take_all, take-append-le}
use borrow.Author.Tests.{lt-ltb, le-ltb, ltb-true, ltb-false, eqb-true}
use Rattle.base.specs.Lists.{all}
use Rattle.base.proofs.Lists.{and_left, and_right, all_append, not_both}
use Rattle.rules.specs.Answers.{refused}
use Rattle.rules.specs.Limits.{text_most, line_most}
use Rattle.rules.specs.Names.{is_allowed, line_feed}
use Rattle.text_laws.specs.FrameReader.{rest, lines_of}
use Rattle.text_laws.proofs.SplitLaws.{is_free, pieces_cons, rest_cons, pieces_free, rest_free}
use Rattle.text_laws.specs.Fold.{Stage, opening, blank, tens_ruler, units_ruler, top_border, first_row, in_row}
use Rattle.text_laws.specs.Fold.{row_or_blank, where_line, last_blank, first_field, field_line, lost, Found, start}
use Rattle.text_laws.specs.Fold.{Kept, losing, wrong, lined_at, lined, is_lost, cut, unended, put, taken, over}
use Rattle.text_laws.specs.Fold.{fed, kept}
use Rattle.text_laws.specs.Steady.{Small}
use Rattle.text_laws.proofs.Bounds.{small_line, small_start}
use Rattle.text_laws.proofs.LongLines.{long_line}

-- ── where 1, 2 or 3 was found, nothing changes ──

pub lost_line : (f : Found) (l : List ℕ) → f.stage ≡ lost → lined f l ≡ f
unfolding lined_at
lost_line f l e = ap (λ (s : Stage). lined_at s f l) e

pub cut_lost : (f : Found) → f.stage ≡ lost → cut f ≡ f
cut_lost f e = ap (λ (s : Stage). cond (is_lost s) f (wrong f)) e

pub lost_stage : (s : Stage) → is_lost s ≡ true → s ≡ lost
lost_stage opening h = cc
lost_stage blank h = cc
lost_stage tens_ruler h = cc
lost_stage units_ruler h = cc
lost_stage top_border h = cc
lost_stage first_row h = cc
lost_stage in_row h = cc
lost_stage row_or_blank h = cc
lost_stage where_line h = cc
lost_stage last_blank h = cc
lost_stage first_field h = cc
lost_stage field_line h = cc
lost_stage lost h = refl

pub cut_stage : (f : Found) → (cut f).stage ≡ lost
cut_stage f = go (is_lost f.stage) refl
  where
    go : (b : Bool) → is_lost f.stage ≡ b → (cond b f (wrong f)).stage ≡ lost
    go true e = lost_stage f.stage e
    go false e = refl

-- ── a plain text: its lines, and what is behind the last LF ──

abbrev pub held : ℕ → List ℕ → Found → Kept
held n l f = record { size = n; line = l; found = f }

-- what is kept of a line u that has begun behind f: its first bytes, and a 3 where it is longer
abbrev pub begun_line : ℕ → List ℕ → Found → Kept
begun_line n u f = held n (take line_most u) (unended f u)

pub fed_plain : (n : ℕ) (l : List ℕ) (f : Found) (b : ℕ) → n < text_most → is_allowed b ≡ true
    → fed (held n l f) b ≡ taken (held n l f) b
unfolding fed
fed_plain n l f b lt h = rw (lt-ltb n text_most lt, h) refl

more_free : (l : List ℕ) (b : ℕ) → is_free line_feed l ≡ true → eqb b line_feed ≡ false
    → is_free line_feed (l ++ (b ∷ [])) ≡ true
unfolding all
more_free l b h e = all_append (λ c. not (eqb c line_feed)) l (b ∷ []) h (rw e refl)

unended_nil : (f : Found) → unended f [] ≡ f
unfolding unended
unended_nil f = refl

-- the LF of the line u
pub at_feed : (u : List ℕ) (f : Found) → Small f → lined (unended f u) (take line_most u) ≡ lined f u
unfolding unended
at_feed u f h = go (ltb line_most (length u)) refl
  where
    go : (b : Bool) → ltb line_most (length u) ≡ b → lined (cond b (cut f) f) (take line_most u) ≡ lined f u
    go true e =
        lost_line (cut f) (take line_most u) (cut_stage f)
        ∙ sym (long_line f u h (ltb-true line_most (length u) e))
    go false e = ap (lined f) (take_all line_most u (ltb-false line_most (length u) e))

feed_line : (n : ℕ) (u : List ℕ) (f : Found) → Small f
    → held n [] (lined (unended f u) (take line_most u)) ≡ begun_line n [] (lined f u)
feed_line n u f h =
    ap (λ (g : Found). held n [] g) (at_feed u f h ∙ sym (unended_nil (lined f u)))
    ∙ ap (λ (l : List ℕ). held n l (unended (lined f u) [])) (sym (take_all line_most [] (omega arith)))

-- one more byte of the line u
pub at_byte : (n : ℕ) (u : List ℕ) (f : Found) (b : ℕ)
    → cond (ltb (length (take line_most u)) line_most) (held n (take line_most u ++ (b ∷ [])) (unended f u))
    (held n (take line_most u) (cut (unended f u))) ≡ begun_line n (u ++ (b ∷ [])) f
unfolding unended
at_byte n u f b = go (ltb (length u) line_most) refl
  where
    longer : length (u ++ (b ∷ [])) ≡ suc (length u)
    longer = let z = length-append u (b ∷ []) in omega (arith, z)

    twice : (x : Bool) → cut (cond x (cut f) f) ≡ cut f
    twice true = cut_lost (cut f) (cut_stage f)
    twice false = refl

    go : (x : Bool) → ltb (length u) line_most ≡ x
        → cond (ltb (length (take line_most u)) line_most) (held n (take line_most u ++ (b ∷ [])) (unended f u))
        (held n (take line_most u) (cut (unended f u))) ≡ begun_line n (u ++ (b ∷ [])) f
    go true e =
        let lt = ltb-true (length u) line_most e in
        let le : length (u ++ (b ∷ [])) ≤ line_most = omega (arith, longer, lt) in
        rw (
          take_all line_most u (omega (arith, lt)),
          e,
          take_all line_most (u ++ (b ∷ [])) le,
          le-ltb line_most (length u) (omega (arith, lt)),
          le-ltb line_most (length (u ++ (b ∷ []))) le,
        ) refl
    go false e =
        let le = ltb-false (length u) line_most e in
        rw (
          length-take-le line_most u le,
          take-append-le line_most u (b ∷ []) le,
          twice (ltb line_most (length u)),
          lt-ltb line_most (length (u ++ (b ∷ []))) (omega (arith, longer, le)),
        ) refl

fed_lines : (t : List ℕ) (n : ℕ) (u : List ℕ) (f : Found) → Small f → is_free line_feed u ≡ true
    → all is_allowed t ≡ true → n + length t ≤ text_most
    → foldl fed (begun_line n u f) t
    ≡ begun_line (n + length t) (rest line_feed (u ++ t)) (foldl lined f (lines_of (u ++ t)))
unfolding all
fed_lines [] n u f s h a le =
    let z : n ≡ n + 0 = omega arith in
    rw (append-nil u, rest_free line_feed u h, pieces_free line_feed u h, ← z) refl
fed_lines (b ∷ t) n u f s h a le =
    let more : all is_allowed t ≡ true = and_right (is_allowed b) (all is_allowed t) a in
    ap (λ (k : Kept). foldl fed k t)
    (fed_plain n (take line_most u) (unended f u) b (omega arith) (and_left (is_allowed b) (all is_allowed t) a))
    ∙ go (eqb b line_feed) refl
    (fed_lines t (suc n) [] (lined f u) (small_line f.stage f u s) refl more (omega arith))
    (λ e. fed_lines t (suc n) (u ++ (b ∷ [])) f s (more_free u b h e) more (omega arith))
  where
    z : suc n + length t ≡ n + suc (length t)
    z = omega arith

    go : (x : Bool) → eqb b line_feed ≡ x
        → foldl fed (begun_line (suc n) [] (lined f u)) t
        ≡ begun_line (suc n + length t) (rest line_feed t) (foldl lined (lined f u) (lines_of t))
        → (eqb b line_feed ≡ false → foldl fed (begun_line (suc n) (u ++ (b ∷ [])) f) t
        ≡ begun_line (suc n + length t) (rest line_feed ((u ++ (b ∷ [])) ++ t))
        (foldl lined f (lines_of ((u ++ (b ∷ [])) ++ t))))
        → foldl fed
        (cond x (held (suc n) [] (lined (unended f u) (take line_most u)))
        (cond (ltb (length (take line_most u)) line_most) (held (suc n) (take line_most u ++ (b ∷ [])) (unended f u))
        (held (suc n) (take line_most u) (cut (unended f u))))) t
        ≡ begun_line (n + suc (length t)) (rest line_feed (u ++ (b ∷ t))) (foldl lined f (lines_of (u ++ (b ∷ t))))
    go true e p q =
        let is : b ≡ line_feed = eqb-true b line_feed e in
        ap (λ (k : Kept). foldl fed k t) (feed_line (suc n) u f s)
        ∙ (rw (is, rest_cons line_feed u t h, pieces_cons line_feed u t h, ← z) p)
    go false e p q =
        ap (λ (k : Kept). foldl fed k t) (at_byte (suc n) u f b)
        ∙ (rw (← append_assoc u (b ∷ []) t, ← z) (q e))

-- behind a plain text
pub kept_lines : (t : List ℕ) → all is_allowed t ≡ true → length t ≤ text_most
    → kept t
    ≡ held (length t) (take line_most (rest line_feed t)) (unended (foldl lined start (lines_of t)) (rest line_feed t))
unfolding kept all
kept_lines t a le =
    let z : 0 + length t ≡ length t = omega arith in
    ap (λ (k : Kept). foldl fed k t)
    (ap₂ {C = Kept} (λ (l : List ℕ) (f : Found). held 0 l f) (sym (take_all line_most [] (omega arith)))
    (sym (unended_nil start)))
    ∙ fed_lines t 0 [] start small_start refl a (omega arith)
    ∙ ap (λ (n : ℕ). begun_line n (rest line_feed t) (foldl lined start (lines_of t))) z

-- ── 1 and 2 ──

-- the number n at 0 was noted, and no line matters any more
abbrev pub Lost : ℕ → Kept → Type 0
Lost n k = (k.found.stage ≡ lost) × (k.found.judged.lowest ≡ some (refused n 0))

over_stays : (t : List ℕ) (k : Kept) → text_most ≤ k.size → Lost 1 k → Lost 1 (foldl fed k t)
over_stays [] k le h = h
over_stays (b ∷ t) k le h =
    let e : fed k b ≡ over k = unfold fed in rw (le-ltb k.size text_most le) refl in
    subst (λ (q : Kept). Lost 1 (foldl fed q t)) (sym e) (over_stays t (over k) le (refl, refl))

pub byte_size : (k : Kept) (b : ℕ) → k.size < text_most → (fed k b).size ≡ suc k.size
unfolding fed
byte_size k b lt =
    rw (lt-ltb k.size text_most lt) (go (is_allowed b) (eqb b line_feed) (ltb (length k.line) line_most))
  where
    go : (x y z : Bool)
        → (cond x (cond y (put k [] (lined k.found k.line))
        (cond z (put k (k.line ++ (b ∷ [])) k.found) (put k k.line (cut k.found))))
        (put k k.line (losing (refused 2 0) k.found))).size ≡ suc k.size
    go true true z = refl
    go true false true = refl
    go true false false = refl
    go false y z = refl

pub too_long : (t : List ℕ) (k : Kept) → k.size ≤ text_most → text_most < k.size + length t → Lost 1 (foldl fed k t)
too_long [] k le lt = absurd (omega arith)
too_long (b ∷ t) k le lt = go (ltb k.size text_most) refl (too_long t (fed k b))
  where
    go : (x : Bool) → ltb k.size text_most ≡ x
        → ((fed k b).size ≤ text_most → text_most < (fed k b).size + length t → Lost 1 (foldl fed (fed k b) t))
        → Lost 1 (foldl fed (fed k b) t)
    go true e r =
        let less = ltb-true k.size text_most e in
        let n = byte_size k b less in
        r (omega (arith, n, less)) (omega (arith, n, lt))
    go false e r =
        let is : fed k b ≡ over k = unfold fed in rw e refl in
        subst (λ (q : Kept). Lost 1 (foldl fed q t)) (sym is)
        (over_stays t (over k) (ltb-false k.size text_most e) (refl, refl))

bad_byte : (k : Kept) (b : ℕ) → k.size < text_most → Lost 2 k → Lost 2 (fed k b)
unfolding fed
bad_byte k b lt h =
    rw (lt-ltb k.size text_most lt) (go (is_allowed b) (eqb b line_feed) (ltb (length k.line) line_most))
  where
    go : (x y z : Bool)
        → Lost 2 (cond x (cond y (put k [] (lined k.found k.line))
        (cond z (put k (k.line ++ (b ∷ [])) k.found) (put k k.line (cut k.found))))
        (put k k.line (losing (refused 2 0) k.found)))
    go true true z =
        subst (λ (f : Found). Lost 2 (put k [] f)) (sym (lost_line k.found k.line h.0)) h
    go true false true = h
    go true false false = subst (λ (f : Found). Lost 2 (put k k.line f)) (sym (cut_lost k.found h.0)) h
    go false y z = (refl, refl)

bad_stays : (t : List ℕ) (k : Kept) → k.size + length t ≤ text_most → Lost 2 k → Lost 2 (foldl fed k t)
bad_stays [] k le h = h
bad_stays (b ∷ t) k le h =
    let lt : k.size < text_most = omega arith in
    let n = byte_size k b lt in
    bad_stays t (fed k b) (omega (arith, n, le)) (bad_byte k b lt h)

pub bad_bytes : (t : List ℕ) (k : Kept) → k.size + length t ≤ text_most → all is_allowed t ≡ false
    → Lost 2 (foldl fed k t)
unfolding all
bad_bytes [] k le h = absurd (not_both true refl h)
bad_bytes (b ∷ t) k le h = go (is_allowed b) refl h (bad_bytes t (fed k b) (omega (arith, n, le)))
  where
    lt : k.size < text_most
    lt = omega arith

    n : (fed k b).size ≡ suc k.size
    n = byte_size k b lt

    go : (x : Bool) → is_allowed b ≡ x → (x && all is_allowed t) ≡ false
        → (all is_allowed t ≡ false → Lost 2 (foldl fed (fed k b) t)) → Lost 2 (foldl fed (fed k b) t)
    go true e f r = r f
    go false e f r =
        let is : fed k b ≡ put k k.line (losing (refused 2 0) k.found) =
        unfold fed in rw (lt-ltb k.size text_most lt, e) refl in
        subst (λ (q : Kept). Lost 2 (foldl fed q t)) (sym is)
        (bad_stays t (put k k.line (losing (refused 2 0) k.found)) (omega (arith, le)) (refl, refl))
