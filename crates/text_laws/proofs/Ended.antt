-- The rules 6 to 10 at the end of a text: with the cells that remain, the lowest refusal is the one that 01 names.
use mathlib.Core.Path.{◌≡◌, refl, ap}
use mathlib.Core.Bool.{Bool, true, false, cond}
use mathlib.Core.List.{List, [], ◌∷◌, ◌++◌, append_assoc, append-nil}
use mathlib.Core.Option.{Option, none, some, map}
use Prim.Native.Nat.{ℕ, suc, ◌+◌, ◌≤◌}
use native.Mathlib.Omega.{arith}
use lib.Dec.{ltb}
use lib.ListN.{length, length-append, get_elem?}
use borrow.Author.Tests.{lt-ltb, le-ltb}
use Rattle.base.specs.Lists.{first_break, or_else}
use Rattle.rules.specs.Answers.{Answer, refused}
use Rattle.rules.specs.Fields.{Form}
use Rattle.rules.specs.Within.{keeps_size, keeps_names, keeps_types, keeps_rest, name_readable}
use Rattle.rules.specs.Frames.{Frame, Slot, cells, head_lines}
use Rattle.rules.specs.Spelling.{shows, mismatch}
use Rattle.rules.specs.Refusals.{rule_broken}
use Rattle.text_laws.specs.Lowest.{lower, staged}
use Rattle.text_laws.specs.Judging.{shows_cell, rules}
use Rattle.text_laws.proofs.Lowests.{Above, lower_stays, lower_takes}

-- ── 7: line by line, and the cells that remain ──

-- the index behind m lines, where there are more cells
abbrev pub remaining : ℕ → List Slot → Option ℕ
remaining m cs = cond (ltb m (length cs)) (some m) none

element_end : {A : Type 0} (l : List A) → get_elem? l (length l) ≡ none
element_end [] = refl
element_end (x ∷ l) = element_end l

element_middle : {A : Type 0} (l : List A) (x : A) (m : List A) → get_elem? (l ++ (x ∷ m)) (length l) ≡ some x
element_middle [] x m = refl
element_middle (y ∷ l) x m = element_middle l x m

mismatch_from : (front back : List Slot) (before forms : List Form) → length front ≡ length before
    → mismatch (length before) back forms
    ≡ or_else (first_break (shows_cell (front ++ back)) before forms)
    (remaining (length before + length forms) (front ++ back))
unfolding mismatch first_break
mismatch_from front [] before [] e =
    let n = length-append front [] in
    rw (le-ltb (length before + 0) (length (front ++ [])) (omega (arith, n, e))) refl
mismatch_from front [] before (x ∷ forms) e =
    let h : get_elem? (front ++ []) (length before) ≡ none =
    rw (append-nil front, ← e) (element_end front) in
    rw h refl
mismatch_from front (c ∷ back) before [] e =
    let n = length-append front (c ∷ back) in
    let z : length before ≡ length before + 0 = omega arith in
    rw (lt-ltb (length before + 0) (length (front ++ (c ∷ back))) (omega (arith, n, e))) (ap some z)
mismatch_from front (c ∷ back) before (x ∷ forms) e =
    let h : get_elem? (front ++ (c ∷ back)) (length before) ≡ some c =
    rw (← e) (element_middle front c back) in
    let a = length-append front (c ∷ []) in
    let b = length-append before (x ∷ []) in
    let s : suc (length before) ≡ length (before ++ (x ∷ [])) = omega (arith, b) in
    let z : suc (length before) + length forms ≡ length before + suc (length forms) = omega arith in
    let i = mismatch_from (front ++ (c ∷ [])) back (before ++ (x ∷ [])) forms (omega (arith, a, b, e)) in
    rw h (go (shows c x) (rw (append_assoc front (c ∷ []) back, ← s, z) at i))
  where
    go : (t : Bool)
        → mismatch (suc (length before)) back forms
        ≡ or_else (first_break (shows_cell (front ++ (c ∷ back))) (before ++ (x ∷ [])) forms)
        (remaining (length before + suc (length forms)) (front ++ (c ∷ back)))
        → cond t (mismatch (suc (length before)) back forms) (some (length before))
        ≡ or_else (cond t (first_break (shows_cell (front ++ (c ∷ back))) (before ++ (x ∷ [])) forms)
        (some (length before))) (remaining (length before + suc (length forms)) (front ++ (c ∷ back)))
    go true i = i
    go false i = refl

mismatch_lines : (cs : List Slot) (forms : List Form)
    → mismatch 0 cs forms ≡ or_else (first_break (shows_cell cs) [] forms) (remaining (length forms) cs)
mismatch_lines cs forms =
    let z : 0 + length forms ≡ length forms = omega arith in
    rw z at (mismatch_from [] cs [] forms refl)

-- ── 6 to 10 ──

module _ (p : ℕ) where
  abbrev at : ℕ → Option ℕ → Option Answer
  at number i = map (λ n. refused number (p + n)) i

  behind_seven : (m : ℕ) (c d e : Option ℕ) → (r : Bool)
      → lower (or_else (at 8 c) (or_else (at 9 d) (or_else (at 10 e) none))) (at 7 (cond r (some m) none))
      ≡ or_else (at 7 (cond r (some m) none)) (or_else (at 8 c) (or_else (at 9 d) (at 10 e)))
  behind_seven m (some i) d e true = lower_takes 8 (refused 7 (p + m)) (some (refused 8 (p + i))) (omega arith)
      (omega arith)
  behind_seven m none (some i) e true = lower_takes 9 (refused 7 (p + m)) (some (refused 9 (p + i))) (omega arith)
      (omega arith)
  behind_seven m none none (some i) true =
      lower_takes 10 (refused 7 (p + m)) (some (refused 10 (p + i))) (omega arith) (omega arith)
  behind_seven m none none none true = refl
  behind_seven m (some i) d e false = refl
  behind_seven m none (some i) e false = refl
  behind_seven m none none (some i) false = refl
  behind_seven m none none none false = refl

  seven_above : (m : ℕ) (r : Bool) → Above 7 (at 7 (cond r (some m) none))
  seven_above m true = let z : 7 ≤ 7 = omega arith in z
  seven_above m false = tt

  five_rules : (m : ℕ) (a b c d e : Option ℕ) (r : Bool)
      → lower (or_else (at 6 a) (or_else (at 7 b) (or_else (at 8 c) (or_else (at 9 d) (or_else (at 10 e) none)))))
      (at 7 (cond r (some m) none))
      ≡ or_else (at 6 a) (or_else (at 7 (or_else b (cond r (some m) none)))
      (or_else (at 8 c) (or_else (at 9 d) (at 10 e))))
  five_rules m (some i) b c d e r =
      lower_stays 7 (refused 6 (p + i)) (at 7 (cond r (some m) none)) (seven_above m r) (omega arith)
  five_rules m none (some i) c d e r =
      lower_stays 7 (refused 7 (p + i)) (at 7 (cond r (some m) none)) (seven_above m r) (omega arith)
  five_rules m none none c d e r = behind_seven m c d e r

-- what was found line by line, with the cells that remain, is the lowest number at its first line
pub rules_found : (f : Frame) (forms : List Form)
    → lower (staged 6 (suc (length (head_lines f))) (rules (cells f)) forms)
    (at (suc (length (head_lines f))) 7 (remaining (length forms) (cells f)))
    ≡ rule_broken f forms
unfolding staged rule_broken
rules_found f forms =
    rw (mismatch_lines (cells f) forms)
    (five_rules (suc (length (head_lines f))) (length forms) (first_break keeps_size [] forms)
    (first_break (shows_cell (cells f)) [] forms) (first_break keeps_names [] forms)
    (first_break (keeps_types name_readable) [] forms) (first_break keeps_rest [] forms)
    (ltb (length forms) (length (cells f))))
