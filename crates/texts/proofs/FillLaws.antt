-- Bytes set to one value.
use mathlib.Core.Path.{◌≡◌, ap, ap₂, sym, ◌∙◌}
use mathlib.Core.List.{List, ◌++◌, append_assoc}
use Prim.Native.Nat.{ℕ, ◌+◌, ◌-◌, ◌≤◌}
use native.Mathlib.Nat.{sub-zero}
use native.Mathlib.Omega.{arith}
use lib.ListN.{length, take, drop, replicate, length-replicate, replicate-append-replicate, length-append}
use lib.ListN.{length-drop}
use lib.Seq.{take_at, drop_at, drop-drop, length-take-le}
use borrow.Rule.Slice.PartMut.{put_mid}
use Rattle.texts.specs.Fills.{filled, zeros, zeros_around}
use Rattle.texts.proofs.StateChanges.{Changed}

-- a part set by the library
pub filled_put : (from to b : ℕ) (s part : List ℕ) → from ≤ to → to ≤ length s
    → part ≡ replicate (length (take (to - from) (drop from s))) b → put_mid from (to - from) s part ≡ filled from
    to b s
unfolding filled
filled_put from to b s part le room e =
    let n = length-take-le (to - from) (drop from s) (omega (arith, length-drop from s)) in
    let k : from + (to - from) ≡ to = omega arith in
    ap (λ (l : List ℕ). take from s ++ (l ++ drop (to - from) (drop from s))) (e ∙ ap (λ (m : ℕ). replicate m b) n)
    ∙ ap (λ (l : List ℕ). take from s ++ (replicate (to - from) b ++ l))
    (drop-drop (to - from) from s ∙ ap (λ (m : ℕ). drop m s) k)

-- what stays, and what is set
module _ (from to b : ℕ) (s : List ℕ) (le : from ≤ to) (room : to ≤ length s) where
  filled_from : drop from (filled from to b s) ≡ replicate (to - from) b ++ drop to s
  unfolding filled
  filled_from =
      drop_at (take from s) (replicate (to - from) b ++ drop to s) from (length-take-le from s (omega arith))

  pub filled_there : take (to - from) (drop from (filled from to b s)) ≡ replicate (to - from) b
  filled_there =
      ap (take (to - from)) filled_from
      ∙ take_at (replicate (to - from) b) (drop to s) (to - from) (length-replicate (to - from) b)

  pub filled_changed : Changed from to s (filled from to b s)
  unfolding filled
  filled_changed =
      let x = length-append (take from s) (replicate (to - from) b ++ drop to s) in
      let y = length-append (replicate (to - from) b) (drop to s) in
      let z = length-replicate (to - from) b in
      let v = length-take-le from s (omega arith) in
      let w = length-drop to s in
      let back : from + (to - from) ≡ to = omega arith in
      record {
        long = omega (arith, x, y, z, v, w);
        front = take_at (take from s) (replicate (to - from) b ++ drop to s) from v;
        back = ap (λ (m : ℕ). drop m (filled from to b s)) (sym back)
            ∙ sym (drop-drop (to - from) from (filled from to b s)) ∙ ap (drop (to - from)) filled_from
            ∙ drop_at (replicate (to - from) b) (drop to s) (to - from) z;
      }

-- from the start
filled_start : (n b : ℕ) (s : List ℕ) → filled 0 n b s ≡ replicate n b ++ drop n s
unfolding filled
filled_start n b s = ap (λ (m : ℕ). replicate m b ++ drop n s) (sub-zero n)

split : (n m b : ℕ) (d : List ℕ) → replicate (n + m) b ++ d ≡ replicate n b ++ (replicate m b ++ d)
split n m b d =
    ap (λ (l : List ℕ). l ++ d) (sym (replicate-append-replicate n m b))
    ∙ append_assoc (replicate n b) (replicate m b) d

-- a part of them
pub filled_part : (n b : ℕ) (s : List ℕ) (x m : ℕ) → x + m ≤ n → take m (drop x (filled 0 n b s)) ≡ replicate m b
filled_part n b s x m le =
    let e : n ≡ x + (m + (n - (x + m))) = omega arith in
    let k = n - (x + m) in
    let d = drop n s in
    ap (λ (l : List ℕ). take m (drop x l)) (filled_start n b s)
    ∙ ap (λ (i : ℕ). take m (drop x (replicate i b ++ d))) e
    ∙ ap (λ (l : List ℕ). take m (drop x l)) (split x (m + k) b d)
    ∙ ap (take m) (drop_at (replicate x b) (replicate (m + k) b ++ d) x (length-replicate x b) ∙ split m k b d)
    ∙ take_at (replicate m b) (replicate k b ++ d) m (length-replicate m b)

-- zeros behind some of them
pub zeros_behind : (k n : ℕ) → k ≤ n → drop k (zeros n) ≡ zeros (n - k)
unfolding zeros
zeros_behind k n le =
    let e : n ≡ k + (n - k) = omega arith in
    ap (λ (m : ℕ). drop k (replicate m 0)) e
    ∙ ap (drop k) (sym (replicate-append-replicate k (n - k) 0))
    ∙ drop_at (replicate k 0) (replicate (n - k) 0) k (length-replicate k 0)

-- zeros of which n bytes in a lent part are b
module _ (before n more behind b : ℕ) (s : List ℕ) where
  abbrev whole : ℕ
  whole = before + (n + (more + behind))

  abbrev rest : List ℕ
  rest = drop whole s

  abbrev nulls : ℕ → List ℕ
  nulls k = replicate k 0

  zeros_all : filled 0 whole 0 s ≡ nulls before ++ (nulls n ++ (nulls more ++ (nulls behind ++ rest)))
  zeros_all =
      filled_start whole 0 s ∙ split before (n + (more + behind)) 0 rest
      ∙ ap (λ (l : List ℕ). nulls before ++ l)
      (split n (more + behind) 0 rest ∙ ap (λ (l : List ℕ). nulls n ++ l) (split more behind 0 rest))

  zeros_from : drop before (filled 0 whole 0 s) ≡ (nulls n ++ nulls more) ++ (nulls behind ++ rest)
  zeros_from =
      ap (drop before) zeros_all
      ∙ drop_at (nulls before) (nulls n ++ (nulls more ++ (nulls behind ++ rest))) before (length-replicate before 0)
      ∙ sym (append_assoc (nulls n) (nulls more) (nulls behind ++ rest))

  zeros_long : length (nulls n ++ nulls more) ≡ n + more
  zeros_long =
      length-append (nulls n) (nulls more)
      ∙ ap₂ {C = ℕ} (λ (x y : ℕ). x + y) (length-replicate n 0) (length-replicate more 0)

  part_is : take (n + more) (drop before (filled 0 whole 0 s)) ≡ nulls n ++ nulls more
  part_is =
      ap (take (n + more)) zeros_from ∙ take_at (nulls n ++ nulls more) (nulls behind ++ rest) (n + more) zeros_long

  names_are : filled 0 n b (take (n + more) (drop before (filled 0 whole 0 s))) ≡ replicate n b ++ nulls more
  names_are =
      filled_start n b (take (n + more) (drop before (filled 0 whole 0 s)))
      ∙ ap (λ (l : List ℕ). replicate n b ++ drop n l) part_is
      ∙ ap (λ (l : List ℕ). replicate n b ++ l) (drop_at (nulls n) (nulls more) n (length-replicate n 0))

  -- with the part put back
  around_all : put_mid before (n + more) (filled 0 whole 0 s)
      (filled 0 n b (take (n + more) (drop before (filled 0 whole 0 s))))
      ≡ zeros_around before n b (more + behind) ++ rest
  unfolding zeros_around
  around_all =
      let front : take before (filled 0 whole 0 s) ≡ nulls before =
      ap (take before) zeros_all
      ∙ take_at (nulls before) (nulls n ++ (nulls more ++ (nulls behind ++ rest))) before (length-replicate before 0) in
      let back : drop (n + more) (drop before (filled 0 whole 0 s)) ≡ nulls behind ++ rest =
      ap (drop (n + more)) zeros_from
      ∙ drop_at (nulls n ++ nulls more) (nulls behind ++ rest) (n + more) zeros_long in
      let joint : nulls more ++ (nulls behind ++ rest) ≡ nulls (more + behind) ++ rest =
      sym (split more behind 0 rest) in
      ap₂ {C = List ℕ} (λ (x y : List ℕ). x ++ y) front
      (ap₂ {C = List ℕ} (λ (x y : List ℕ). x ++ y) names_are back
      ∙ append_assoc (replicate n b) (nulls more) (nulls behind ++ rest)
      ∙ ap (λ (l : List ℕ). replicate n b ++ l) joint
      ∙ sym (append_assoc (replicate n b) (nulls (more + behind)) rest))
      ∙ sym (append_assoc (nulls before) (replicate n b ++ nulls (more + behind)) rest)

  around_long : length (zeros_around before n b (more + behind)) ≡ whole
  unfolding zeros_around
  around_long =
      length-append (nulls before) (replicate n b ++ nulls (more + behind))
      ∙ ap₂ {C = ℕ} (λ (x y : ℕ). x + y) (length-replicate before 0)
      (length-append (replicate n b) (nulls (more + behind))
      ∙ ap₂ {C = ℕ} (λ (x y : ℕ). x + y) (length-replicate n b) (length-replicate (more + behind) 0))

  pub around_front : take whole (put_mid before (n + more) (filled 0 whole 0 s)
      (filled 0 n b (take (n + more) (drop before (filled 0 whole 0 s)))))
      ≡ zeros_around before n b (more + behind)
  around_front =
      ap (take whole) around_all ∙ take_at (zeros_around before n b (more + behind)) rest whole around_long
