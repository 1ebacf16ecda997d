-- What is put where there is room, and where there is none.
use mathlib.Core.Path.{◌≡◌, sym, ◌∙◌, ap}
use mathlib.Core.List.{List, ◌++◌}
use Prim.Native.Nat.{ℕ, ◌+◌, ◌≤◌, ◌<◌}
use native.Mathlib.Omega.{arith}
use borrow.Author.Tests.{le-leb, lt-leb}
use lib.ListN.{length, take, drop, length-append, take-append-drop}
use lib.Seq.{take-length, take-paste, drop-paste, length-paste}
use Rattle.writing.specs.Writes.{Writes}
use Rattle.writing.proofs.Writing.{writes_join}
use Rattle.rules.specs.Trees.{le2}
use Rattle.rules.specs.Stored.{counted}
use Rattle.writing.specs.Puts.{Placed, placed, nowhere, put}

-- where w does not fit
pub put_none : (before : List ℕ) (at : ℕ) (w : List ℕ) → length before < at + length w
    → placed nowhere before ≡ put before at w
unfolding put
put_none before at w h = rw (lt-leb (at + length w) (length before) h)

-- where it fits
pub put_some : (before : List ℕ) (at : ℕ) (w : List ℕ) → at + length w ≤ length before
    → placed (at + length w) ((take at before ++ w) ++ drop (at + length w) before) ≡ put before at w
unfolding put
put_some before at w h = rw (le-leb (at + length w) (length before) h)

pub put_writes : {before after : List ℕ} {at next : ℕ} {w : List ℕ} → at + length w ≤ length before
    → placed next after ≡ put before at w → Writes before at w after next
put_writes {before} {after} {at} {next} {w} h e =
    let p : placed next after ≡ placed (at + length w) ((take at before ++ w) ++ drop (at + length w) before) =
    e ∙ sym (put_some before at w h) in
    let n : next ≡ at + length w = ap (λ (x : Placed). x.next) p in
    let a : after ≡ (take at before ++ w) ++ drop (at + length w) before = ap (λ (x : Placed). x.buffer) p in
    let whole : take (length w) w ≡ w = take-length w in
    let front = take-paste before at w (length w) (omega arith) (omega arith) in
    let back = drop-paste before at w (length w) (omega arith) (omega arith) in
    let size = length-paste before at w (length w) h (omega arith) in
    record {
      text = rw (n, a) (rw whole at front);
      end = n;
      kept = rw a (rw whole at size);
      beyond = rw (n, a) (rw whole at back);
    }

pub writes_put : {before after : List ℕ} {at next : ℕ} {w : List ℕ} → at + length w ≤ length before
    → Writes before at w after next → placed next after ≡ put before at w
writes_put {before} {after} {at} {next} {w} h p =
    let n : next ≡ at + length w = p.end in
    let a : after ≡ (take at before ++ w) ++ drop (at + length w) before =
    sym (take-append-drop next after) ∙ rw (p.text, p.beyond, n) in
    rw (n, a) (put_some before at w h)

-- two texts, one behind the other, where both fit
pub put_join : (before : List ℕ) (at : ℕ) (w u : List ℕ) {mid after : List ℕ} {next end : ℕ}
    → at + length (w ++ u) ≤ length before → placed next mid ≡ put before at w → placed end after ≡ put mid next u
    → placed end after ≡ put before at (w ++ u)
put_join before at w u {mid} {after} {next} {end} h p q =
    let l = length-append w u in
    let front = put_writes {w = w} (omega arith) p in
    let back = put_writes {w = u} (omega (arith, front.end, front.kept)) q in
    writes_put h (writes_join front back)

pub counted_length : (w : List ℕ) → length (counted w) ≡ 2 + length w
unfolding le2
counted_length w = omega (arith, length-append (le2 (length w)) w)
