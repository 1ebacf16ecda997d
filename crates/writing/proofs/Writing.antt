-- Laws of writing one byte behind the other.
use mathlib.Core.Path.{◌≡◌, refl, sym, ◌∙◌, ap}
use mathlib.Core.List.{List, [], ◌∷◌, ◌++◌, append_assoc, append-nil}
use Prim.Native.Nat.{ℕ, suc, ◌+◌, ◌<◌, ◌≤◌}
use native.Mathlib.Numerals.{add-one}
use native.Mathlib.Omega.{arith}
use lib.ListN.{length, get_or, take, drop, set, length-append, length-take, length-set}
use lib.Seq.{take-suc, take-suc-set, drop-drop, drop-set-lt}
use Rattle.writing.specs.Writes.{Writes}

-- what lies further beyond
drop_further : (a b : List ℕ) (n m : ℕ) → drop n a ≡ drop n b → drop (n + m) a ≡ drop (n + m) b
drop_further a b n m e =
    sym (drop-drop m n a) ∙ ap (λ (l : List ℕ). drop m l) e ∙ drop-drop m n b

-- one byte more of a word that is written
pub put_step : (before out word : List ℕ) (at i : ℕ) → take (at + i) out ≡ take at before ++ take i word
    → i < length word → at + i < length out
    → take (at + (i + 1)) (set out (at + i) (get_or word i 0)) ≡ take at before ++ take (i + 1) word
put_step before out word at i e h k =
    let n : at + (i + 1) ≡ suc (at + i) = omega arith in
    rw (n, add-one i, take-suc-set out (at + i) (get_or word i 0) k, take-suc word i 0 h, e)
    (append_assoc (take at before) (take i word) (get_or word i 0 ∷ []))

-- what lies beyond it
pub put_further : (before out : List ℕ) (at i x : ℕ) → drop (at + i) out ≡ drop (at + i) before
    → drop (at + (i + 1)) (set out (at + i) x) ≡ drop (at + (i + 1)) before
put_further before out at i x e =
    let n : at + (i + 1) ≡ (at + i) + 1 = omega arith in
    rw n (drop-set-lt (at + i + 1) out (at + i) x (omega arith) ∙ drop_further out before (at + i) 1 e)

pub writes_none : (out : List ℕ) (at : ℕ) → Writes out at [] out at
writes_none out at = record { text = sym (append-nil (take at out)); end = omega arith; kept = refl; beyond = refl }

-- one byte behind what was written
pub writes_byte : (before out : List ℕ) (at next b : ℕ) (w : List ℕ) → Writes before at w out next → next < length out
    → Writes before at (w ++ (b ∷ [])) (set out next b) (next + 1)
writes_byte before out at next b w p h = record {
  text = rw (add-one next, take-suc-set out next b h, p.text) (append_assoc (take at before) w (b ∷ []));
  end = omega (arith, p.end, length-append w (b ∷ []));
  kept = length-set out next b ∙ p.kept;
  beyond = drop-set-lt (next + 1) out next b (omega arith) ∙ drop_further out before next 1 p.beyond;
}

-- two writings, one behind the other
pub writes_join : {a b c : List ℕ} {at mid next : ℕ} {w u : List ℕ} → Writes a at w b mid → Writes b mid u c next
    → Writes a at (w ++ u) c next
writes_join {a} {b} {c} {at} {mid} {next} {w} {u} p q = record {
  text = rw (q.text, p.text) (append_assoc (take at a) w u);
  end = omega (arith, p.end, q.end, length-append w u);
  kept = q.kept ∙ p.kept;
  beyond = q.beyond
      ∙ (let e : next ≡ mid + length u = q.end in rw e (drop_further b a mid (length u) p.beyond));
}

-- what is written is inside the buffer
pub writes_inside : {before after : List ℕ} {at next : ℕ} {w : List ℕ} → Writes before at w after next
    → at ≤ length before
    → next ≤ length before
writes_inside {before} {after} {at} {next} {w} p h =
    let t = ap length p.text in
    omega (arith, t, length-take next after, length-append (take at before) w, length-take at before, p.end, p.kept)
