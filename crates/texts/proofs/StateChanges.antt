-- Bytes that differ only between two places: what changes them so, and what it leaves.
use mathlib.Core.Path.{◌≡◌, refl, ap, sym, ◌∙◌}
use mathlib.Core.List.{List, [], ◌∷◌, ◌++◌}
use Prim.Native.Nat.{ℕ, ◌+◌, ◌*◌, ◌-◌, ◌/◌, ◌%◌, ◌≤◌, ◌<◌}
use native.Mathlib.Omega.{arith}
use lib.ListN.{length, take, drop, get_or, length-drop}
use lib.Seq.{get_or-take, get_or-drop, length-take-le, take_at, drop_at, drop-drop}
use borrow.Rule.Slice.PartMut.{put_mid, take_put, same_len_mid}
use Rattle.rules.specs.Limits.{fields_most}
use Rattle.rules.specs.Trees.{le2}
use Rattle.laws.specs.Places.{two_at}
use Rattle.writing.specs.Writes.{Writes}
use Rattle.writing.specs.Puts.{placed, put}
use Rattle.writing.proofs.PutLaws.{put_writes}
use Rattle.texts.specs.HeldAreas.{held_room}
use Rattle.texts.specs.StateNumbers.{used_at, row_at, counts_at, held_at, state_room, reading_in, NoteIn, Saved}
use Rattle.texts.specs.PieceStates.{SameAround, row_bytes, count_bytes, held_bytes}
use Rattle.texts.specs.declared.states.Reading.{Reading}
use Rattle.texts.proofs.NameAreas.{front_less, front_part, back_less, written_front, written_word}
use Rattle.texts.proofs.StateBytes.{reading_same, reading_take, noted_same, noted_take}

-- in front of p and from q on they are the same
pub record Changed (p q : ℕ) (before after : List ℕ) : Type 0 where
  pub long : length after ≡ length before
  pub front : take p after ≡ take p before
  pub back : drop q after ≡ drop q before

-- ── changes one after the other ──

pub changed_wider : {p q : ℕ} {a b : List ℕ} (x y : ℕ) → x ≤ p → q ≤ y → Changed p q a b → Changed x y a b
changed_wider {p} {q} {a} {b} x y le ge c = record {
  long = c.long;
  front = front_less b a p x c.front le;
  back = back_less b a q y c.back ge;
}

pub changed_then : {p q : ℕ} {a b d : List ℕ} → Changed p q a b → Changed p q b d → Changed p q a d
changed_then e f = record { long = f.long ∙ e.long; front = f.front ∙ e.front; back = f.back ∙ e.back }

-- ── what changes them ──

-- a word that is written
pub writes_changed : {before after w : List ℕ} {at next : ℕ} → at ≤ length before → Writes before at w after next
    → Changed at next before after
writes_changed room p = record { long = p.kept; front = written_front p room; back = p.beyond }

-- a number of two bytes
two_long : (n : ℕ) → length (le2 n) ≡ 2
unfolding le2
two_long n = refl

-- the bytes of a part decide the number in it
pub two_word : (l : List ℕ) (at n : ℕ) → n < 65536 → take 2 (drop at l) ≡ le2 n → two_at l at ≡ n
unfolding two_at le2
two_word l at n h e =
    let q : n / 256 % 256 ≡ n / 256 = omega arith in
    let byte : (i : ℕ) → i < 2 → get_or l (at + i) 0 ≡ get_or (n % 256 ∷ n / 256 % 256 ∷ []) i 0 =
    λ i lt. sym (get_or-drop at l i 0) ∙ sym (get_or-take 2 (drop at l) i 0 lt) ∙ ap (λ (t : List ℕ). get_or t i 0) e in
    let z : at + 0 ≡ at = omega arith in
    let first : get_or l at 0 ≡ n % 256 = ap (λ (i : ℕ). get_or l i 0) (sym z) ∙ byte 0 (omega arith) in
    let second : get_or l (at + 1) 0 ≡ n / 256 % 256 = byte 1 (omega arith) in
    rw (first, second, q) (omega arith)

module _ (before : List ℕ) {after : List ℕ} {next : ℕ} (at n : ℕ) (room : at + 2 ≤ length before)
    (e : placed next after ≡ put before at (le2 n)) where
  two_writes : Writes before at (le2 n) after next
  two_writes = put_writes (let long = two_long n in omega (arith, long)) e

  pub two_changed : Changed at (at + 2) before after
  two_changed =
      let end : next ≡ at + 2 = two_writes.end ∙ ap (λ (m : ℕ). at + m) (two_long n) in
      rw end at (writes_changed (omega arith) two_writes)

  pub two_put : n < 65536 → two_at after at ≡ n
  two_put h = two_word after at n h (rw (two_long n) at (written_word two_writes (omega arith)))

-- a reading that is saved
pub saved_changed : {before after : List ℕ} {r : Reading} → Saved before r after → Changed 4 24 before after
saved_changed s = record { long = s.long; front = s.front; back = s.beyond }

-- a part that was lent
pub part_long : (a k : ℕ) (s : List ℕ) → a + k ≤ length s → length (take k (drop a s)) ≡ k
part_long a k s room = length-take-le k (drop a s) (let n = length-drop a s in omega (arith, n))

module _ (a k : ℕ) (s part : List ℕ) (room : a + k ≤ length s) (long : length part ≡ k) where
  lent_from : drop a (put_mid a k s part) ≡ part ++ drop k (drop a s)
  lent_from = drop_at (take a s) (part ++ drop k (drop a s)) a (length-take-le a s (omega arith))

  pub lent_is : take k (drop a (put_mid a k s part)) ≡ part
  lent_is = ap (take k) lent_from ∙ take_at part (drop k (drop a s)) k long

  pub lent_changed : Changed a (a + k) s (put_mid a k s part)
  lent_changed = record {
    long = same_len_mid a k s part (long ∙ sym (part_long a k s room));
    front = take_put a k s part (omega arith);
    back = sym (drop-drop k a (put_mid a k s part)) ∙ ap (drop k) lent_from
        ∙ drop_at part (drop k (drop a s)) k long ∙ drop-drop k a s;
  }

-- ── what is left ──

module _ {p q : ℕ} {a b : List ℕ} (c : Changed p q a b) where
  -- in front of the change, and behind it
  pub part_before : (x n : ℕ) → x + n ≤ p → take n (drop x b) ≡ take n (drop x a)
  part_before x n le = front_part b a p x n c.front le

  pub rest_behind : (x : ℕ) → q ≤ x → drop x b ≡ drop x a
  rest_behind x le = back_less b a q x c.back le

  pub byte_before : (i : ℕ) → i < p → get_or b i 0 ≡ get_or a i 0
  byte_before i h =
      sym (get_or-take p b i 0 h) ∙ ap (λ (t : List ℕ). get_or t i 0) c.front ∙ get_or-take p a i 0 h

  pub byte_behind : (i : ℕ) → q ≤ i → get_or b i 0 ≡ get_or a i 0
  byte_behind i h =
      let e : q + (i - q) ≡ i = omega arith in
      rw e at (sym (get_or-drop q b (i - q) 0) ∙ ap (λ (t : List ℕ). get_or t (i - q) 0) c.back
      ∙ get_or-drop q a (i - q) 0)

  pub two_before : (i : ℕ) → i + 2 ≤ p → two_at b i ≡ two_at a i
  unfolding two_at
  two_before i h = rw (byte_before i (omega arith), byte_before (i + 1) (omega arith)) refl

  pub two_behind : (i : ℕ) → q ≤ i → two_at b i ≡ two_at a i
  unfolding two_at
  two_behind i h = rw (byte_behind i h, byte_behind (i + 1) (omega arith)) refl

  -- the numbers of a reading
  pub reading_before : 24 ≤ p → reading_in b ≡ reading_in a
  reading_before le = reading_take b a (front_less b a p 24 c.front le)

  pub reading_behind : q ≤ 4 → reading_in b ≡ reading_in a
  reading_behind le = reading_same b a (λ i h. byte_behind (4 + i) (omega arith))

  pub noted_before : 24 ≤ p → NoteIn a → NoteIn b
  noted_before le = noted_take b a (front_less b a p 24 c.front le)

  pub noted_behind : q ≤ 4 → NoteIn a → NoteIn b
  noted_behind le = noted_same b a (λ i h. byte_behind (4 + i) (omega arith))

  -- the parts of a state
  pub row_behind : q ≤ row_at → row_bytes b ≡ row_bytes a
  row_behind le = ap (take 260) (rest_behind row_at le)

  pub row_before : counts_at ≤ p → row_bytes b ≡ row_bytes a
  row_before le = part_before row_at 260 (omega arith)

  pub counts_behind : q ≤ counts_at → count_bytes b ≡ count_bytes a
  counts_behind le = ap (take (2 * fields_most)) (rest_behind counts_at le)

  pub counts_before : held_at ≤ p → count_bytes b ≡ count_bytes a
  counts_before le = part_before counts_at (2 * fields_most) (omega arith)

  pub held_behind : q ≤ held_at → held_bytes b ≡ held_bytes a
  held_behind le = ap (take held_room) (rest_behind held_at le)

  pub same_around : used_at ≤ p → q ≤ state_room → SameAround a b
  same_around front back = record {
    long = c.long;
    front = front_less b a p used_at c.front front;
    beyond = rest_behind state_room back;
  }
