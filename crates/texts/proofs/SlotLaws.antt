-- A cell as it is kept: its bytes, and whether it is one for the field of a line.
use mathlib.Core.Path.{◌≡◌, refl, ap, sym, ◌∙◌}
use mathlib.Core.Bool.{Bool, true, false}
use mathlib.Core.List.{List, [], ◌∷◌, ◌++◌, append_assoc}
use Prim.Native.Nat.{ℕ, ◌+◌, ◌-◌, ◌/◌, ◌≤◌, ◌<◌}
use native.Mathlib.Omega.{arith}
use lib.Dec.{eqb}
use lib.ListN.{length, take, drop, get_or, length-drop, length-append}
use lib.Seq.{get_or-drop, drop-drop, drop_at, take-append_seam, take-append-le, take-take, take-add, length-take-le}
use Rattle.writing.specs.Writes.{Writes}
use Rattle.rules.specs.Frames.{Slot}
use Rattle.rules.specs.Values.{yes_no}
use Rattle.writing.specs.Puts.{placed, put}
use Rattle.writing.proofs.PutLaws.{put_writes}
use Rattle.rules.specs.Rows.{cell_text}
use Rattle.texts.specs.RowPlaces.{cell_at, slot_at}
use Rattle.texts.specs.Slots.{stored_slot}
use Rattle.texts.proofs.CellSteps.{length_four}

-- ── its bytes ──

pub slot_length : (c : Slot) → length (stored_slot c) ≡ 3 + length c.text
unfolding stored_slot
slot_length c = omega arith

module _ (cells : List ℕ) (at : ℕ) (c : Slot) (behind : List ℕ) (e : drop at cells ≡ stored_slot c ++ behind) where
  byte : (k : ℕ) → get_or cells (at + k) 0 ≡ get_or (stored_slot c ++ behind) k 0
  byte k = sym (get_or-drop at cells k 0) ∙ ap (λ (l : List ℕ). get_or l k 0) e

  pub slot_long : eqb (get_or cells at 0) 1 ≡ c.long
  unfolding stored_slot
  slot_long = let z : at + 0 ≡ at = omega arith in rw z at (ap (λ (n : ℕ). eqb n 1) (byte 0)) ∙ go c.long
    where
      go : (b : Bool) → eqb (yes_no b) 1 ≡ b
      go true = refl
      go false = refl

  pub slot_bits : get_or cells (at + 1) 0 ≡ c.bits
  unfolding stored_slot
  slot_bits = byte 1

  slot_size : get_or cells (at + 2) 0 ≡ length c.text
  unfolding stored_slot
  slot_size = byte 2

  pub slot_text : take (length c.text) (drop (at + 3) cells) ≡ c.text
  unfolding stored_slot
  slot_text =
      ap (take (length c.text)) (sym (drop-drop 3 at cells) ∙ ap (drop 3) e) ∙ take-append_seam c.text behind

  slot_fits : at ≤ length cells → at + (3 + length c.text) ≤ length cells
  slot_fits le = omega (
    arith,
    le,
    ap length e,
    length-drop at cells,
    length-append (stored_slot c) behind,
    slot_length c,
  )

-- ── its end ──

module _ (cells : List ℕ) (at len : ℕ) (room : at + 3 ≤ length cells) (is : len ≡ get_or cells (at + 2) 0) where
  pub end_none : length cells - (at + 3) < len → (c : Slot) (behind : List ℕ) → drop at cells ≡ stored_slot c ++ behind
      → at + 3 ≡ at + length (stored_slot c)
  end_none lt c behind e =
      absurd (omega (arith, lt, is, slot_size cells at c behind e, slot_fits cells at c behind e (omega arith)))

  pub end_some : (c : Slot) (behind : List ℕ) → drop at cells ≡ stored_slot c ++ behind
      → at + 3 + len ≡ at + length (stored_slot c)
  end_some c behind e = omega (arith, is, slot_size cells at c behind e, slot_length c)

-- ── a cell that is put: its text first, then what stands in front of it ──

-- a text that is put in front of one that is there
writes_front : {before mid after : List ℕ} {at end next : ℕ} (w u : List ℕ) → at + length w ≤ length before
    → Writes before (at + length w) u mid end → Writes mid at w after next → Writes before at (w ++ u) after end
writes_front {before} {mid} {after} {at} {end} {next} w u room p q =
    let k : ℕ = at + length w in
    let n : next ≡ k = q.end in
    let e : end ≡ k + length u = p.end in
    let l : length (take k before) ≡ k = length-take-le k before room in
    let t : take (k + length u) mid ≡ take k before ++ u = rw e at p.text in
    let back : take (length u) (drop k mid) ≡ u =
    sym (drop_at (take k mid) (take (length u) (drop k mid)) k (length-take-le k mid (omega (arith, p.kept, room))))
    ∙ ap (drop k) (sym (take-add k (length u) mid) ∙ t) ∙ drop_at (take k before) u k l in
    let front : take at mid ≡ take at before =
    sym (take-take at (k + length u) mid (omega arith)) ∙ ap (take at) t
    ∙ take-append-le at (take k before) u (omega (arith, l)) ∙ take-take at k before (omega arith) in
    let beyond : drop k after ≡ drop k mid = rw n at q.beyond in
    let written : take k after ≡ take at mid ++ w = rw n at q.text in
    record {
      text = rw (e, take-add k (length u) after, written, front, beyond, back) (append_assoc (take at before) w u);
      end = omega (arith, e, length-append w u);
      kept = q.kept ∙ p.kept;
      beyond =
          rw e (sym (drop-drop (length u) k after) ∙ ap (drop (length u)) beyond ∙ drop-drop (length u) k mid)
          ∙ p.beyond;
    }

module _ (row : List ℕ) (n a b : ℕ) where
  abbrev text : List ℕ
  text = cell_text (cell_at row n a (b - a))

  -- the numbers in front fit a byte
  pub text_byte : {before mid : List ℕ} {at end : ℕ} → n ≤ 4 → 0 < a → a ≤ b → b < 65
      → Writes before at text mid end → end - at < 256
  text_byte {before} {mid} {at} {end} le lt le' lt' w = omega (arith, w.end, length_four row a (b - a) n le)

  pub slot_put : (long : Bool) {before mid after : List ℕ} {at end next x : ℕ} → at + 3 ≤ length before
      → Writes before (at + 3) text mid end → x ≡ yes_no long
      → placed next after ≡ put mid at (x ∷ (b - a + 1) / 2 ∷ (end - (at + 3)) ∷ [])
      → Writes before at (stored_slot (slot_at long row n a (b - a))) after end
  unfolding stored_slot
  slot_put long {before} {mid} {after} {at} {end} {next} {x} room w y p =
      let l : end - (at + 3) ≡ length text = omega (arith, w.end) in
      let head : List ℕ = yes_no long ∷ (b - a + 1) / 2 ∷ length text ∷ [] in
      let q : placed next after ≡ put mid at head = rw (y, l) at p in
      writes_front head text room w (put_writes {w = head} (omega (arith, w.kept, room)) q)
