-- The cells of the kept lines of a row, put one behind the other.
use mathlib.Core.Path.{◌≡◌, refl, ap, sym, ◌∙◌, subst}
use mathlib.Core.Bool.{Bool, true, false, ◌&&◌, and-false}
use mathlib.Core.List.{List, [], ◌∷◌, ◌++◌, append_assoc, append-nil}
use Prim.Native.Nat.{ℕ, suc, ◌+◌, ◌*◌, ◌-◌, ◌≤◌, ◌<◌}
use native.Mathlib.Omega.{arith}
use native.Mathlib.Nat.{sub-zero}
use lib.Dec.{eqb}
use lib.ListN.{length, take, drop, get_or, length-append, length-take, length-drop, drop_of_length-le, take-append-drop}
use lib.Seq.{get_or-take, drop_at, take-take, take-append-le, length-take-le}
use Rattle.base.specs.Lists.{all, is_empty, joined}
use Rattle.base.proofs.Joined.{joined_append, joined_one}
use Rattle.writing.specs.Writes.{Writes}
use Rattle.writing.proofs.Writing.{writes_none, writes_join, writes_inside}
use Rattle.rules.specs.Names.{is_label}
use Rattle.rules.specs.Frames.{Slot}
use Rattle.text_laws.specs.FrameReader.{pieces, rest}
use Rattle.texts.specs.FramePlaces.{up_to}
use Rattle.texts.specs.RowPlaces.{slot_at, slots_from, slots_at}
use Rattle.texts.specs.Slots.{stored_slot, RowedBy, are_labels, RowedAs}
use Rattle.std.specs.Prelude.{None, Some}
use Rattle.texts.proofs.CellSteps.{length_four}
use Rattle.texts.proofs.SlotLaws.{slot_length, slot_text}
use Rattle.texts.proofs.SplitSteps.{piece_at, piece_length, rest_at, piece_none}

-- ── what is written ──

-- what stood before the place stays
pub writes_keep : {before after : List ℕ} {at next : ℕ} {w : List ℕ} → at ≤ length before
    → Writes before at w after next → take at after ≡ take at before
writes_keep {before} {after} {at} {next} {w} le p =
    let l : length (take at before) ≡ at = length-take-le at before le in
    sym (take-take at next after (omega (arith, p.end))) ∙ ap (take at) p.text
    ∙ take-append-le at (take at before) w (omega (arith, l)) ∙ take-take at at before (omega arith)

-- what is written stands at the place
pub writes_there : {before after : List ℕ} {at next : ℕ} {w : List ℕ} → at ≤ length before
    → Writes before at w after next → drop at after ≡ w ++ drop next after
writes_there {before} {after} {at} {next} {w} le p =
    ap (drop at) (sym (take-append-drop next after) ∙ ap (λ (l : List ℕ). l ++ drop next after) p.text
    ∙ append_assoc (take at before) w (drop next after))
    ∙ drop_at (take at before) (w ++ drop next after) at (length-take-le at before le)

-- ── the cells from a column on ──

-- what is left of the row decides: each part is ended, and its text is a label
abbrev left_labels : List ℕ → ℕ → ℕ → ℕ → Bool
left_labels row n size from =
    is_empty (rest (get_or row 0 0) (drop from (take size row)))
    && all (λ c. is_label c.text) (slots_at row n size from)

-- the end of a part, as the code finds it
pub end_is : (row : List ℕ) (size from to : ℕ) → 0 < size
    → to ≡ from + up_to (get_or (take (size - 0) row) 0 0) (drop from (take (size - 0) row))
    → to ≡ from + up_to (get_or row 0 0) (drop from (take size row))
end_is row size from to lt e = rw (sub-zero size, get_or-take size row 0 0 lt) at e

-- the cell from a column to the next bar is put behind the cells
pub record OnePut (row : List ℕ) (n size : ℕ) (cells : List ℕ) (next from to : ℕ) (after : List ℕ) (end : ℕ)
    : Type 0 where
  pub fits : size ≤ length row
  pub is_end : to ≡ from + up_to (get_or row 0 0) (drop from (take size row))
  pub inside : to < size
  pub room : next ≤ length cells
  pub writes : Writes cells next (stored_slot (slot_at (eqb (get_or row 0 0) 58) row n from (to - from))) after end

-- as the code has it
pub one_put : (row : List ℕ) (n size from to : ℕ) {cells after : List ℕ} {next end : ℕ} → size ≤ length row
    → 0 < size → to ≡ from + up_to (get_or (take (size - 0) row) 0 0) (drop from (take (size - 0) row))
    → to < size → next ≤ length cells
    → Writes cells next (stored_slot (slot_at (eqb (get_or (take (size - 0) row) 0 0) 58) row n from (to - from))) after
    end
    → OnePut row n size cells next from to after end
one_put row n size from to fits lt e inside room w = record {
  fits = fits;
  is_end = end_is row size from to lt e;
  inside = inside;
  room = room;
  writes = rw (sub-zero size, get_or-take size row 0 0 lt) at w;
}

module _ {row : List ℕ} {n size : ℕ} {cells : List ℕ} {next from to : ℕ} {after : List ℕ} {end : ℕ}
    (o : OnePut row n size cells next from to after end)
  where
    abbrev put : Slot
    put = slot_at (eqb (get_or row 0 0) 58) row n from (to - from)

    -- where its text stands
    pub text_place : (next + 3 ≤ end) × (end ≤ length after)
    text_place = (
      omega (arith, o.writes.end, slot_length put),
      omega (arith, writes_inside o.writes o.room, o.writes.kept),
    )

    -- and whether that is a label
    pub label_there : is_label (take (end - (next + 3)) (drop (next + 3) after)) ≡ is_label put.text
    label_there =
        let k : end - (next + 3) ≡ length put.text = omega (arith, o.writes.end, slot_length put) in
        let t : take (end - (next + 3)) (drop (next + 3) after) ≡ put.text =
        rw k (slot_text after next put (drop end after) (writes_there o.room o.writes)) in
        ap is_label t

module _ (row : List ℕ) (n size from to : ℕ) (fits : size ≤ length row) where
  abbrev IsEnd : Type 0
  IsEnd = to ≡ from + up_to (get_or row 0 0) (drop from (take size row))

  whole : length (take size row) ≡ size
  whole = length-take-le size row fits

  abbrev cell : Slot
  cell = slot_at (eqb (get_or row 0 0) 58) row n from (to - from)

  slots_step : IsEnd → to < size → slots_at row n size from ≡ cell ∷ slots_at row n size (to + 1)
  unfolding slots_from
  slots_step e lt =
      let l : to < length (take size row) = omega (arith, whole) in
      let k = piece_length (get_or row 0 0) (take size row) from to e l in
      let s : from + suc (to - from) ≡ to + 1 = omega (arith, e) in
      rw (piece_at (get_or row 0 0) (take size row) from to e l, k, s) refl

  left_step : IsEnd → to < size → left_labels row n size from
      ≡ (is_empty (rest (get_or row 0 0) (drop (to + 1) (take size row)))
      && (is_label cell.text && all (λ c. is_label c.text) (slots_at row n size (to + 1))))
  unfolding all
  left_step e lt =
      let l : to < length (take size row) = omega (arith, whole) in
      rw (slots_step e lt, rest_at (get_or row 0 0) (take size row) from to e l) refl

  -- no bar stands behind it
  left_open : IsEnd → from < size → size ≤ to → to ≤ size → left_labels row n size from ≡ false
  left_open e lt ge le =
      let q = (piece_none (get_or row 0 0) (take size row) from to e (omega (arith, whole)) (omega (arith, whole))
      (omega (arith, whole))).1 in
      rw q (go (drop from (take size row)) (omega (arith, whole, length-drop from (take size row))))
    where
      go : (s : List ℕ) → 0 < length s → (is_empty s && all (λ c. is_label c.text) (slots_at row n size from)) ≡ false
      go [] lt = absurd (omega arith)
      go (b ∷ s) lt = refl

none_left : (row : List ℕ) (n size from : ℕ) → size ≤ from
    → (slots_at row n size from ≡ []) × (left_labels row n size from ≡ true)
unfolding pieces rest slots_from all
none_left row n size from le =
    let e : drop from (take size row) ≡ [] =
    drop_of_length-le (take size row) {i = from} (omega (arith, length-take size row)) in
    (rw e refl, rw e refl)

-- ── cells put one behind the other ──

-- the cells before the column from are put, and their number is many
pub record Putting (before : List ℕ) (at : ℕ) (row : List ℕ) (n size : ℕ) (cells : List ℕ) (next from many : ℕ)
    : Type 0 where
  pub done : List Slot
  pub is_all : slots_at row n size 1 ≡ done ++ slots_at row n size from
  pub count : length done ≡ many
  pub writes : Writes before at (joined stored_slot done) cells next
  pub tells : are_labels row n size ≡ left_labels row n size from
  pub near : next + 7 * (size - from) ≤ at + 7 * size
  pub few : many ≤ from

pub putting_start : (before row : List ℕ) (at n size : ℕ) → Putting before at row n size before at 1 0
unfolding joined
putting_start before row at n size = record {
  done = [];
  is_all = refl;
  count = refl;
  writes = writes_none before at;
  tells = refl;
  near = omega arith;
  few = omega arith;
}

module _ {before cells row : List ℕ} {at n size next from many : ℕ}
    (p : Putting before at row n size cells next from many) (room : at ≤ length before)
  where
    wrong : {w after : List ℕ} {end : ℕ} → Writes before at w after end → left_labels row n size from ≡ false
        → RowedAs row n size before at after None
    wrong {w} {after} {end} v e =
        subst (λ (b : Bool). RowedBy b before at (slots_at row n size 1) after None) (sym (p.tells ∙ e))
        (refl, writes_keep room v, v.kept)

    pub putting_open : (to : ℕ) → size ≤ length row
        → to ≡ from + up_to (get_or row 0 0) (drop from (take size row)) → from < size → size ≤ to → to ≤ size
        → RowedAs row n size before at cells None
    putting_open to fits e lt ge le = wrong p.writes (left_open row n size from to fits e lt ge le)

    pub putting_end : size ≤ from → RowedAs row n size before at cells (Some (next, many))
    putting_end le =
        let q = none_left row n size from le in
        let w : slots_at row n size 1 ≡ p.done =
        p.is_all ∙ ap (λ (cs : List Slot). p.done ++ cs) q.0 ∙ append-nil p.done in
        subst (λ (b : Bool). RowedBy b before at (slots_at row n size 1) cells (Some (next, many)))
        (sym (p.tells ∙ q.1)) (record {
          next = next;
          answer = ap (λ (k : ℕ). Some (next, k)) (sym p.count ∙ ap length (sym w));
          writes = rw w p.writes;
        })

    module _ {to : ℕ} {after : List ℕ} {end : ℕ} (o : OnePut row n size cells next from to after end) where
      abbrev one : Slot
      one = slot_at (eqb (get_or row 0 0) 58) row n from (to - from)

      more : Writes before at (joined stored_slot (p.done ++ (one ∷ []))) after end
      more =
          rw (joined_append stored_slot p.done (one ∷ []), joined_one stored_slot one)
          (writes_join p.writes o.writes)

      pub putting_wrong : is_label one.text ≡ false → RowedAs row n size before at after None
      putting_wrong l =
          let b : Bool = is_empty (rest (get_or row 0 0) (drop (to + 1) (take size row))) in
          wrong more (left_step row n size from to o.fits o.is_end o.inside ∙ rw l (and-false b))

      pub putting_next : is_label one.text ≡ true → n ≤ 4
          → Putting before at row n size after end (to + 1) (many + 1)
      putting_next l le =
          let lt = o.inside in
          let e = o.is_end in
          record {
            done = p.done ++ (one ∷ []);
            is_all = p.is_all ∙ ap (λ (cs : List Slot). p.done ++ cs) (slots_step row n size from to o.fits e lt)
                ∙ sym (append_assoc p.done (one ∷ []) (slots_at row n size (to + 1)));
            count = length-append p.done (one ∷ []) ∙ omega (arith, p.count);
            writes = more;
            tells = p.tells ∙ left_step row n size from to o.fits e lt ∙ rw l refl;
            near = omega (
              arith,
              p.near,
              o.writes.end,
              slot_length one,
              length_four row from (to - from) n le,
              e,
              lt,
            );
            few = omega (arith, p.few, e);
          }
