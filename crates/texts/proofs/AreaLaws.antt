-- A part of the bytes that hold what is kept, lent and back: the other parts are as they were.
use mathlib.Core.Path.{◌≡◌, refl, ap, sym, ◌∙◌}
use mathlib.Core.List.{List, [], ◌∷◌, ◌++◌}
use Prim.Native.Nat.{ℕ, zero, suc, ◌+◌, ◌≤◌}
use native.Mathlib.Omega.{arith}
use lib.ListN.{length, take, drop, length-drop}
use lib.Seq.{take-take, length-take-le, take_at, drop_at, drop-drop}
use borrow.Rule.Slice.PartMut.{put_mid, take_put, same_len_mid}
use Rattle.rules.specs.Limits.{fields_most, label_most, short_most}
use Rattle.text_laws.specs.Fold as fold
use Rattle.texts.specs.HeldNames.{names_in, labels_in, names_room, labels_room, NamesRoom}
use Rattle.texts.specs.HeldAreas.{
  slots_most,
  records_most,
  names_at,
  labels_at,
  table_at,
  held_room,
  cell_bytes,
  name_bytes,
}
use Rattle.texts.specs.HeldAreas.{label_bytes, table_bytes}
use Rattle.texts.specs.States.{area, Holds, HoldsIn}
use Rattle.texts.specs.declared.states.Reading.{Reading}
use Rattle.texts.proofs.NameAreas.{entries_length}

-- ── a part of a list ──

-- a part in front of a place stands in what is in front of it
part_front : (b m a : ℕ) (z : List ℕ) → b + m ≤ a → take m (drop b (take a z)) ≡ take m (drop b z)
part_front zero m a z le = take-take m a z (omega arith)
part_front (suc b) m zero z le = absurd (omega arith)
part_front (suc b) m (suc a) [] le = refl
part_front (suc b) m (suc a) (x ∷ z) le = part_front b m a z (omega arith)

module _ (a k : ℕ) (xs ys : List ℕ) (le : a ≤ length xs) where
  mid_before : (b m : ℕ) → b + m ≤ a → take m (drop b (put_mid a k xs ys)) ≡ take m (drop b xs)
  mid_before b m lt =
      sym (part_front b m a (put_mid a k xs ys) lt)
      ∙ ap (λ (z : List ℕ). take m (drop b z)) (take_put a k xs ys le)
      ∙ part_front b m a xs lt

  mid_from : drop a (put_mid a k xs ys) ≡ ys ++ drop k (drop a xs)
  mid_from = drop_at (take a xs) (ys ++ drop k (drop a xs)) a (length-take-le a xs le)

  module _ (long : length ys ≡ k) where
    mid_here : take k (drop a (put_mid a k xs ys)) ≡ ys
    mid_here = ap (take k) mid_from ∙ take_at ys (drop k (drop a xs)) k long

    mid_behind : (c : ℕ) → drop (a + k + c) (put_mid a k xs ys) ≡ drop (a + k + c) xs
    mid_behind c =
        sym (drop-drop c (a + k) (put_mid a k xs ys))
        ∙ ap (drop c) (sym (drop-drop k a (put_mid a k xs ys))
        ∙ ap (drop k) mid_from ∙ drop_at ys (drop k (drop a xs)) k long
        ∙ drop-drop k a xs)
        ∙ drop-drop c (a + k) xs

-- ── the parts of the bytes ──

pub record AreasAre (held cells names labels table : List ℕ) : Type 0 where
  pub cells_are : cell_bytes held ≡ cells
  pub names_are : name_bytes held ≡ names
  pub labels_are : label_bytes held ≡ labels
  pub table_is : table_bytes held ≡ table

pub areas_hold : (f : fold.Found) (r : Reading) {held cells names labels table : List ℕ} (counts : List ℕ)
    → AreasAre held cells names labels table
    → Holds f r cells (area table counts) (labels_in labels) (names_in names) → HoldsIn f r held counts
areas_hold f r counts a h = rw (a.cells_are, a.names_are, a.labels_are, a.table_is) h

-- one part after the other
pub areas_after : {before held cells names labels table : List ℕ} {cells' names' labels' table' : List ℕ}
    → AreasAre before cells names labels table → AreasAre held cells' names' labels' table'
    → cells' ≡ cell_bytes before → names' ≡ name_bytes before → labels' ≡ label_bytes before
    → AreasAre held cells names labels table'
areas_after a b c n l = record {
  cells_are = b.cells_are ∙ c ∙ a.cells_are;
  names_are = b.names_are ∙ n ∙ a.names_are;
  labels_are = b.labels_are ∙ l ∙ a.labels_are;
  table_is = b.table_is;
}

area_long : (held : List ℕ) (a n : ℕ) → a + n ≤ length held → length (take n (drop a held)) ≡ n
area_long held a n le = length-take-le n (drop a held) (let m = length-drop a held in omega (arith, m))

module _ (held : List ℕ) (room : held_room ≤ length held) where
  pub cells_long : length (cell_bytes held) ≡ slots_most
  cells_long = area_long held 0 slots_most (omega arith)

  pub names_long : length (name_bytes held) ≡ names_room
  names_long = area_long held names_at names_room (omega arith)

  pub labels_long : length (label_bytes held) ≡ labels_room
  labels_long = area_long held labels_at labels_room (omega arith)

  pub table_long : length (table_bytes held) ≡ records_most
  table_long = area_long held table_at records_most (omega arith)

module _ (held part : List ℕ) (room : held_room ≤ length held) where
  pub labels_back : length part ≡ labels_room → length (put_mid labels_at labels_room held part) ≡ length held
  labels_back long = same_len_mid labels_at labels_room held part (long ∙ sym (labels_long held room))

  pub cells_put : length part ≡ slots_most
      → AreasAre (put_mid 0 slots_most held part) part (name_bytes held) (label_bytes held) (table_bytes held)
  cells_put long = record {
    cells_are = mid_here 0 slots_most held part (omega arith) long;
    names_are = ap (take names_room) (mid_behind 0 slots_most held part (omega arith) long 0);
    labels_are = ap (take labels_room) (mid_behind 0 slots_most held part (omega arith) long names_room);
    table_is = ap (take records_most) (mid_behind 0 slots_most held part (omega arith) long (names_room + labels_room));
  }

  pub names_put : length part ≡ names_room
      → AreasAre (put_mid names_at names_room held part) (cell_bytes held) part (label_bytes held) (table_bytes held)
  names_put long = record {
    cells_are = mid_before names_at names_room held part (omega arith) 0 slots_most (omega arith);
    names_are = mid_here names_at names_room held part (omega arith) long;
    labels_are = ap (take labels_room) (mid_behind names_at names_room held part (omega arith) long 0);
    table_is = ap (take records_most) (mid_behind names_at names_room held part (omega arith) long labels_room);
  }

  pub labels_put : length part ≡ labels_room
      → AreasAre (put_mid labels_at labels_room held part) (cell_bytes held) (name_bytes held) part (table_bytes held)
  labels_put long = record {
    cells_are = mid_before labels_at labels_room held part (omega arith) 0 slots_most (omega arith);
    names_are = mid_before labels_at labels_room held part (omega arith) names_at names_room (omega arith);
    labels_are = mid_here labels_at labels_room held part (omega arith) long;
    table_is = ap (take records_most) (mid_behind labels_at labels_room held part (omega arith) long 0);
  }

  pub table_put : length part ≡ records_most
      → AreasAre (put_mid table_at records_most held part) (cell_bytes held) (name_bytes held) (label_bytes held) part
  table_put long = record {
    cells_are = mid_before table_at records_most held part (omega arith) 0 slots_most (omega arith);
    names_are = mid_before table_at records_most held part (omega arith) names_at names_room (omega arith);
    labels_are = mid_before table_at records_most held part (omega arith) labels_at labels_room (omega arith);
    table_is = mid_here table_at records_most held part (omega arith) long;
  }

-- ── room ──

pub names_room_lem : (held : List ℕ) → held_room ≤ length held
    → (fields_most ≤ length (labels_in (label_bytes held))) × NamesRoom fields_most (names_in (name_bytes held))
names_room_lem held room = (
  omega (arith, entries_length label_most fields_most (label_bytes held)),
  (
    omega (arith, entries_length short_most fields_most (drop 1024 (name_bytes held))),
    omega (arith, entries_length short_most fields_most (drop 2048 (name_bytes held))),
    (let n = length-drop 3072 (name_bytes held) in
        let m = names_long held room in omega (arith, n, m)),
  ),
)
