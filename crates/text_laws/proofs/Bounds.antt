-- What is kept has a fixed size: the bounds that the code's buffers need.
use mathlib.Core.Path.{◌≡◌, refl}
use mathlib.Core.Bool.{Bool, true, false, cond, ◌&&◌}
use mathlib.Core.List.{List, [], ◌∷◌, ◌++◌, foldl}
use mathlib.Core.Option.{Option, none, some}
use Prim.Native.Nat.{ℕ, suc, ◌-◌, ◌≤◌}
use native.Mathlib.Omega.{arith}
use lib.Dec.{ltb, leb, eqb}
use lib.ListN.{length, length-append, take, drop}
use borrow.Author.Tests.{ltb-true, ltb-false, leb-true}
use Rattle.base.specs.Bytes.{bytes}
use Rattle.base.specs.Lists.{all, same, if_any}
use Rattle.base.proofs.Lists.{and_left, and_right, all_append}
use Rattle.rules.specs.Answers.{Answer, refused}
use Rattle.rules.specs.Limits.{text_most, line_most, fields_most, label_most, row_lines_most}
use Rattle.rules.specs.Names.{is_label, is_allowed, line_feed}
use Rattle.rules.specs.Rows.{Row, row_lines, is_drawn_row, is_labelled}
use Rattle.rules.specs.Frames.{slots_in, tens, units, border}
use Rattle.text_laws.specs.FrameReader.{read_name, read_tens, read_row, more_row, closing}
use Rattle.text_laws.specs.Judging.{many}
use Rattle.text_laws.specs.Fold.{Stage, opening, blank, tens_ruler, units_ruler, top_border, first_row, in_row}
use Rattle.text_laws.specs.Fold.{row_or_blank, where_line, last_blank, first_field, field_line, lost, Found, Kept}
use Rattle.text_laws.specs.Fold.{start, fresh, onward, losing, blamed, wrong, with_line, with_cells, on_more}
use Rattle.text_laws.specs.Fold.{with_more, expect, opening_name, with_name, with_width, with_row, brief_field}
use Rattle.text_laws.specs.Fold.{with_field, lined_at, lined, is_lost, cut, put, over, fed, kept}
use Rattle.text_laws.specs.Steady.{FewFields, Small}
use Rattle.text_laws.proofs.RowReader.{Reads, row_sound, more_sound}
use Rattle.text_laws.proofs.CellTexts.{row_labels}
use Rattle.text_laws.proofs.FieldBounds.{few_judge}

-- ── lines ──

small_same : (f g : Found) → f.name ≡ g.name → f.width ≡ g.width → f.cells ≡ g.cells
    → if_any (is_drawn_row row_lines_most g.width) g.row ≡ true → FewFields g.judged → Small f → Small g
small_same f g name width cells row h s = record {
  name = rw name at s.name;
  width = rw width at s.width;
  row = row;
  cells = rw cells at s.cells;
  texts = rw cells at s.texts;
  judged = h;
}

small_onward : (s : Stage) (f : Found) → Small f → Small (onward s f)
small_onward s f h = small_same f (onward s f) refl refl refl h.row h.judged h

pub small_losing : (a : Answer) (f : Found) → Small f → Small (losing a f)
small_losing a f h = small_same f (losing a f) refl refl refl h.row
    (record { count = h.judged.count; fields = h.judged.fields; formed = h.judged.formed }) h

small_expect : (w : List ℕ) (s : Stage) (f : Found) (l : List ℕ) → Small f → Small (expect w s f l)
small_expect w s f l h = go (same l w)
  where
    go : (b : Bool) → Small (cond b (onward s f) (wrong f))
    go true = small_onward s f h
    go false = small_losing (refused 3 (blamed f.row f.lines)) f h

pub label_short : (w : List ℕ) → is_label w ≡ true → length w ≤ label_most
unfolding is_label
label_short w h = leb-true (length w) label_most (and_left (leb (length w) label_most) _ h)

-- a NAME is a label
abbrev Labels : Option (List ℕ) → Type 0
Labels none = Unit {0}
Labels (some n) = is_label n ≡ true

name_label : (s : List ℕ) → Labels (read_name s)
unfolding read_name
name_label s = go (length s - length closing)
  where
    kept_name : (n : ℕ) (x : Bool) → (same (drop n s) closing && is_label (take n s)) ≡ x
        → Labels (cond x (some (take n s)) none)
    kept_name n true e = and_right (same (drop n s) closing) (is_label (take n s)) e
    kept_name n false e = tt

    go : (n : ℕ) → Labels (cond (same (drop n s) closing && is_label (take n s)) (some (take n s)) none)
    go n = kept_name n (same (drop n s) closing && is_label (take n s)) refl

opening_label : (l : List ℕ) → Labels (opening_name l)
unfolding opening_name
opening_label l = go (same (take 3 l) (bytes "An ")) (same (take 2 l) (bytes "A "))
  where
    go : (a b : Bool) → Labels (cond a (read_name (drop 3 l)) (cond b (read_name (drop 2 l)) none))
    go true b = name_label (drop 3 l)
    go false true = name_label (drop 2 l)
    go false false = tt

small_name : (f : Found) (o : Option (List ℕ)) → Labels o → Small f → Small (with_name f o)
small_name f none k h = small_losing (refused 3 (blamed f.row f.lines)) f h
small_name f (some n) k h = record {
  name = label_short n k;
  width = h.width;
  row = h.row;
  cells = h.cells;
  texts = h.texts;
  judged = h.judged;
}

small_tens : (f : Found) (l : List ℕ) → Small f → Small (with_width f (read_tens l))
unfolding read_tens
small_tens f l h = go (same l (tens 8)) (same l (tens 16)) (same l (tens 32))
  where
    some_width : (w : ℕ) → w ≤ 32 → Small (with_width f (some w))
    some_width w le = record {
      name = h.name;
      width = le;
      row = refl;
      cells = h.cells;
      texts = h.texts;
      judged = h.judged;
    }

    go : (a b c : Bool) → Small (with_width f (cond a (some 8) (cond b (some 16) (cond c (some 32) none))))
    go true b c = some_width 8 (omega arith)
    go false true c = some_width 16 (omega arith)
    go false false true = some_width 32 (omega arith)
    go false false false = small_losing (refused 3 (blamed f.row f.lines)) f h

small_ended : (f : Found) (r : Row) → is_labelled r ≡ true → Small f → Small (with_cells f (f.cells ++ slots_in r))
small_ended f r k h = go (ltb fields_most (length (f.cells ++ slots_in r))) refl
  where
    go : (b : Bool) → ltb fields_most (length (f.cells ++ slots_in r)) ≡ b
        → Small (record {
          lines = suc f.lines;
          stage = row_or_blank;
          name = f.name;
          width = f.width;
          row = none;
          cells = cond b f.cells (f.cells ++ slots_in r);
          judged = cond b (many f.judged) f.judged;
        })
    go true e = record {
      name = h.name;
      width = h.width;
      row = refl;
      cells = h.cells;
      texts = h.texts;
      judged = record { count = h.judged.count; fields = h.judged.fields; formed = h.judged.formed };
    }
    go false e = record {
      name = h.name;
      width = h.width;
      row = refl;
      cells = ltb-false fields_most (length (f.cells ++ slots_in r)) e;
      texts = all_append (λ c. is_label c.text) f.cells (slots_in r) h.texts (row_labels r k);
      judged = h.judged;
    }

small_wrong : (f : Found) → Small f → Small (wrong f)
small_wrong f h = small_losing (refused 3 (blamed f.row f.lines)) f h

small_row : (f : Found) (ls : List (List ℕ)) (o : Option Row) → Reads f.width ls o → Small f → Small (with_row f o)
small_row f ls none k h = small_wrong f h
small_row f ls (some r) k h = small_same f (with_line f r) refl refl refl k.0 h.judged h

small_more : (f : Found) (l : List ℕ) (o : Option Row) → Small f → Small (with_more f l o)
small_more f l none h = small_wrong f h
small_more f l (some r) h = go (more_row f.width r l) (more_sound f.width r l)
  where
    on : (a : Bool) → is_labelled r ≡ a → (b : Bool)
        → Small (cond a (cond b (with_cells f (f.cells ++ slots_in r)) (wrong f)) (wrong f))
    on true e true = small_ended f r e h
    on true e false = small_wrong f h
    on false e b = small_wrong f h

    go : (o : Option Row) → Reads f.width (row_lines r ++ (l ∷ [])) o → Small (on_more f f.width r l o)
    go none k = on (is_labelled r) refl (same l (border f.width))
    go (some x) k = small_same f (with_line f x) refl refl refl k.0 h.judged h

small_field : (f : Found) (l : List ℕ) → Small f → Small (with_field f l)
small_field f l h = go (leb (length l) line_most)
  where
    go : (b : Bool) → Small (cond b (brief_field f l) (wrong f))
    go true =
        small_same f (brief_field f l) refl refl refl h.row
        (few_judge f.cells (suc f.lines) f.judged l h.judged) h
    go false = small_wrong f h

pub small_cut : (f : Found) → Small f → Small (cut f)
small_cut f h = go (is_lost f.stage)
  where
    go : (b : Bool) → Small (cond b f (wrong f))
    go true = h
    go false = small_wrong f h

pub small_line : (s : Stage) (f : Found) (l : List ℕ) → Small f → Small (lined_at s f l)
unfolding lined_at
small_line opening f l h = small_name f (opening_name l) (opening_label l) h
small_line blank f l h = small_expect [] tens_ruler f l h
small_line tens_ruler f l h = small_tens f l h
small_line units_ruler f l h = small_expect (units f.width) top_border f l h
small_line top_border f l h = small_expect (border f.width) first_row f l h
small_line first_row f l h = small_row f (l ∷ []) (read_row f.width l) (row_sound f.width l) h
small_line in_row f l h = small_more f l f.row h
small_line row_or_blank f [] h = small_onward where_line f h
small_line row_or_blank f (b ∷ l) h =
    small_row f ((b ∷ l) ∷ []) (read_row f.width (b ∷ l)) (row_sound f.width (b ∷ l)) h
small_line where_line f l h = small_expect (bytes "where:") last_blank f l h
small_line last_blank f l h = small_expect [] first_field f l h
small_line first_field f l h = small_field f l h
small_line field_line f l h = small_field f l h
small_line lost f l h = h

pub small_start : Small start
unfolding all
small_start = record {
  name = omega arith;
  width = omega arith;
  row = refl;
  cells = omega arith;
  texts = refl;
  judged = record { count = omega arith; fields = omega arith; formed = refl };
}

-- ── bytes ──

pub record Bounded (k : Kept) : Type 0 where
  pub size : k.size ≤ text_most
  pub line : length k.line ≤ line_most
  pub found : Small k.found

bounded_fed : (k : Kept) (b : ℕ) → Bounded k → Bounded (fed k b)
unfolding fed
bounded_fed k b h =
    go (ltb k.size text_most) refl (is_allowed b) (eqb b line_feed) (ltb (length k.line) line_most) refl
  where
    go : (x : Bool) → ltb k.size text_most ≡ x → (y z v : Bool) → ltb (length k.line) line_most ≡ v
        → Bounded (cond x
        (cond y (cond z (put k [] (lined k.found k.line))
        (cond v (put k (k.line ++ (b ∷ [])) k.found) (put k k.line (cut k.found))))
        (put k k.line (losing (refused 2 0) k.found)))
        (over k))
    go true e true true v q = record {
      size = ltb-true k.size text_most e;
      line = omega arith;
      found = small_line k.found.stage k.found k.line h.found;
    }
    go true e true false true q = record {
      size = ltb-true k.size text_most e;
      line = (let n = ltb-true (length k.line) line_most q in let m = length-append k.line (b ∷ []) in
          omega (arith, n, m));
      found = h.found;
    }
    go true e true false false q = record {
      size = ltb-true k.size text_most e;
      line = h.line;
      found = small_cut k.found h.found;
    }
    go true e false z v q = record {
      size = ltb-true k.size text_most e;
      line = h.line;
      found = small_losing (refused 2 0) k.found h.found;
    }
    go false e y z v q = record {
      size = h.size;
      line = h.line;
      found = small_losing (refused 1 0) k.found h.found;
    }

pub bounded_all : (t : List ℕ) (k : Kept) → Bounded k → Bounded (foldl fed k t)
bounded_all [] k h = h
bounded_all (b ∷ t) k h = bounded_all t (fed k b) (bounded_fed k b h)

-- whatever the text
pub kept_bounded : (t : List ℕ) → Bounded (kept t)
unfolding kept
kept_bounded t = bounded_all t fresh (record { size = omega arith; line = omega arith; found = small_start })
