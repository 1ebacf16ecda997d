-- Behind a refusal only the faces of the fields matter: the code may then keep any trees in their place.
use mathlib.Core.Path.{◌≡◌, refl, ap, ap₂, sym, ◌∙◌}
use mathlib.Core.Bool.{Bool, true, false, cond}
use mathlib.Core.List.{List, [], ◌∷◌, ◌++◌}
use mathlib.Core.Option.{Option, none, some, none-ne-some}
use Prim.Native.Nat.{ℕ, suc}
use lib.Dec.{leb, ltb, eqb}
use lib.ListN.{length, length-map}
use Rattle.base.specs.Bytes.{bytes}
use Rattle.base.specs.Lists.{same, is_empty}
use Rattle.rules.specs.Answers.{Answer, refused}
use Rattle.rules.specs.Limits.{text_most, line_most, fields_most}
use Rattle.rules.specs.Names.{is_allowed, line_feed}
use Rattle.rules.specs.Fields.{Field, Form}
use Rattle.rules.specs.Rows.{Row, is_labelled}
use Rattle.rules.specs.Frames.{Slot, slots_in, units, border}
use Rattle.text_laws.specs.FrameReader.{read_tens, read_row, more_row}
use Rattle.text_laws.specs.LineReader.{read_form}
use Rattle.text_laws.specs.Resolving.{index_of}
use Rattle.text_laws.specs.Lowest.{lower, broken}
use Rattle.text_laws.specs.Judging.{face, faces, resolved_in, rules, Judged, is_open, is_full, many, grown}
use Rattle.text_laws.specs.Judging.{with_rules, with_form, judge}
use Rattle.text_laws.specs.Fold.{Stage, opening, blank, tens_ruler, units_ruler, top_border, first_row, in_row}
use Rattle.text_laws.specs.Fold.{row_or_blank, where_line, last_blank, first_field, field_line, lost, Found, Kept}
use Rattle.text_laws.specs.Fold.{onward, losing, blamed, wrong, expect, opening_name, with_name, with_width}
use Rattle.text_laws.specs.Fold.{with_cells, with_row, on_more, with_more, brief_field, with_field, lined_at, lined}
use Rattle.text_laws.specs.Fold.{is_lost, cut, put, over, fed, early, uncelled, lowest_at, lowest_of, outcome}
use Rattle.text_laws.specs.Fold.{finish}
use Rattle.text_laws.specs.Steady.{StandIn}
use Rattle.text_laws.proofs.Faces.{renamed_face}

-- ── other fields ──

abbrev other_fields : Judged → List (Field ℕ) → Judged
other_fields j fs = record { count = j.count; fields = fs; lowest = j.lowest }

abbrev found_with : Found → List (Field ℕ) → Found
found_with f fs = record {
  lines = f.lines;
  stage = f.stage;
  name = f.name;
  width = f.width;
  row = f.row;
  cells = f.cells;
  judged = other_fields f.judged fs;
}

abbrev pub kept_with : Kept → List (Field ℕ) → Kept
kept_with k fs = record { size = k.size; line = k.line; found = found_with k.found fs }

-- ── a field line ──

-- other fields may stand in behind it, where they did before
abbrev Goes : Judged → Judged → Type 0
Goes q r = (gs : List (Field ℕ)) × StandIn q gs × (r ≡ other_fields q gs)

pub faces_append : (l : List (Field ℕ)) (x : Field ℕ) → faces (l ++ (x ∷ [])) ≡ faces l ++ (face x ∷ [])
faces_append [] x = refl
faces_append (y ∷ l) x = ap (λ (m : List Form). face y ∷ m) (faces_append l x)

-- nothing is lower than nothing
pub lower_left : (a b : Option Answer) → lower a b ≡ none → a ≡ none
lower_left none b e = refl
lower_left (some a) none e = e
lower_left (some a) (some b) e = go (ltb b.number a.number) e
  where
    go : (t : Bool) → cond t (some b) (some a) ≡ none → some a ≡ none
    go true e = absurd (none-ne-some b (sym e))
    go false e = e

goes_form : (cells : List Slot) (p : ℕ) (j : Judged) (fs : List (Field ℕ)) (o : Option Form) → StandIn j fs
    → Goes (with_form cells p j o) (with_form cells p (other_fields j fs) o)
unfolding with_form
goes_form cells p j fs none h =
    (fs, record { seen = h.seen; exact = λ e. h.exact (lower_left j.lowest (some (refused 5 p)) e) }, refl)
goes_form cells p j fs (some x) h =
    let b : broken 6 p (rules cells) (faces fs) x ≡ broken 6 p (rules cells) (faces j.fields) x =
    ap (λ (l : List Form). broken 6 p (rules cells) l x) h.seen in
    let o : lower j.lowest (broken 6 p (rules cells) (faces fs) x) ≡ here =
    ap (λ (a : Option Answer). lower j.lowest a) b in (
      grown here fs x,
      record {
        seen = seen_grown (is_open here);
        exact = λ e. ap (λ (l : List (Field ℕ)). grown here l x)
            (h.exact (lower_left j.lowest (broken 6 p (rules cells) (faces j.fields) x) e));
      },
      ap (λ (a : Option Answer). with_rules (other_fields j fs) x a) o,
    )
  where
    here : Option Answer
    here = lower j.lowest (broken 6 p (rules cells) (faces j.fields) x)

    seen_grown : (t : Bool)
        → faces (cond t (fs ++ (resolved_in fs x ∷ [])) fs)
        ≡ faces (cond t (j.fields ++ (resolved_in j.fields x ∷ [])) j.fields)
    seen_grown true =
        faces_append fs (resolved_in fs x)
        ∙ ap₂ {C = List Form} (λ (l : List Form) (y : Form). l ++ (y ∷ [])) h.seen
        (renamed_face (index_of (faces fs ++ (x ∷ []))) x ∙ sym (renamed_face (index_of (faces j.fields ++
        (x ∷ []))) x))
        ∙ sym (faces_append j.fields (resolved_in j.fields x))
    seen_grown false = h.seen

goes_judge : (cells : List Slot) (p : ℕ) (j : Judged) (fs : List (Field ℕ)) (l : List ℕ) → StandIn j fs
    → Goes (judge cells p j l) (judge cells p (other_fields j fs) l)
unfolding judge
goes_judge cells p j fs l h = go (is_full j)
  where
    go : (t : Bool)
        → Goes (cond t (many j) (with_form cells p j (read_form l)))
        (cond t (many (other_fields j fs)) (with_form cells p (other_fields j fs) (read_form l)))
    go true = (fs, record { seen = h.seen; exact = λ e. absurd (none-ne-some (refused 4 0) (sym e)) }, refl)
    go false = goes_form cells p j fs (read_form l) h

-- ── a line ──

abbrev Moves : Found → Found → Type 0
Moves q r = (gs : List (Field ℕ)) × StandIn q.judged gs × (r ≡ found_with q gs)

module _ (f : Found) (fs : List (Field ℕ)) (h : StandIn f.judged fs) where
  moves_onward : (s : Stage) → Moves (onward s f) (onward s (found_with f fs))
  moves_onward s = (fs, h, refl)

  moves_losing : (a : Answer) → Moves (losing a f) (losing a (found_with f fs))
  moves_losing a = (fs, record { seen = h.seen; exact = λ e. absurd (none-ne-some a (sym e)) }, refl)

  moves_expect : (w : List ℕ) (s : Stage) (l : List ℕ) → Moves (expect w s f l) (expect w s (found_with f fs) l)
  moves_expect w s l = go (same l w)
    where
      go : (t : Bool) → Moves (cond t (onward s f) (wrong f)) (cond t (onward s (found_with f fs)) (wrong
          (found_with f fs)))
      go true = moves_onward s
      go false = moves_losing (refused 3 (blamed f.row f.lines))

  moves_name : (o : Option (List ℕ)) → Moves (with_name f o) (with_name (found_with f fs) o)
  moves_name none = moves_losing (refused 3 (blamed f.row f.lines))
  moves_name (some n) = (fs, h, refl)

  moves_width : (o : Option ℕ) → Moves (with_width f o) (with_width (found_with f fs) o)
  moves_width none = moves_losing (refused 3 (blamed f.row f.lines))
  moves_width (some w) = (fs, h, refl)

  moves_row : (o : Option Row) → Moves (with_row f o) (with_row (found_with f fs) o)
  moves_row none = moves_losing (refused 3 (blamed f.row f.lines))
  moves_row (some r) = (fs, h, refl)

  moves_cells : (cs : List Slot) → Moves (with_cells f cs) (with_cells (found_with f fs) cs)
  moves_cells cs = go (ltb fields_most (length cs))
    where
      ended : Bool → Judged → Found
      ended t j = record {
        lines = suc f.lines;
        stage = row_or_blank;
        name = f.name;
        width = f.width;
        row = none;
        cells = cond t f.cells cs;
        judged = cond t (many j) j;
      }

      go : (t : Bool) → Moves (ended t f.judged) (ended t (other_fields f.judged fs))
      go true = (fs, record { seen = h.seen; exact = λ e. absurd (none-ne-some (refused 4 0) (sym e)) }, refl)
      go false = (fs, h, refl)

  moves_on : (w : ℕ) (r : Row) (l : List ℕ) (o : Option Row)
      → Moves (on_more f w r l o) (on_more (found_with f fs) w r l o)
  moves_on w r l (some x) = (fs, h, refl)
  moves_on w r l none = go (is_labelled r) (same l (border w))
    where
      ended : Bool → Bool → Found → Found
      ended a b q = cond a (cond b (with_cells q (f.cells ++ slots_in r)) (wrong q)) (wrong q)

      go : (a b : Bool) → Moves (ended a b f) (ended a b (found_with f fs))
      go true true = moves_cells (f.cells ++ slots_in r)
      go true false = moves_losing (refused 3 (blamed f.row f.lines))
      go false b = moves_losing (refused 3 (blamed f.row f.lines))

  moves_more : (l : List ℕ) (o : Option Row) → Moves (with_more f l o) (with_more (found_with f fs) l o)
  moves_more l none = moves_losing (refused 3 (blamed f.row f.lines))
  moves_more l (some r) = moves_on f.width r l (more_row f.width r l)

  moves_brief : (l : List ℕ) → Moves (brief_field f l) (brief_field (found_with f fs) l)
  moves_brief l =
      let g = goes_judge f.cells (suc f.lines) f.judged fs l h in (
        g.0,
        g.1,
        ap (λ (j : Judged). record {
          lines = suc f.lines;
          stage = field_line;
          name = f.name;
          width = f.width;
          row = f.row;
          cells = f.cells;
          judged = j;
        }) g.2,
      )

  moves_field : (l : List ℕ) → Moves (with_field f l) (with_field (found_with f fs) l)
  moves_field l = go (leb (length l) line_most)
    where
      go : (b : Bool)
          → Moves (cond b (brief_field f l) (wrong f))
          (cond b (brief_field (found_with f fs) l) (wrong (found_with f fs)))
      go true = moves_brief l
      go false = moves_losing (refused 3 (blamed f.row f.lines))

  moves_cut : Moves (cut f) (cut (found_with f fs))
  moves_cut = go (is_lost f.stage)
    where
      go : (b : Bool) → Moves (cond b f (wrong f)) (cond b (found_with f fs) (wrong (found_with f fs)))
      go true = (fs, h, refl)
      go false = moves_losing (refused 3 (blamed f.row f.lines))

moves_line : (s : Stage) (f : Found) (fs : List (Field ℕ)) (l : List ℕ) → StandIn f.judged fs
    → Moves (lined_at s f l) (lined_at s (found_with f fs) l)
unfolding lined_at
moves_line opening f fs l h = moves_name f fs h (opening_name l)
moves_line blank f fs l h = moves_expect f fs h [] tens_ruler l
moves_line tens_ruler f fs l h = moves_width f fs h (read_tens l)
moves_line units_ruler f fs l h = moves_expect f fs h (units f.width) top_border l
moves_line top_border f fs l h = moves_expect f fs h (border f.width) first_row l
moves_line first_row f fs l h = moves_row f fs h (read_row f.width l)
moves_line in_row f fs l h = moves_more f fs h l f.row
moves_line row_or_blank f fs [] h = moves_onward f fs h where_line
moves_line row_or_blank f fs (b ∷ l) h = moves_row f fs h (read_row f.width (b ∷ l))
moves_line where_line f fs l h = moves_expect f fs h (bytes "where:") last_blank l
moves_line last_blank f fs l h = moves_expect f fs h [] first_field l
moves_line first_field f fs l h = moves_field f fs h l
moves_line field_line f fs l h = moves_field f fs h l
moves_line lost f fs l h = (fs, h, refl)

-- ── a byte, and the end ──

-- one more line from other fields that stand in
pub lined_with : (f : Found) (fs : List (Field ℕ)) (l : List ℕ) → StandIn f.judged fs
    → (gs : List (Field ℕ)) × StandIn (lined f l).judged gs × (lined (found_with f fs) l ≡ found_with (lined f l) gs)
lined_with f fs l h = moves_line f.stage f fs l h

-- one more byte
pub fed_with : (k : Kept) (fs : List (Field ℕ)) (b : ℕ) → StandIn k.found.judged fs
    → (gs : List (Field ℕ)) × StandIn (fed k b).found.judged gs × (fed (kept_with k fs) b ≡ kept_with (fed k b) gs)
unfolding fed
fed_with k fs b h = go (ltb k.size text_most) (is_allowed b) (eqb b line_feed) (ltb (length k.line) line_most)
  where
    next : Bool → Bool → Bool → Bool → Kept → Kept
    next x y z v q =
        cond x
        (cond y (cond z (put q [] (lined q.found q.line))
        (cond v (put q (q.line ++ (b ∷ [])) q.found) (put q q.line (cut q.found))))
        (put q q.line (losing (refused 2 0) q.found)))
        (over q)

    go : (x y z v : Bool)
        → (gs : List (Field ℕ)) × StandIn (next x y z v k).found.judged gs
        × (next x y z v (kept_with k fs) ≡ kept_with (next x y z v k) gs)
    go true true true v =
        let m = lined_with k.found fs k.line h in
        (m.0, m.1, ap (λ (f : Found). put k [] f) m.2)
    go true true false true = (fs, h, refl)
    go true true false false =
        let m = moves_cut k.found fs h in
        (m.0, m.1, ap (λ (f : Found). put k k.line f) m.2)
    go true false z v =
        let m = moves_losing k.found fs h (refused 2 0) in
        (m.0, m.1, ap (λ (f : Found). put k k.line f) m.2)
    go false y z v =
        let m = moves_losing k.found fs h (refused 1 0) in
        (m.0, m.1, ap (λ (f : Found). record { size = k.size; line = k.line; found = f }) m.2)

same_length : (j : Judged) (fs : List (Field ℕ)) → StandIn j fs → length fs ≡ length j.fields
same_length j fs h = sym (length-map fs face) ∙ ap length h.seen ∙ length-map j.fields face

lowest_with : (s : Stage) (l : List ℕ) (f : Found) (fs : List (Field ℕ)) → StandIn f.judged fs
    → lowest_at s l (found_with f fs) ≡ lowest_at s l f
unfolding lowest_at
lowest_with opening l f fs h = refl
lowest_with blank l f fs h = refl
lowest_with tens_ruler l f fs h = refl
lowest_with units_ruler l f fs h = refl
lowest_with top_border l f fs h = refl
lowest_with first_row l f fs h = refl
lowest_with in_row l f fs h = refl
lowest_with row_or_blank l f fs h = refl
lowest_with where_line l f fs h = refl
lowest_with last_blank l f fs h = refl
lowest_with first_field l f fs h = refl
lowest_with field_line l f fs h =
    ap (λ (n : ℕ). cond (is_empty l) (lower f.judged.lowest
    (cond (ltb n (length f.cells)) (some (refused 7 (suc f.lines))) none)) (early f))
    (same_length f.judged fs h)
lowest_with lost l f fs h = refl

-- where nothing was refused at the end, nothing was before
pub lowest_clear : (s : Stage) (l : List ℕ) (f : Found) → lowest_at s l f ≡ none → f.judged.lowest ≡ none
unfolding lowest_at
lowest_clear opening l f e = absurd (none-ne-some (refused 3 (blamed f.row f.lines)) (sym e))
lowest_clear blank l f e = absurd (none-ne-some (refused 3 (blamed f.row f.lines)) (sym e))
lowest_clear tens_ruler l f e = absurd (none-ne-some (refused 3 (blamed f.row f.lines)) (sym e))
lowest_clear units_ruler l f e = absurd (none-ne-some (refused 3 (blamed f.row f.lines)) (sym e))
lowest_clear top_border l f e = absurd (none-ne-some (refused 3 (blamed f.row f.lines)) (sym e))
lowest_clear first_row l f e = absurd (none-ne-some (refused 3 (blamed f.row f.lines)) (sym e))
lowest_clear in_row l f e = absurd (none-ne-some (refused 3 (blamed f.row f.lines)) (sym e))
lowest_clear row_or_blank l f e = absurd (none-ne-some (refused 3 (blamed f.row f.lines)) (sym e))
lowest_clear where_line l f e = absurd (none-ne-some (refused 3 (blamed f.row f.lines)) (sym e))
lowest_clear last_blank l f e = absurd (none-ne-some (refused 3 (blamed f.row f.lines)) (sym e))
lowest_clear first_field l f e = absurd (none-ne-some (refused 3 (blamed f.row f.lines)) (sym e))
lowest_clear field_line [] f e = lower_left f.judged.lowest (uncelled f) e
lowest_clear field_line (b ∷ l) f e = absurd (none-ne-some (refused 3 (blamed f.row f.lines)) (sym e))
lowest_clear lost l f e = e

pub finish_with : (k : Kept) (fs : List (Field ℕ)) (out : List ℕ) → StandIn k.found.judged fs
    → finish (kept_with k fs) out ≡ finish k out
unfolding finish
finish_with k fs out h =
    ap (outcome (found_with k.found fs) out) (lowest_with k.found.stage k.line k.found fs h)
    ∙ go (lowest_of k) refl
  where
    go : (o : Option Answer) → lowest_of k ≡ o → outcome (found_with k.found fs) out o ≡ outcome k.found out o
    go (some a) e = refl
    go none e =
        let c = h.exact (lowest_clear k.found.stage k.line k.found e) in
        ap (λ (l : List (Field ℕ)). outcome (found_with k.found l) out none) c
