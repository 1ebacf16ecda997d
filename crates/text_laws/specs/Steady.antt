-- What is true of what is kept, behind any lines. No public promise rests on this file.
use Rattle.std.specs.Prelude.{◌≡◌, Bool, true, false, ◌&&◌, not, List, [], ℕ, ◌≤◌, length}
use Rattle.std.proofs.Math.Option.{Option, none}
use Rattle.base.specs.Lists.{all, first_break, if_any, is_none}
use Rattle.rules.specs.Limits.{fields_most, label_most, row_lines_most}
use Rattle.rules.specs.Names.{is_label}
use Rattle.rules.specs.Rows.{Row, is_drawn_row}
use Rattle.rules.specs.Trees.{is_small}
use Rattle.rules.specs.Fields.{Field, trees}
use Rattle.rules.specs.Within.{is_formed, keeps_names}
use Rattle.text_laws.specs.Judging.{faces, Judged}
use Rattle.text_laws.specs.Fold.{Stage, opening, blank, tens_ruler, units_ruler, top_border, first_row, in_row}
use Rattle.text_laws.specs.Fold.{row_or_blank, where_line, last_blank, first_field, field_line, lost, Found}

-- ── bounds ──

-- formed and of the right size
abbrev pub is_kept : {N : Type 0} → Field N → Bool
is_kept f = is_formed f && all is_small (trees f)

pub record FewFields (j : Judged) : Type 0 where
  pub count : j.count ≤ fields_most
  pub fields : length j.fields ≤ j.count
  pub formed : all is_kept j.fields ≡ true

pub record Small (f : Found) : Type 0 where
  pub name : length f.name ≤ label_most
  pub width : f.width ≤ 32
  pub row : if_any (is_drawn_row row_lines_most f.width) f.row ≡ true
  pub cells : length f.cells ≤ fields_most
  pub texts : all (λ c. is_label c.text) f.cells ≡ true
  pub judged : FewFields f.judged

-- ── fields ──

-- fields that may stand in for those of j: alike in what later lines see, and the same where nothing was refused
pub record StandIn (j : Judged) (fs : List (Field ℕ)) : Type 0 where
  pub seen : faces fs ≡ faces j.fields
  pub exact : j.lowest ≡ none → fs ≡ j.fields

-- where nothing was refused, no name is repeated
abbrev pub Clear : Judged → Type 0
Clear j = j.lowest ≡ none → first_break keeps_names [] (faces j.fields) ≡ none

-- no field line was read yet
abbrev pub is_head : Stage → Bool
is_head opening = true
is_head blank = true
is_head tens_ruler = true
is_head units_ruler = true
is_head top_border = true
is_head first_row = true
is_head in_row = true
is_head row_or_blank = true
is_head where_line = true
is_head last_blank = true
is_head first_field = true
is_head field_line = false
is_head lost = false

-- a row is begun exactly where a further line of it, or its border, must come
abbrev pub row_goes : Stage → Option Row → Bool
row_goes opening o = is_none o
row_goes blank o = is_none o
row_goes tens_ruler o = is_none o
row_goes units_ruler o = is_none o
row_goes top_border o = is_none o
row_goes first_row o = is_none o
row_goes in_row o = not (is_none o)
row_goes row_or_blank o = is_none o
row_goes where_line o = is_none o
row_goes last_blank o = is_none o
row_goes first_field o = is_none o
row_goes field_line o = is_none o
row_goes lost o = true

-- ── all of it ──

pub record Steady (f : Found) : Type 0 where
  pub small : Small f
  pub clear : Clear f.judged
  pub head : is_head f.stage ≡ true → f.judged.fields ≡ []
  pub row : row_goes f.stage f.row ≡ true
