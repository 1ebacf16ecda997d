-- When a text is refused, by which number and at which place. [01, Refusal numbers]
-- Each stage speaks of what nothing spells; a later one presumes the earlier ones passed.
use Rattle.std.specs.Prelude.{◌≡◌, true, false, cond, List, [], ◌∷◌, ◌++◌, ℕ, zero, suc, ◌+◌, ◌-◌, ◌≤◌, ◌<◌, ltb, eqb}
use Rattle.std.specs.Prelude.{length, get_or, take}
use Rattle.std.proofs.Math.Option.{Option, none, some, map}
use Rattle.base.specs.Lists.{all, Each, first_break, or_else}
use Rattle.rules.specs.Answers.{Answer, refused}
use Rattle.rules.specs.Limits.{text_most}
use Rattle.rules.specs.Editions.{Edition, current}
use Rattle.rules.specs.Names.{is_allowed, line_feed}
use Rattle.rules.specs.Fields.{Form}
use Rattle.rules.specs.Within.{keeps_size, keeps_names, keeps_types, keeps_rest, name_readable}
use Rattle.rules.specs.Lines.{SpellsFieldIn, Unresolved}
use Rattle.rules.specs.Rows.{Row, bit_row, long_row, row_lines, is_labelled}
use Rattle.rules.specs.Frames.{Frame, is_drawn_in, top_lines, frame_text, FrameOfIn, line_number, cells, is_overfull_in}
use Rattle.rules.specs.Spelling.{mismatch}

-- ── 3: lines ──

-- the number of LFs
unfoldable pub line_count : List ℕ → ℕ
line_count [] = 0
line_count (b ∷ t) = cond (eqb b line_feed) (suc (line_count t)) (line_count t)

-- the first k lines, each with its LF
unfoldable pub first_lines : ℕ → List ℕ → List ℕ
first_lines k [] = []
first_lines zero (b ∷ t) = []
first_lines (suc k) (b ∷ t) = b ∷ first_lines (cond (eqb b line_feed) k (suc k)) t

-- the first k lines begin the text of a frame that is drawn right, by an edition
pub record BeginsIn (e : Edition) (text : List ℕ) (k : ℕ) : Type 0 where
  pub frame : Frame
  pub drawn : is_drawn_in e frame ≡ true
  pub behind : List ℕ
  pub is_text : frame_text frame ≡ first_lines k text ++ behind

-- k is the greatest number of whole lines that begin such a text
pub record RightLinesIn (e : Edition) (text : List ℕ) (k : ℕ) : Type 0 where
  pub there : k ≤ line_count text
  pub begins : BeginsIn e text k
  pub most : (j : ℕ) → k < j → j ≤ line_count text → BeginsIn e text j → ⊥

-- the first n lines of a row
abbrev pub cut_row : ℕ → Row → Row
cut_row n (bit_row bits lines) = bit_row bits (take n lines)
cut_row n (long_row bits s) = long_row bits s

-- of rows whose first one stands behind n lines, those that begin in the first k lines, as far as they stand there
unfoldable pub rows_within : ℕ → ℕ → List Row → List Row
rows_within k n [] = []
rows_within k n (r ∷ rows) =
    cond (ltb n k) (cut_row (k - n) r ∷ rows_within k (n + suc (length (row_lines r))) rows) []

-- the last line of the first row with a cell whose text is no label
unfoldable pub unlabelled_line : ℕ → List Row → Option ℕ
unlabelled_line n [] = none
unlabelled_line n (r ∷ rows) =
    cond (is_labelled r) (unlabelled_line (n + suc (length (row_lines r))) rows) (some (n + length (row_lines r)))

abbrev pub or_behind : ℕ → Option ℕ → ℕ
or_behind k none = suc k
or_behind k (some p) = p

-- where the first k lines begin the text of the frame, and no more do: the last line there of the first row in them
-- with a cell whose text is no label, or else the line behind them
abbrev pub wrong_line : ℕ → Frame → ℕ
wrong_line k f =
    let n = length (top_lines f) in
    or_behind k (unlabelled_line n (rows_within k n f.rows))

-- ── 5: forms ──

-- no form spells the line, by an edition
abbrev pub FormlessIn : Edition → List ℕ → Type 0
FormlessIn e l = (x : Form) → SpellsFieldIn Unresolved e x l → ⊥

-- the first line without a form has the index i
pub record FirstFormlessIn (e : Edition) (lines : List (List ℕ)) (i : ℕ) : Type 0 where
  pub there : i < length lines
  pub formless : FormlessIn e (get_or lines i [])
  pub earlier : (j : ℕ) → j < i → FormlessIn e (get_or lines j []) → ⊥

-- ── 6 to 10: rules ──

-- the lowest number whose rule some line breaks, at the first such line
unfoldable pub rule_broken : Frame → List Form → Option Answer
rule_broken f forms =
    or_else (broken 6 (first_break keeps_size [] forms))
    (or_else (broken 7 (mismatch 0 (cells f) forms))
    (or_else (broken 8 (first_break keeps_names [] forms))
    (or_else (broken 9 (first_break (keeps_types name_readable) [] forms))
    (broken 10 (first_break keeps_rest [] forms)))))
  where
    broken : ℕ → Option ℕ → Option Answer
    broken number i = map (λ n. refused number (line_number f n)) i

-- ── in order ──

-- neither too long nor with a byte that is not allowed
pub record Plain (text : List ℕ) : Type 0 where
  pub size : length text ≤ text_most
  pub bytes : all is_allowed text ≡ true

-- the text of a frame that is not overfull, by an edition
pub record FramedIn (e : Edition) (text : List ℕ) (f : Frame) : Type 0 where
  pub plain : Plain text
  pub is_frame_of : FrameOfIn e text f
  pub few : is_overfull_in e f ≡ false

-- 01's number and place for a text that is refused, whatever the output, by an edition
pub data RefusesIn (e : Edition) (text : List ℕ) : Answer → Type 0 where
  long : text_most < length text → RefusesIn e text (refused 1 0)
  byte : length text ≤ text_most → all is_allowed text ≡ false → RefusesIn e text (refused 2 0)
  line : {k : ℕ} → Plain text → ((f : Frame) → FrameOfIn e text f → ⊥) → (r : RightLinesIn e text k)
      → RefusesIn e text (refused 3 (wrong_line k r.begins.frame))
  many : {f : Frame} → Plain text → FrameOfIn e text f → is_overfull_in e f ≡ true → RefusesIn e text (refused 4 0)
  form : {f : Frame} {i : ℕ} → FramedIn e text f → FirstFormlessIn e f.lines i
      → RefusesIn e text (refused 5 (line_number f i))
  rule : {f : Frame} {a : Answer} (forms : List Form) → FramedIn e text f
      → Each (SpellsFieldIn Unresolved e) forms f.lines → rule_broken f forms ≡ some a → RefusesIn e text a

-- by the edition in force
abbrev pub Begins : List ℕ → ℕ → Type 0
Begins text k = BeginsIn current text k

abbrev pub RightLines : List ℕ → ℕ → Type 0
RightLines text k = RightLinesIn current text k

abbrev pub Formless : List ℕ → Type 0
Formless l = FormlessIn current l

abbrev pub FirstFormless : List (List ℕ) → ℕ → Type 0
FirstFormless lines i = FirstFormlessIn current lines i

abbrev pub Framed : List ℕ → Frame → Type 0
Framed text f = FramedIn current text f

abbrev pub Refuses : List ℕ → Answer → Type 0
Refuses text a = RefusesIn current text a
