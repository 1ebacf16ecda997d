-- The parts of a field line with their expressions in stored form, against the reader of the line.
use mathlib.Core.Path.{◌≡◌, refl, ap, ◌∙◌}
use mathlib.Core.Bool.{Bool, true, false, cond}
use mathlib.Core.List.{List, []}
use mathlib.Core.Option.{Option, none, some}
use Prim.Native.Nat.{ℕ, ◌+◌, ◌≤◌, ◌<◌}
use native.Mathlib.Omega.{arith}
use lib.Dec.{ltb}
use lib.ListN.{length, take, drop, get_or, length-set}
use lib.Seq.{get_or-set_same, get_or-set_other}
use Rattle.base.specs.Bytes.{bytes}
use Rattle.rules.specs.Limits.{short_most}
use Rattle.rules.specs.Trees.{Tree, stored_tree}
use Rattle.rules.specs.Fields.{Width, fixed, measured, rest, Form, is_fixed}
use Rattle.rules.specs.Stored.{stored_name}
use Rattle.names.specs.Repeats.{pad_to, held_word}
use Rattle.names.proofs.RepeatLaws.{search_same}
use Rattle.text_laws.specs.LineReader.{miss, begins, read_label, read_short, read_width, form_of, read_form}
use Rattle.texts.specs.declared.kinds.Width.{Width as CodeWidth}
use Rattle.texts.specs.Kinds as kind
use Rattle.texts.specs.HeldNames.{Names, NamesRoom, HeldAs, Kept, OwnPut}
use Rattle.texts.specs.FieldPlaces.{SameLabel, SameShort}
use Rattle.texts.specs.PartPlaces.{span_in, ShortIs}
use Rattle.texts.specs.PartPlaces.{Ending, read_ends}
use Rattle.texts.specs.HeldParts.{whole_parts, WidthHeld, MeasureAs, EndsAs, LineBytes, PartsFor}
use Rattle.texts.specs.HeldParts.{BehindFor}
use Rattle.texts.specs.NameStarts.{start_in}
use Rattle.texts.proofs.StartLaws.{most_least}
use Rattle.texts.specs.StoredTrees.{reads_as, is_held, look_up, type_of, TreeBytes, held, StoredIs}
use Rattle.writing.specs.declared.spans.Span.{Span}
use Rattle.texts.specs.declared.clause_trees.Ends.{Ends}
use Rattle.texts.specs.declared.width_trees.Measure.{Measure}
use Rattle.texts.specs.declared.line_parts.Parts.{Parts}
use Rattle.std.specs.Prelude.{Option as CodeOption, None, Some}
use Rattle.texts.proofs.LineRules.{fixed_kind_lem}
use Rattle.texts.proofs.FieldNames.{literal_at, literal_none}
use Rattle.texts.proofs.FieldParts.{
  behind_miss,
  ending,
  behind_is,
  line_no_label,
  line_no_short,
  line_no_colon,
  line_behind,
  label_miss,
  short_miss,
  LabelAs,
  ShortAs,
}

-- ── its own names ──

pub short_text_lem : (s : List ℕ) (o : Option (List ℕ)) (p : Span) → ShortIs s o p → span_in s p ≡ stored_name o
short_text_lem s none p h = rw h refl
short_text_lem s (some w) p h = h

-- those that are put at the index n
module _ (a : Names) (n : ℕ) (s : List ℕ) (label : ℕ) (name : Span) (fixed : Bool) (b : Names)
    (put : OwnPut a n s label name fixed b) where
  long : (length b.shorts ≡ length a.shorts) × (length b.words ≡ length a.words)
      × (length b.marks ≡ length a.marks)
  long = (
    ap length put.shorts ∙ length-set a.shorts n _,
    ap length put.words ∙ length-set a.words n _,
    ap length put.marks ∙ length-set a.marks n _,
  )

  pub own_kept : Kept a n b
  own_kept = record {
    room = λ m h. (omega (arith, long.0, h.0), omega (arith, long.1, h.1), omega (arith, long.2, h.2));
    shorts = λ i lt. ap (λ (l : List (List ℕ)). get_or l i []) put.shorts
        ∙ get_or-set_other a.shorts n i _ [] (λ z. absurd (omega arith));
    words = λ i lt. ap (λ (l : List (List ℕ)). get_or l i []) put.words
        ∙ get_or-set_other a.words n i _ [] (λ z. absurd (omega arith));
    marks = λ i lt. ap (λ (l : List ℕ). get_or l i 0) put.marks
        ∙ get_or-set_other a.marks n i _ 0 (λ z. absurd (omega arith));
    starts = put.starts;
  }

  own_held : (x : Form) → NamesRoom (n + 1) b → take label s ≡ x.label → ShortIs s x.short name
      → fixed ≡ is_fixed x → HeldAs b n x
  own_held x h p q e = record {
    short = ap (λ (l : List (List ℕ)). get_or l n []) put.shorts
        ∙ get_or-set_same a.shorts n _ [] (omega (arith, long.0, h.0))
        ∙ ap (pad_to short_most) (short_text_lem s x.short name q);
    word = ap (λ (l : List (List ℕ)). get_or l n []) put.words
        ∙ get_or-set_same a.words n _ [] (omega (arith, long.1, h.1)) ∙ ap held_word p;
    mark = ap (λ (l : List ℕ). get_or l n 0) put.marks
        ∙ get_or-set_same a.marks n _ 0 (omega (arith, long.2, h.2)) ∙ ap (λ (b : Bool). cond b 1 0) e;
    starts = put.own;
  }

-- ── names that are held alike ──

pub kept_all : (names : Names) (n : ℕ) → Kept names n names
kept_all names n = record {
  room = λ m h. h;
  shorts = λ i lt. refl;
  words = λ i lt. refl;
  marks = λ i lt. refl;
  starts = λ v. (omega arith, refl);
}

module _ (a b : Names) (n : ℕ) (kept : Kept a n b) where
  reads_same : (w : List ℕ) (k : ℕ) → k < n → is_held a w k ≡ is_held b w k
  unfolding reads_as
  reads_same w k lt = rw (kept.marks k lt, kept.shorts k lt, kept.words k lt) refl

  look_same : (w : List ℕ) → look_up a n w ≡ look_up b n w
  unfolding look_up
  look_same w =
      let e = (kept.starts (pad_to short_most w)).1 in
      let le = (most_least n (start_in a.starts (pad_to short_most w))).0 in
      rw e (search_same (is_held a w) (is_held b w) _ _ (λ k p q. reads_same w k (omega (arith, le, q))))

  look_is : look_up a n ≡ look_up b n
  look_is = λ i w. look_same w i

  stored_moved : (v : Tree (List ℕ)) (t : TreeBytes) → StoredIs a n v t → StoredIs b n v t
  stored_moved v t h = record {
    len = h.len;
    gives = h.gives ∙ ap (λ (f : List ℕ → ℕ). type_of (λ w. ltb (f w) n) v) look_is;
    deep = h.deep;
    bytes = λ le. h.bytes le ∙ ap (λ (f : List ℕ → ℕ). stored_tree f v) look_is;
  }

  width_moved : (v : Width (List ℕ)) (w : CodeWidth) (l : List ℕ) → WidthHeld a n v w l → WidthHeld b n v w l
  width_moved (fixed m) w l h = h
  width_moved (measured u v) w l h = (h.0, h.1, stored_moved v (held h.0 l) h.2)
  width_moved rest w l h = h

-- ── behind the names ──

module _ (names : Names) (n : ℕ) (s : List ℕ) (label : ℕ) (name : Span) (at : ℕ) (b : LineBytes)
  where
    pub behind_none : read_width (drop at s) ≡ miss → BehindFor names n s label name at b None
    unfolding BehindFor
    behind_none x w h i j = behind_miss w h (drop at s) x

    module _ (a : Names) (m : Measure) (x : MeasureAs a n s (read_width (drop at s)) b.width m) where
      pub behind_width : ((form : Ending) → form_of (read_ends form (drop m.next s)) ≡ none)
          → BehindFor names n s label name at b None
      unfolding BehindFor
      behind_width y w h i j =
          behind_is w h (drop at s) (drop m.next s) x.width x.is_read ∙ y (ending w h x.width)

      pub behind_whole : (e : Ends) → EndsAs names n s m.next b.constraint b.condition e
          → label ≤ length s → name.at + name.len ≤ length s
          → OwnPut a n s label name (kind.is_fixed m.width) names
          → BehindFor names n s label name at b (Some (whole_parts label name m e))
      unfolding BehindFor
      behind_whole e z i j put = λ w h p q.
          let kept = own_kept a n s label name (kind.is_fixed m.width) names put in record {
            form = ending w h x.width z.constraint z.condition;
            is_read = behind_is w h (drop at s) (drop m.next s) x.width x.is_read ∙ z.is_read (ending w h x.width);
            held_parts = record {
              label_fits = i;
              short_fits = j;
              label = p;
              short = q;
              width = width_moved a names n kept x.width m.width b.width x.stored;
              constraint = z.first;
              condition = z.second;
              own = λ room. own_held a n s label name (kind.is_fixed m.width) names put
                  (ending w h x.width z.constraint z.condition) room p q
                  (fixed_kind_lem a n x.width m.width b.width x.stored);
            };
          }

-- ── the line ──

module _ (s : List ℕ) where
  pub parts_no_label : {l : CodeOption ℕ} → SameLabel s 0 (read_label s) l → l ≡ None → read_form s ≡ none
  parts_no_label h o = line_no_label s (label_miss s _ (read_label s) h o)

  module _ {k : ℕ} (x : LabelAs s k) where
    pub parts_no_short : {l : CodeOption (Span × ℕ)} → SameShort s (read_short (drop k s)) l → l ≡ None
        → read_form s ≡ none
    parts_no_short h o = line_no_short s (drop k s) x.text x.is_read (short_miss s _ (read_short (drop k s)) h o)

    module _ {p : Span} {m : ℕ} (y : ShortAs s k p m) (le : m ≤ length s) where
      pub parts_no_colon : begins (bytes ": ") (drop m s) ≡ false → read_form s ≡ none
      parts_no_colon o =
          line_no_colon s (drop k s) (drop m s) x.text y.text x.is_read y.is_read
          (literal_none (bytes ": ") (drop m s) o)

      pub parts_behind : (names : Names) (n : ℕ) (v : LineBytes) (r : CodeOption Parts)
          → begins (bytes ": ") (drop m s) ≡ true → BehindFor names n s k p (m + 2) v r
          → PartsFor names n s (read_form s) v r
      unfolding BehindFor
      parts_behind names n v r o h =
          rw (line_behind s (drop k s) (drop m s) (drop (m + 2) s) x.text y.text x.is_read y.is_read
          (literal_at (bytes ": ") s m le o).1)
          (h x.text y.text x.is_text y.is_text)
