-- The parts of a whole field line, as the code finds them, against the reader of the line.
use mathlib.Core.Path.{◌≡◌, refl, sym, ◌∙◌}
use mathlib.Core.Bool.{Bool, true, false, ◌&&◌}
use mathlib.Core.List.{List, [], ◌∷◌, ◌++◌}
use mathlib.Core.Option.{Option, none}
use Prim.Native.Nat.{ℕ, ◌+◌, ◌≤◌}
use native.Mathlib.Omega.{arith}
use native.Mathlib.Nat.{sub-zero}
use lib.ListN.{length, take, drop}
use Rattle.base.specs.Bytes.{bytes}
use Rattle.base.specs.Lists.{all}
use Rattle.rules.specs.Fields.{Width}
use Rattle.text_laws.specs.LineReader.{Got, miss, hit, literal, read_label, read_short, read_width}
use Rattle.text_laws.specs.LineReader.{read_field, form_of, read_form}
use Rattle.texts.proofs.OptionLaws.{some_pair}
use Rattle.texts.specs.FieldPlaces.{SameLabel, WithinLabel, SameShort, WithinShort}
use Rattle.texts.specs.PartPlaces.{ShortIs}
use Rattle.texts.specs.PartPlaces.{Ending, read_ends, read_behind}
use Rattle.std.specs.Prelude.{Option as CodeOption, None, Some}
use Rattle.writing.specs.declared.spans.Span.{Span}

-- ── sizes ──

pub all_join : {A : Type 0} (p : A → Bool) (s t : List A) → all p (s ++ t) ≡ (all p s && all p t)
unfolding all
all_join p [] t = refl
all_join p (x ∷ s) t = rw (all_join p s t) (go (p x))
  where
    go : (b : Bool) → (b && (all p s && all p t)) ≡ ((b && all p s) && all p t)
    go true = refl
    go false = refl

-- ── behind the names ──

pub behind_miss : (w : List ℕ) (h : Option (List ℕ)) (z : List ℕ) → read_width z ≡ miss → form_of (read_behind w h z) ≡
    none
unfolding read_behind
behind_miss w h z e = rw e refl

abbrev pub ending : List ℕ → Option (List ℕ) → Width (List ℕ) → Ending
ending w h v = λ c d. record { label = w; short = h; width = v; constraint = c; condition = d }

pub behind_is : (w : List ℕ) (h : Option (List ℕ)) (z z₁ : List ℕ) (v : Width (List ℕ)) → read_width z ≡ hit v z₁
    → form_of (read_behind w h z) ≡ form_of (read_ends (ending w h v) z₁)
unfolding read_behind
behind_is w h z z₁ v e = rw e refl

-- ── the line ──

pub line_no_label : (s : List ℕ) → read_label s ≡ miss → read_form s ≡ none
unfolding read_form read_field
line_no_label s e = rw e refl

pub line_no_short : (s z : List ℕ) (w : List ℕ) → read_label s ≡ hit w z → read_short z ≡ miss → read_form s ≡ none
unfolding read_form read_field
line_no_short s z w e f = rw (e, f) refl

pub line_no_colon : (s z z₁ w : List ℕ) (h : Option (List ℕ)) → read_label s ≡ hit w z → read_short z ≡ hit h z₁
    → literal (bytes ": ") z₁ ≡ miss → read_form s ≡ none
unfolding read_form read_field
line_no_colon s z z₁ w h e f g = rw (e, f, g) refl

pub line_behind : (s z z₁ z₂ w : List ℕ) (h : Option (List ℕ)) → read_label s ≡ hit w z → read_short z ≡ hit h z₁
    → literal (bytes ": ") z₁ ≡ hit tt z₂ → read_form s ≡ form_of (read_behind w h z₂)
unfolding read_form read_field read_behind read_ends
line_behind s z z₁ z₂ w h e f g = rw (e, f, g) refl

-- the label that the code found
pub record LabelAs (s : List ℕ) (n : ℕ) : Type 0 where
  pub text : List ℕ
  pub is_read : read_label s ≡ hit text (drop n s)
  pub is_text : take n s ≡ text

pub label_miss : (s : List ℕ) (r : CodeOption ℕ) (g : Got (List ℕ)) → SameLabel s 0 g r → r ≡ None → g ≡ miss
unfolding SameLabel
label_miss s r miss h e = refl
label_miss s r (hit w q) h e = let e' = h.1 in cc

label_hit : (s : List ℕ) (r : CodeOption ℕ) (g : Got (List ℕ)) (n : ℕ) → SameLabel s 0 g r → r ≡ Some n
    → (w : List ℕ) × (g ≡ hit w (drop n s)) × (take n s ≡ w)
unfolding SameLabel
label_hit s r miss n h e = let y : ◌≡◌ {A = ℕ} 0 1 = cc in absurd (omega arith)
label_hit s r (hit w q) n h e =
    let e' = h.1 in
    let p : h.0 ≡ n = cc in
    let f = h.3 in
    (w, cc, rw (p, sub-zero n) at h.2)

pub label_within : (s : List ℕ) (at : ℕ) {r : CodeOption ℕ} {n : ℕ} → r ≡ Some n → WithinLabel s at r
    → (at ≤ n) × (n ≤ length s)
unfolding WithinLabel
label_within s at e w = rw e at w

-- the short name that the code found
pub record ShortAs (s : List ℕ) (at : ℕ) (p : Span) (n : ℕ) : Type 0 where
  pub text : Option (List ℕ)
  pub is_read : read_short (drop at s) ≡ hit text (drop n s)
  pub is_text : ShortIs s text p

pub short_miss : (s : List ℕ) (r : CodeOption (Span × ℕ)) (g : Got (Option (List ℕ))) → SameShort s g r
    → r ≡ None → g ≡ miss
unfolding SameShort
short_miss s r miss h e = refl
short_miss s r (hit w q) h e = let e' = h.2 in cc

short_hit : (s : List ℕ) (r : CodeOption (Span × ℕ)) (g : Got (Option (List ℕ))) (p : Span) (n : ℕ) → SameShort s g r
    → r ≡ Some (p, n) → (w : Option (List ℕ)) × (g ≡ hit w (drop n s)) × ShortIs s w p
unfolding SameShort
short_hit s r miss p n h e = let y : ◌≡◌ {A = ℕ} 0 1 = cc in absurd (omega arith)
short_hit s r (hit w q) p n h e =
    let k = some_pair p h.0 n h.1 (sym e ∙ h.2) in
    let m = k.1 in
    let f = h.4 in
    (w, cc, rw (sym k.0) at h.3)

pub short_within : (s : List ℕ) (at : ℕ) {r : CodeOption (Span × ℕ)} {p : Span} {n : ℕ} → r ≡ Some (p, n)
    → WithinShort s at r
    → (at ≤ p.at) × (p.at + p.len ≤ n) × (n ≤ length s)
unfolding WithinShort
short_within s at e w = rw e at w

module _ (s : List ℕ) where
  pub label_as : {r : CodeOption ℕ} {n : ℕ} → SameLabel s 0 (read_label s) r → r ≡ Some n → LabelAs s n
  label_as h e =
      let x = label_hit s _ (read_label s) _ h e in record { text = x.0; is_read = x.1; is_text = x.2 }

  pub short_as : (at : ℕ) {r : CodeOption (Span × ℕ)} {p : Span} {n : ℕ} → SameShort s (read_short (drop at s)) r
      → r ≡ Some (p, n) → ShortAs s at p n
  short_as at h e =
      let x = short_hit s _ (read_short (drop at s)) _ _ h e in
      record { text = x.0; is_read = x.1; is_text = x.2 }
