-- Fields resolved one by one, each among those before it and its own, are those resolved all at once.
use mathlib.Core.Path.{◌≡◌, refl, ap, ap₂, sym, ◌∙◌}
use mathlib.Core.Bool.{Bool, true, false, cond, ◌&&◌, ◌||◌}
use mathlib.Core.List.{List, [], ◌∷◌, ◌++◌, map, append_assoc, append-nil}
use mathlib.Core.Option
use mathlib.Core.Option.{Option, none, some}
use Prim.Native.Nat.{ℕ, suc}
use Rattle.base.specs.Lists.{any, same, if_any, first_break}
use Rattle.base.proofs.Lists.{and_left, and_right, not_both, or_left, or_right}
use Rattle.base.proofs.Breaks.{first_break_cons}
use Rattle.rules.specs.declared.ValueType.{ValueType}
use Rattle.rules.specs.declared.ValueType.TheVariants.{Number, YesNo}
use Rattle.rules.specs.Operators.{takes, gives}
use Rattle.rules.specs.Trees.{Tree, num, read, two, negation, same_type, has_type}
use Rattle.rules.specs.Fields.{Width, fixed, measured, rest, Field, Form, is_fixed, read_names}
use Rattle.rules.specs.Within.{keeps_types, width_has_type, name_readable}
use Rattle.text_laws.specs.Resolving.{first_index, index_of, rename_tree, rename_width, rename_field, resolve}
use Rattle.text_laws.specs.Judging.{faces, resolved_in}
use Rattle.text_laws.proofs.Faces.{renamed_face, same_index}

-- ── one by one ──

unfoldable pub folded : List Form → List Form → List (Field ℕ)
folded before [] = []
folded before (x ∷ l) = rename_field (index_of (before ++ (x ∷ []))) x ∷ folded (before ++ (x ∷ [])) l

folded_from : (before l : List Form) (x : Form)
    → folded before (l ++ (x ∷ [])) ≡ folded before l ++ (rename_field (index_of ((before ++ l) ++ (x ∷ []))) x ∷ [])
unfolding folded
folded_from before [] x = rw (append-nil before) refl
folded_from before (y ∷ l) x =
    ap (λ (m : List (Field ℕ)). rename_field (index_of (before ++ (y ∷ []))) y ∷ m)
    (folded_from (before ++ (y ∷ [])) l x
    ∙ ap (λ (b : List Form). folded (before ++ (y ∷ [])) l ++ (rename_field (index_of (b ++ (x ∷ []))) x ∷ []))
    (append_assoc before (y ∷ []) l))

pub folded_faces : (before l : List Form) → faces (folded before l) ≡ faces l
unfolding folded
folded_faces before [] = refl
folded_faces before (x ∷ l) =
    ap₂ {C = List Form} ◌∷◌ (renamed_face (index_of (before ++ (x ∷ []))) x) (folded_faces (before ++ (x ∷ [])) l)

-- one more line
pub folded_more : (forms : List Form) (x : Form) (fields : List (Field ℕ)) → fields ≡ folded [] forms
    → fields ++ (resolved_in fields x ∷ []) ≡ folded [] (forms ++ (x ∷ []))
folded_more forms x fields e =
    let f : faces fields ≡ faces forms = ap faces e ∙ folded_faces [] forms in
    let g : index_of (faces fields ++ (x ∷ [])) ≡ index_of (forms ++ (x ∷ [])) =
    λ i w. (ap (λ (l : List Form). index_of (l ++ (x ∷ [])) w) f ∙ same_index forms x w) i in
    ap₂ {C = List (Field ℕ)} (λ (l : List (Field ℕ)) (h : List ℕ → ℕ). l ++ (rename_field h x ∷ [])) e g
    ∙ sym (folded_from [] forms x)

-- ── trees whose names are renamed alike ──

module _ {N : Type 0} (may : List ℕ → Bool) (f g : List ℕ → N) (h : (w : List ℕ) → may w ≡ true → f w ≡ g w) where
  same_tree_lem : (k : ValueType) (t : Tree (List ℕ)) → has_type may k t ≡ true → rename_tree f t ≡ rename_tree g t
  unfolding rename_tree has_type
  same_tree_lem k (num n) q = refl
  same_tree_lem k (read w) q = ap {B = Tree N} read (h w (and_right (same_type k Number) (may w) q))
  same_tree_lem k (two o x y) q =
      let both = and_right (same_type k (gives o)) (has_type may (takes o) x && has_type may (takes o) y) q in
      ap₂ {C = Tree N} (two o)
      (same_tree_lem (takes o) x (and_left (has_type may (takes o) x) (has_type may (takes o) y) both))
      (same_tree_lem (takes o) y (and_right (has_type may (takes o) x) (has_type may (takes o) y) both))
  same_tree_lem k (negation x) q =
      ap {B = Tree N} negation (same_tree_lem YesNo x (and_right (same_type k YesNo) (has_type may YesNo x) q))

  pub same_width : (v : Width (List ℕ)) → width_has_type may v ≡ true → rename_width f v ≡ rename_width g v
  same_width (fixed n) q = refl
  same_width (measured u t) q = ap {B = Width N} (measured u) (same_tree_lem Number t q)
  same_width rest q = refl

  pub same_maybe : (o : Option (Tree (List ℕ))) → if_any (has_type may YesNo) o ≡ true
      → Option.map (rename_tree f) o ≡ Option.map (rename_tree g) o
  same_maybe none q = refl
  same_maybe (some t) q = ap {B = Option (Tree N)} some (same_tree_lem YesNo t q)

-- ── the index among the first lines, and among all ──

front_index : {A : Type 0} (p : A → Bool) (l m : List A) → any p l ≡ true → first_index p (l ++ m) ≡ first_index p l
unfolding any first_index
front_index p [] m h = absurd (not_both false h refl)
front_index p (x ∷ l) m h = go (p x) h (front_index p l m)
  where
    go : (b : Bool) → b || any p l ≡ true → (any p l ≡ true → first_index p (l ++ m) ≡ first_index p l)
        → cond b 0 (suc (first_index p (l ++ m))) ≡ cond b 0 (suc (first_index p l))
    go true k f = refl
    go false k f = ap suc (f k)

any_weaker : {A : Type 0} (p q : A → Bool) → ((x : A) → p x ≡ true → q x ≡ true) → (l m : List A)
    → any p l ≡ true → any q (l ++ m) ≡ true
unfolding any
any_weaker p q f [] m h = absurd (not_both false h refl)
any_weaker p q f (x ∷ l) m h = go (p x) refl h (any_weaker p q f l m)
  where
    go : (b : Bool) → p x ≡ b → b || any p l ≡ true → (any p l ≡ true → any q (l ++ m) ≡ true)
        → q x || any q (l ++ m) ≡ true
    go true e k r = or_left (q x) (any q (l ++ m)) (f x e)
    go false e k r = or_right (q x) (any q (l ++ m)) (r k)

-- a name that may be read is found among the first lines
named_index : (l m : List Form) (w : List ℕ) → any (λ (x : Form). any (same w) (read_names x)) l ≡ true
    → index_of l w ≡ index_of (l ++ m) w
named_index l m w h = sym (front_index (λ x. any (same w) (read_names x)) l m h)

module _ (forms : List Form) where
  folded_rest : (before l : List Form) → forms ≡ before ++ l → first_break (keeps_types name_readable) before l ≡ none
      → folded before l ≡ map (rename_field (index_of forms)) l
  unfolding folded
  folded_rest before [] e h = refl
  folded_rest before (x ∷ l) e h =
      let k = first_break_cons (keeps_types name_readable) before x l h in
      let own_front : List Form = before ++ (x ∷ []) in
      let e' : forms ≡ own_front ++ l = e ∙ sym (append_assoc before (x ∷ []) l) in
      let wide = width_has_type (name_readable before) x.width in
      let own = if_any (has_type (name_readable (before ++ (x ∷ []))) YesNo) x.constraint in
      let when = if_any (has_type (name_readable before) YesNo) x.condition in
      let both : own && when ≡ true = and_right wide (own && when) k.0 in
      let readable : (y : Form) (w : List ℕ) → (is_fixed y && any (same w) (read_names y)) ≡ true
      → any (same w) (read_names y) ≡ true =
      λ y w. and_right (is_fixed y) (any (same w) (read_names y)) in
      let found : (w : List ℕ) → any (λ (y : Form). any (same w) (read_names y)) own_front ≡ true
      → index_of own_front w ≡ index_of forms w =
      λ w q. named_index own_front l w q ∙ ap (λ (m : List Form). index_of m w) (sym e') in
      let earlier : (w : List ℕ) → name_readable before w ≡ true → index_of own_front w ≡ index_of forms w =
      λ w q. found w (any_weaker (λ y. is_fixed y && any (same w) (read_names y)) (λ y. any (same w) (read_names y))
      (λ y. readable y w) before (x ∷ []) q) in
      let here : (w : List ℕ) → name_readable own_front w ≡ true → index_of own_front w ≡ index_of forms w =
      λ w q. found w (rw (append-nil own_front) at
      (any_weaker (λ y. is_fixed y && any (same w) (read_names y)) (λ y. any (same w) (read_names y))
      (λ y. readable y w) own_front [] q)) in
      ap₂ {C = List (Field ℕ)} ◌∷◌
      (λ i. record {
        label = x.label;
        short = x.short;
        width = same_width (name_readable before) (index_of own_front) (index_of forms) earlier x.width
            (and_left wide (own && when) k.0) i;
        constraint = same_maybe (name_readable own_front) (index_of own_front) (index_of forms) here x.constraint
            (and_left own when both) i;
        condition = same_maybe (name_readable before) (index_of own_front) (index_of forms) earlier x.condition
            (and_right own when both) i;
      })
      (folded_rest own_front l e' k.1)

-- where no line breaks 9
pub folded_all : (forms : List Form) → first_break (keeps_types name_readable) [] forms ≡ none
    → folded [] forms ≡ resolve forms
unfolding resolve
folded_all forms h = folded_rest forms [] forms refl h
