-- Names that the code holds by value, as arrays of bytes: rule 9 of one line, and the record that is written of it.
-- On lists, with no text and no place in it: held names of the fields so far, and of the line's own form behind them.
use mathlib.Core.Path.{◌≡◌, refl, sym, ◌∙◌, ap}
use mathlib.Core.Bool.{Bool, true, false, cond, ◌&&◌, ◌||◌}
use mathlib.Core.List.{List, [], ◌∷◌, ◌++◌}
use mathlib.Core.Option.{Option, none, some}
use Prim.Native.Nat.{ℕ, suc, ◌+◌, ◌≤◌, ◌<◌}
use native.Mathlib.Omega.{arith}
use lib.Dec.{eqb, ltb}
use lib.ListN.{length, take, get_elem?, length-append}
use lib.Seq.{take-append_seam, take-length}
use borrow.Author.Tests.{ltb-true}
use Rattle.base.specs.Lists.{all, any, same, if_any, list_of, first_break}
use Rattle.base.proofs.Lists.{and_left, and_right}
use Rattle.base.proofs.Lookups.{element_any}
use Rattle.rules.specs.declared.ValueType.TheVariants.{Number, YesNo}
use Rattle.rules.specs.Limits.{short_most}
use Rattle.rules.specs.Names.{is_short}
use Rattle.rules.specs.Trees.{Tree, has_type}
use Rattle.rules.specs.Fields.{Width, fixed, measured, rest, Form, is_fixed, read_names, width_trees}
use Rattle.rules.specs.Stored.{stored_name}
use Rattle.rules.specs.Within.{keeps_names, keeps_types, width_has_type, name_readable}
use Rattle.laws.proofs.NameLaws.{name_unique_in}
use Rattle.names.specs.Repeats.{first_from, pad_to, same_name, held_word}
use Rattle.names.proofs.PadLaws.{held_same, none_second}
use Rattle.texts.specs.Resolved.{types_kept}
use Rattle.texts.specs.StoredTrees.{reads_as, is_held, look_up, may_read}
use Rattle.texts.specs.HeldNames.{Names, HeldAs}
use Rattle.texts.specs.Resolved.{indexed}
use Rattle.text_laws.specs.Resolving.{index_of, rename_field}
use Rattle.text_laws.proofs.NamedTypes.{any_element}
use Rattle.texts.proofs.FirstBreaks.{any_search, search_hit}
use Rattle.texts.proofs.LineRules.{element_at}
use Rattle.texts.proofs.LookLaws.{look_zero}
use Rattle.texts.proofs.LineTypes.{all_names, type_same, ShortNames}
use Rattle.text_laws.proofs.Resolved.{same_width, same_maybe}

-- ── what may be read ──

read_held : (x : Form) (w : List ℕ) → if_any is_short x.short ≡ true → is_short w ≡ true
    → (same_name (pad_to short_most w) (pad_to short_most (stored_name x.short))
    || same_name (pad_to short_most w) (held_word x.label))
    ≡ any (same w) (read_names x)
unfolding any
read_held x w p q = go (is_short l) refl x.short p
  where
    l : List ℕ
    l = x.label

    or_false : (a : Bool) → a ≡ a || false
    or_false true = refl
    or_false false = refl

    go : (b : Bool) → is_short l ≡ b → (o : Option (List ℕ)) → if_any is_short o ≡ true
        → (same_name (pad_to short_most w) (pad_to short_most (stored_name o))
        || same_name (pad_to short_most w) (pad_to short_most (cond b l [])))
        ≡ any (same w) (list_of o ++ cond b (l ∷ []) [])
    go true e none p = rw (none_second w q, held_same w l q e) (or_false (same w l))
    go true e (some v) p =
        rw (held_same w v q p, held_same w l q e) (ap (λ (a : Bool). same w v || a) (or_false (same w l)))
    go false e none p = rw (none_second w q) refl
    go false e (some v) p = rw (held_same w v q p, none_second w q) refl

mark_is : (b : Bool) → eqb (cond b 1 0) 1 ≡ b
mark_is true = refl
mark_is false = refl

-- those of the fields before, and of the line's own form x
module _ (before : List Form) (x : Form) (names : Names)
    (formed : (i : ℕ) (y : Form) → get_elem? (before ++ (x ∷ [])) i ≡ some y → if_any is_short y.short ≡ true)
    (held : (i : ℕ) (y : Form) → get_elem? (before ++ (x ∷ [])) i ≡ some y → HeldAs names i y)
    (short : ShortNames x) where
  held_fixed : (i : ℕ) (y : Form) (w : List ℕ) → get_elem? (before ++ (x ∷ [])) i ≡ some y → is_short w ≡ true
      → is_held names w i ≡ (is_fixed y && any (same w) (read_names y))
  unfolding reads_as
  held_fixed i y w e q =
      let h = held i y e in
      rw (h.mark, h.short, h.word, mark_is (is_fixed y), read_held y w (formed i y e) q) refl

  look_first : (k : ℕ) (w : List ℕ) → k ≤ length (before ++ (x ∷ []))
      → look_up names k w ≡ first_from (is_held names w) 0 k
  look_first k w le =
      look_zero names k w (λ i lt.
      let y = element_at (before ++ (x ∷ [])) i (omega (arith, le, lt)) in
      (held i y.0 y.1).starts)

  may_read_lem : (k : ℕ) (w : List ℕ) → k ≤ length (before ++ (x ∷ [])) → is_short w ≡ true
      → may_read names k w ≡ name_readable (take k (before ++ (x ∷ []))) w
  may_read_lem k w le q =
      ap (λ (n : ℕ). ltb n k) (look_first k w le)
      ∙ any_search (λ (y : Form). is_fixed y && any (same w) (read_names y)) (is_held names w) (before ++ (x ∷ [])) k le
      (λ i y lt e. held_fixed i y w e q)

  longer : length (before ++ (x ∷ [])) ≡ suc (length before)
  longer = let n = length-append before (x ∷ []) in omega (arith, n)

  may_earlier : (w : List ℕ) → is_short w ≡ true → may_read names (length before) w ≡ name_readable before w
  may_earlier w q =
      may_read_lem (length before) w (omega (arith, longer)) q
      ∙ ap (λ (l : List Form). name_readable l w) (take-append_seam before (x ∷ []))

  may_own : (w : List ℕ) → is_short w ≡ true
      → may_read names (length before + 1) w ≡ name_readable (before ++ (x ∷ [])) w
  may_own w q =
      let z : length before + 1 ≡ length (before ++ (x ∷ [])) = omega (arith, longer) in
      may_read_lem (length before + 1) w (omega (arith, longer)) q
      ∙ ap (λ (l : List Form). name_readable l w)
      (ap (λ (k : ℕ). take k (before ++ (x ∷ []))) z ∙ take-length (before ++ (x ∷ [])))

  -- ── 9 at this line ──

  width_type : (f g : List ℕ → Bool) → ((w : List ℕ) → is_short w ≡ true → f w ≡ g w) → (v : Width (List ℕ))
      → all (all_names is_short) (width_trees v) ≡ true → width_has_type f v ≡ width_has_type g v
  unfolding all
  width_type f g h (fixed n) e = refl
  width_type f g h (measured u t) e = type_same is_short f g h Number t (and_left (all_names is_short t) true e)
  width_type f g h rest e = refl

  maybe_type : (f g : List ℕ → Bool) → ((w : List ℕ) → is_short w ≡ true → f w ≡ g w)
      → (o : Option (Tree (List ℕ))) → if_any (all_names is_short) o ≡ true
      → if_any (has_type f YesNo) o ≡ if_any (has_type g YesNo) o
  maybe_type f g h none e = refl
  maybe_type f g h (some t) e = type_same is_short f g h YesNo t e

  pub types_here : types_kept names (length before) x ≡ keeps_types name_readable before x
  types_here =
      rw (
        width_type (may_read names (length before)) (name_readable before) may_earlier x.width short.width,
        maybe_type (may_read names (length before + 1)) (name_readable (before ++ (x ∷ []))) may_own x.constraint
            short.constraint,
        maybe_type (may_read names (length before)) (name_readable before) may_earlier x.condition
            short.condition,
      )
      refl

-- ── the record of this line, where it keeps 8 and 9 ──

module _ (before : List Form) (x : Form) (names : Names)
    (formed : (i : ℕ) (y : Form) → get_elem? (before ++ (x ∷ [])) i ≡ some y → if_any is_short y.short ≡ true)
    (held : (i : ℕ) (y : Form) → get_elem? (before ++ (x ∷ [])) i ≡ some y → HeldAs names i y)
    (short : ShortNames x)
    (unique : first_break keeps_names [] (before ++ (x ∷ [])) ≡ none)
    (types : keeps_types name_readable before x ≡ true) where
  index_same : (k : ℕ) → k ≤ length (before ++ (x ∷ [])) → (w : List ℕ) → (is_short w && may_read names k w) ≡ true
      → look_up names k w ≡ index_of (before ++ (x ∷ [])) w
  index_same k le w both =
      let q : is_short w ≡ true = and_left (is_short w) (may_read names k w) both in
      let j = first_from (is_held names w) 0 k in
      let first = look_first before x names formed held short k w le in
      let lt : j < k = ltb-true j k (ap (λ (n : ℕ). ltb n k) (sym first)
      ∙ and_right (is_short w) (may_read names k w) both) in
      let hit : is_held names w j ≡ true = search_hit (is_held names w) 0 k (omega arith) in
      let y = element_at (before ++ (x ∷ [])) j (omega arith) in
      let is = sym (held_fixed before x names formed held short j y.0 w y.1 q) ∙ hit in
      let named : any (same w) (read_names y.0) ≡ true =
      and_right (is_fixed y.0) (any (same w) (read_names y.0)) is in
      let found =
      element_any (λ (z : Form). any (same w) (read_names z)) (before ++ (x ∷ [])) j y.0 y.1 named in
      let z = any_element (λ (v : Form). any (same w) (read_names v)) (before ++ (x ∷ [])) found in
      first ∙ name_unique_in (before ++ (x ∷ [])) unique j (index_of (before ++ (x ∷ [])) w) w (y.0, y.1, named)
      (z.0, z.1, z.2)

  -- a tree of names that have the form of short names reads only such ones
  both_width : (may : List ℕ → Bool) (v : Width (List ℕ)) → all (all_names is_short) (width_trees v) ≡ true
      → width_has_type may v ≡ true → width_has_type (λ w. is_short w && may w) v ≡ true
  both_width may v e h = sym (width_type before x names formed held short may (λ w. is_short w && may w) (λ w q. rw q
      refl) v e) ∙ h

  both_maybe : (may : List ℕ → Bool) (o : Option (Tree (List ℕ))) → if_any (all_names is_short) o ≡ true
      → if_any (has_type may YesNo) o ≡ true → if_any (has_type (λ w. is_short w && may w) YesNo) o ≡ true
  both_maybe may o e h = sym (maybe_type before x names formed held short may (λ w. is_short w && may w) (λ w q. rw q
      refl) o e) ∙ h

  pub record_here : indexed names (length before) x ≡ rename_field (index_of (before ++ (x ∷ []))) x
  record_here =
      let n = length before in
      let k = types_here before x names formed held short ∙ types in
      let wide = width_has_type (may_read names n) x.width in
      let own = if_any (has_type (may_read names (n + 1)) YesNo) x.constraint in
      let when = if_any (has_type (may_read names n) YesNo) x.condition in
      let both = and_right wide (own && when) k in
      let g = index_of (before ++ (x ∷ [])) in
      rw (
        same_width (λ w. is_short w && may_read names n w) (look_up names n) g (index_same n (omega (
          arith,
          longer
              before x names formed held short,
        )))
            x.width (both_width (may_read names n) x.width short.width (and_left wide (own && when) k)),
        same_maybe (λ w. is_short w && may_read names (n + 1) w) (look_up names (n + 1)) g
            (index_same (n + 1) (omega (arith, longer before x names formed held short))) x.constraint
            (both_maybe (may_read names (n + 1)) x.constraint short.constraint (and_left own when both)),
        same_maybe (λ w. is_short w && may_read names n w) (look_up names n) g (index_same n (omega (
          arith,
          longer
              before x names formed held short,
        )))
            x.condition (both_maybe (may_read names n) x.condition short.condition (and_right own when both)),
      )
      refl
