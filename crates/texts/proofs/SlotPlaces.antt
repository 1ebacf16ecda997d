-- Where the kept cells stand.
use mathlib.Core.Path.{◌≡◌, refl, ap, sym, ◌∙◌, subst}
use mathlib.Core.Bool.{true, false}
use mathlib.Core.List.{List, [], ◌∷◌, ◌++◌, append_assoc}
use mathlib.Core.Option.{Option, none, some, some-injective}
use Prim.Native.Nat.{ℕ, zero, suc, ◌+◌, ◌≤◌, ◌<◌}
use native.Mathlib.Omega.{arith}
use lib.ListN.{length, take, drop, get_elem?, length-append, length-map, take-append-drop}
use lib.Seq.{drop-append_seam, take_all}
use Rattle.base.specs.Lists.{all, joined}
use Rattle.base.proofs.Lists.{and_left, and_right}
use Rattle.rules.specs.Names.{is_label}
use Rattle.rules.specs.Fields.{Form}
use Rattle.rules.specs.Frames.{Slot}
use Rattle.rules.specs.Spelling.{shows}
use Rattle.text_laws.specs.Judging.{face, faces, shown_by, shows_cell}
use Rattle.text_laws.specs.Fold as fold
use Rattle.text_laws.specs.Steady.{Steady}
use Rattle.texts.specs.Slots.{stored_slot}
use Rattle.texts.specs.States.{Counts, Slots}
use Rattle.texts.specs.declared.states.Reading.{Reading}
use Rattle.texts.proofs.LineRules.{element_at}

element_none : {A : Type 0} (l : List A) (i : ℕ) → length l ≤ i → get_elem? l i ≡ none
element_none [] i le = refl
element_none (x ∷ l) zero le = absurd (omega arith)
element_none (x ∷ l) (suc i) le = element_none l i (omega arith)

label_at : (cs : List Slot) (i : ℕ) (c : Slot) → all (λ d. is_label d.text) cs ≡ true → get_elem? cs i ≡ some c
    → is_label c.text ≡ true
unfolding all
label_at [] i c h e = absurd (let z : ◌≡◌ {A = ℕ} 0 1 = cc in omega arith)
label_at (d ∷ cs) zero c h e =
    subst (λ (z : Slot). is_label z.text ≡ true) (some-injective d c e) (and_left (is_label d.text) _ h)
label_at (d ∷ cs) (suc i) c h e = label_at cs i c (and_right (is_label d.text) _ h) e

-- the cell of an index, among those before it and behind it
split_at : (cs : List Slot) (i : ℕ) (c : Slot) → get_elem? cs i ≡ some c
    → joined stored_slot cs
    ≡ joined stored_slot (take i cs) ++ (stored_slot c ++ joined stored_slot (drop (suc i) cs))
unfolding joined
split_at [] i c e = absurd (let z : ◌≡◌ {A = ℕ} 0 1 = cc in omega arith)
split_at (d ∷ cs) zero c e = ap (λ (z : Slot). stored_slot z ++ joined stored_slot cs) (some-injective d c e)
split_at (d ∷ cs) (suc i) c e =
    ap (λ (l : List ℕ). stored_slot d ++ l) (split_at cs i c e)
    ∙ sym (append_assoc (stored_slot d) (joined stored_slot (take i cs))
    (stored_slot c ++ joined stored_slot (drop (suc i) cs)))

-- and where the next one stands
length_at : (cs : List Slot) (i : ℕ) (c : Slot) → get_elem? cs i ≡ some c
    → length (joined stored_slot (take (suc i) cs)) ≡ length (joined stored_slot (take i cs)) + length (stored_slot c)
unfolding joined
length_at [] i c e = absurd (let z : ◌≡◌ {A = ℕ} 0 1 = cc in omega arith)
length_at (d ∷ cs) zero c e =
    let q = ap (λ (z : Slot). length (stored_slot z)) (some-injective d c e) in
    let n = length-append (stored_slot d) (joined stored_slot []) in
    omega (arith, q, n)
length_at (d ∷ cs) (suc i) c e =
    let m = length_at cs i c e in
    let a = length-append (stored_slot d) (joined stored_slot (take (suc i) cs)) in
    let b = length-append (stored_slot d) (joined stored_slot (take i cs)) in
    omega (arith, m, a, b)

module _ (f : fold.Found) (r : Reading) (cells : List ℕ) (counts : Counts f r) (slots : Slots f r cells) where
  -- ── no cell is left ──

  pub none_shown : r.cells ≤ r.fields → (x : Form) → false ≡ shows_cell f.cells (faces f.judged.fields) x
  none_shown le x =
      let n = length-map f.judged.fields face in
      let a = counts.cells in
      let b = counts.fields in
      let e = element_none f.cells (length (faces f.judged.fields)) (omega (arith, n, a, b, le)) in
      sym (ap (λ (o : Option Slot). shown_by o x) e)

  pub none_next : r.cells ≤ r.fields
      → r.cell ≡ length (joined stored_slot (take (suc (length f.judged.fields)) f.cells))
  none_next le =
      let a = counts.cells in
      let b = counts.fields in
      slots.next ∙ ap (λ (l : List Slot). length (joined stored_slot l))
      (take_all (length f.judged.fields) f.cells (omega (arith, a, b, le))
      ∙ sym (take_all (suc (length f.judged.fields)) f.cells (omega (arith, a, b, le))))

  -- ── the next cell ──

  pub record Here : Type 0 where
    pub slot : Slot
    pub behind : List ℕ
    pub is_at : get_elem? f.cells (length f.judged.fields) ≡ some slot
    pub stands : drop r.cell cells ≡ stored_slot slot ++ behind
    pub next : length (joined stored_slot (take (suc (length f.judged.fields)) f.cells))
        ≡ r.cell + length (stored_slot slot)
    pub within : r.cell + length (stored_slot slot) ≤ r.slots

  pub slot_here : r.fields < r.cells → Here
  slot_here lt =
      let a = counts.cells in
      let b = counts.fields in
      let i = length f.judged.fields in
      let c = element_at f.cells i (omega (arith, a, b, lt)) in
      let front = joined stored_slot (take i f.cells) in
      let rest = joined stored_slot (drop (suc i) f.cells) in
      let s : joined stored_slot f.cells ≡ front ++ (stored_slot c.0 ++ rest) =
      split_at f.cells i c.0 c.1 in
      let whole : cells ≡ front ++ (stored_slot c.0 ++ (rest ++ drop r.slots cells)) =
      sym (take-append-drop r.slots cells)
      ∙ ap (λ (l : List ℕ). l ++ drop r.slots cells) (slots.stored ∙ s)
      ∙ append_assoc front (stored_slot c.0 ++ rest) (drop r.slots cells)
      ∙ ap (λ (l : List ℕ). front ++ l) (append_assoc (stored_slot c.0) rest (drop r.slots cells)) in
      let n = length_at f.cells i c.0 c.1 in
      let p = slots.next in
      let q = slots.end in
      let t = ap length s in
      let u = length-append front (stored_slot c.0 ++ rest) in
      let v = length-append (stored_slot c.0) rest in
      record {
        slot = c.0;
        behind = rest ++ drop r.slots cells;
        is_at = c.1;
        stands = ap (λ (k : ℕ). drop k cells) p ∙ ap (drop (length front)) whole
            ∙ drop-append_seam front (stored_slot c.0 ++ (rest ++ drop r.slots cells));
        next = omega (arith, n, p);
        within = omega (arith, p, q, t, u, v);
      }

  pub here_label : Steady f → (h : Here) → is_label h.slot.text ≡ true
  here_label k h = label_at f.cells (length f.judged.fields) h.slot k.small.texts h.is_at

  pub here_shown : (h : Here) (x : Form) → shows h.slot x ≡ shows_cell f.cells (faces f.judged.fields) x
  here_shown h x =
      sym (ap (λ (i : ℕ). shown_by (get_elem? f.cells i) x) (length-map f.judged.fields face)
      ∙ ap (λ (o : Option Slot). shown_by o x) h.is_at)
