-- A cut never changes what the remaining fields mean. [02, R-4]
use mathlib.Core.Path.{◌≡◌, refl, ap, sym, ◌∙◌}
use mathlib.Core.Bool.{Bool, true, false, ◌||◌, not}
use mathlib.Core.Logic.{◌⊎◌, inl, inr}
use mathlib.Core.List.{List, [], ◌∷◌, ◌++◌, map, map-append, append_assoc}
use mathlib.Core.Option.{none}
use Prim.Native.Nat.{ℕ, suc, ◌+◌, ◌-◌, ◌≤◌, ◌<◌}
use native.Mathlib.Omega.{arith}
use lib.Dec.{leb, ltb}
use lib.ListN.{length, take, drop, get_or, length-append, length-map, length-drop}
use lib.Seq.{take-append-le, drop-append-le, take-append-add, take_at, drop_at, get_or_at, length-take-le}
use borrow.Author.Tests.{leb-true}
use Rattle.base.specs.Lists.{between, sum}
use Rattle.base.proofs.Breaks.{and_true}
use Rattle.base.proofs.Lookups.{kept_at, element_parts}
use Rattle.rules.specs.Fields.{Field, Description, fixed_bits}
use Rattle.rules.specs.Edits.{renumbered, closed, run_length, remaining, cut, reads_run, first_reader}
use Rattle.rules.specs.Reading.{Entry, absent, step, complete, read_field, reading}
use Rattle.rules.specs.Cover.{entries_in}
use Rattle.rules.specs.Stored.{stored, Good}
use Rattle.rules.specs.Promises.{is_run}
use Rattle.rules.specs.EditResults.{spread, width_of, ReadsOutside, CutReads}
use Rattle.laws.proofs.Delivered.{written_at_start}
use Rattle.laws.proofs.EditsDone.{cut_done}
use Rattle.laws.proofs.RunCover.{read_to_run}
use Rattle.laws.proofs.Renumbering.{closed_low, closed_high}
use Rattle.laws.proofs.RenumberedReads.{fixed_sum, field_alike}
use Rattle.laws.proofs.ReadSteps.{width_one, ReadTo, field_read}
use Rattle.laws.proofs.SpreadLaws.{outside, spread_append, spread_front, spread_length, spread_width}
use Rattle.laws.proofs.SpreadLaws.{alike_front, alike_spread}

-- ── a list parted at an element ──

module _ {A : Type 0} (l b a : List A) (x : A) (i : ℕ) (whole : l ≡ b ++ (x ∷ a)) (size : length b ≡ i) where
  with_one : length (b ++ (x ∷ [])) ≡ suc i
  with_one = omega (arith, length-append b (x ∷ []), size)

  regrouped : l ≡ (b ++ (x ∷ [])) ++ a
  regrouped = whole ∙ sym (append_assoc b (x ∷ []) a)

  take_to : take (suc i) l ≡ b ++ (x ∷ [])
  take_to = rw regrouped (take_at (b ++ (x ∷ [])) a (suc i) with_one)

  drop_past : drop (suc i) l ≡ a
  drop_past = rw regrouped (drop_at (b ++ (x ∷ [])) a (suc i) with_one)

-- ── one field ──

-- a field outside a run in what remains without it
record Remains (first last i : ℕ) (fs : List (Field ℕ)) (f : Field ℕ) : Type 0 where
  before : List (Field ℕ)
  after : List (Field ℕ)
  whole : remaining first last fs ≡ before ++ (f ∷ after)
  size : length before ≡ closed first (run_length first last) i

module _ (first last : ℕ) (run : first ≤ last) (b a : List (Field ℕ)) (f : Field ℕ) (i : ℕ) (size : length b ≡ i) where
  remains_low : i < first → Remains first last i (b ++ (f ∷ a)) f
  remains_low low =
      let k = first - suc i in
      let behind = drop (suc last) (b ++ (f ∷ a)) in
      let s : first ≡ length b + suc k = omega (arith, size) in
      let front : take first (b ++ (f ∷ a)) ≡ b ++ (f ∷ take k a)
      = ap (λ (m : ℕ). take m (b ++ (f ∷ a))) s ∙ take-append-add b (f ∷ a) (suc k) in
      record {
        before = b;
        after = take k a ++ behind;
        whole = ap (λ (l : List (Field ℕ)). l ++ behind) front ∙ append_assoc b (f ∷ take k a) behind;
        size = size ∙ sym (closed_low first (run_length first last) i low);
      }

  remains_high : last < i → Remains first last i (b ++ (f ∷ a)) f
  remains_high high =
      let n = run_length first last in
      let p : first ≤ length b = omega (arith, size) in
      let q : suc last ≤ length b = omega (arith, size) in
      let above : first ≤ i = omega arith in
      record {
        before = remaining first last b;
        after = a;
        whole = rw (take-append-le first b (f ∷ a) p, drop-append-le (suc last) b (f ∷ a) q)
            (sym (append_assoc (take first b) (drop (suc last) b) (f ∷ a)));
        size = rw (closed_high first n i above) (omega (
          arith,
          size,
          length-append (take first b) (drop (suc last) b),
          length-take-le first b p,
          length-drop (suc last) b,
        ));
      }

  remains : between first i last ≡ false → Remains first last i (b ++ (f ∷ a)) f
  remains out = go (outside first i last out)
    where
      go : (i < first) ⊎ (last < i) → Remains first last i (b ++ (f ∷ a)) f
      go (inl low) = remains_low low
      go (inr high) = remains_high high

-- a field outside the run reads none of it
unread : (first last : ℕ) (b a : List (Field ℕ)) (f : Field ℕ) (i : ℕ) → length b ≡ i
    → first_reader first last (b ++ (f ∷ a)) ≡ none → between first i last ≡ false → reads_run first last f ≡ false
unfolding first_reader
unread first last b a f i size h out = go (reads_run first last f) (rw (size, out) at
    (kept_at (λ before x. between first (length before) last || not (reads_run first last x)) b f a h))
  where
    go : (x : Bool) → not x ≡ true → x ≡ false
    go true e = cc
    go false e = refl

-- what was read from behind some entries was read from behind the entries before its index
read_at : (packet : List ℕ) (all es more : List Entry) (e : Entry) (i later : ℕ) (f : Field ℕ)
    → all ≡ es ++ (e ∷ more) → length es ≡ i
    → read_field packet es (width_of es) later f ≡ step e (width_of es + e.width)
    → read_field packet (take i all) (width_of (take i all)) later f
    ≡ step (get_or all i absent) (width_of (take (suc i) all))
read_at packet all es more e i later f whole size reads =
    rw (
      take_to all es more e i whole size,
      whole,
      take_at es (e ∷ more) i size,
      get_or_at es e more absent i size,
      width_one es e,
    )
    reads

-- a field that reads none of the run
module _ (first last : ℕ) (run : first ≤ last) (packet : List ℕ) (f : Field ℕ)
    (away : reads_run first last f ≡ false) where
  abbrev size : ℕ
  size = run_length first last

  -- the field reads to the entry of its index, once the entries are spread
  abbrev ReadsBy : List Entry → ℕ → ℕ → Type 0
  ReadsBy all i later = read_field packet (take i all) (width_of (take i all)) later f
      ≡ step (get_or all i absent) (width_of (take (suc i) all))

  abbrev Read : List Entry → ℕ → ℕ → Type 0
  Read entries i later = ReadTo packet entries (closed first size i) later (renumbered (closed first size) f)

  read_low : (entries : List Entry) (i later : ℕ) → i < first → Read entries i later
      → ReadsBy (spread first size entries) i later
  read_low entries i later low r =
      let es = r.before in
      let same : length es ≡ i = r.size ∙ closed_low first size i low in
      let few : length es < first = omega (arith, same) in
      let most : length es ≤ first = omega arith in
      let s = spread_front first size es r.entry r.more few in
      read_at packet (spread first size entries) es s.0 r.entry i later f
      (ap (spread first size) r.whole ∙ s.1) same
      (sym (field_alike (closed first size) (λ j. between first j last) es es (alike_front first last run es most)
      (λ own. alike_front first last run (es ++ (own ∷ [])) (omega (arith, few, length-append es (own ∷ []))))
      packet (width_of es) later f away)
      ∙ r.reads)

  read_high : (entries : List Entry) (i later : ℕ) → last < i → Read entries i later
      → ReadsBy (spread first size entries) i later
  read_high entries i later high r =
      let es = r.before in
      let old = spread first size es in
      let above : first ≤ i = omega arith in
      let new : length es ≡ i - size = r.size ∙ closed_high first size i above in
      let many : first ≤ length es = omega (arith, new) in
      let same : length old ≡ i = spread_length first size es many ∙ omega (arith, new) in
      let wide = spread_width first size es in
      read_at packet (spread first size entries) old r.more r.entry i later f
      (ap (spread first size) r.whole ∙ spread_append first size es (r.entry ∷ r.more) many) same
      (rw wide (sym (field_alike (closed first size) (λ j. between first j last) es old
      (alike_spread first last run es many)
      (λ own. rw (← spread_append first size es (own ∷ []) many) (alike_spread first last run (es ++ (own ∷ []))
      (omega (arith, many, length-append es (own ∷ [])))))
      packet (width_of es) later f away)
      ∙ r.reads))

  read_outside : (entries : List Entry) (i later : ℕ) → between first i last ≡ false → Read entries i later
      → ReadsBy (spread first size entries) i later
  read_outside entries i later out r = go (outside first i last out)
    where
      go : (i < first) ⊎ (last < i) → ReadsBy (spread first size entries) i later
      go (inl low) = read_low entries i later low r
      go (inr high) = read_high entries i later high r

-- ── all remaining fields ──

-- a packet that is accepted without the run reads as the definitions with the run say
pub cut_reading : (d : Description) (first last : ℕ) → is_run first last d.fields ≡ true
    → first_reader first last d.fields ≡ none → (packet : List ℕ) (entries : List Entry)
    → reading (cut first last d) packet ≡ complete entries
    → ReadsOutside first last d packet (spread first (run_length first last) entries)
unfolding cut
cut_reading d first last is none_reads packet entries h i f e out =
    let n = run_length first last in
    let g = closed first n in
    let run = leb-true first last (and_true (leb first last) (ltb last (length d.fields)) is).0 in
    let p = element_parts d.fields i f e in
    let b = p.0 in
    let a = p.1 in
    let away = unread first last b a f i p.3 (rw p.2 at none_reads) out in
    let m : Remains first last i d.fields f = rw p.2 (remains first last run b a f i p.3 out) in
    let fields : map (renumbered g) (remaining first last d.fields)
    ≡ map (renumbered g) m.before ++ (renumbered g f ∷ map (renumbered g) m.after)
    = ap (map (renumbered g)) m.whole ∙ map-append (renumbered g) m.before (f ∷ m.after) in
    let r = field_read (cut first last d) packet entries (map (renumbered g) m.before) (renumbered g f)
    (map (renumbered g) m.after) fields h in
    let r₁ = rw (fixed_sum g m.after, length-map m.before (renumbered g), m.size) at r in
    rw (drop_past (remaining first last d.fields) m.before m.after f (g i) m.whole m.size)
    (read_outside first last run packet f away entries i (sum fixed_bits m.after) out r₁)

-- ── by a table that was cut ──

pub cut_reads : CutReads
cut_reads table out after first last n h =
    let w = cut_done table out after first last n h in
    let d = w.good.description in
    let c = cut first last d in
    let bytes = (written_at_start (stored c) out after n w.written).2 in
    let new : Good (take n after) = record { description = c; within = w.within; is_stored = sym bytes } in (
      w.good,
      λ packet lent numbers total r. cut_reading d first last w.whole w.unread packet
          (entries_in (length c.fields) numbers)
          (read_to_run c packet lent numbers total (r (yes new))).1,
    )
