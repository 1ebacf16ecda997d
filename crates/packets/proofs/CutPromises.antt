-- From the steps of cutting fields out to its promise.
use mathlib.Core.Path.{◌≡◌, refl, sym, ap, subst, ◌∙◌}
use mathlib.Core.Bool.{Bool, true, false, cond, ◌||◌, not}
use mathlib.Core.List.{List, [], ◌∷◌, ◌++◌}
use mathlib.Core.Option.{Option, none, some, none-ne-some, some-injective}
use Prim.Native.Nat.{ℕ, ◌+◌, ◌<◌, ◌≤◌}
use native.Mathlib.Omega.{arith}
use native.Mathlib.Nat.{zero-add}
use native.Mathlib.Numerals.{add-one}
use lib.ListN.{length, length-append}
use borrow.Author.Tests.{le-leb, lt-leb, lt-ltb, le-ltb}
use Rattle.base.specs.Lists.{between, first_break}
use Rattle.laws.specs.Places.{two_at}
use Rattle.laws.proofs.Unique.{stored_unique}
use Rattle.laws.proofs.CutCandidate.{cut_judged}
use Rattle.std.specs.Prelude.{Err}
use Rattle.rules.specs.declared.EditRefusal.{EditRefusal}
use Rattle.rules.specs.Editions.{current}
use Rattle.rules.specs.Fields.{Field, Description, trees}
use Rattle.rules.specs.References.{tree_reads, field_reads, readers}
use Rattle.rules.specs.Edits.{cut, reads_run, first_reader}
use Rattle.rules.specs.Within.{Within}
use Rattle.rules.specs.Stored.{record_of, stored_with, stored, Good}
use Rattle.rules.specs.Answers.{refused, of_edit}
use Rattle.rules.specs.Promises.{Outcome, leaves, delivered, is_run, by_limits, cut_outcome, CutsFields}
use Rattle.references.specs.declared.scans.Wanted.TheVariants.{Run}
use Rattle.references.proofs.ScanLaws.{any_joined}
use Rattle.packets.specs.Expressions.{having_from}
use Rattle.packets.specs.EditSteps.{Judged, right, wrong, MayCut}
use Rattle.packets.proofs.TableHead.{head_count, fields_stand}
use Rattle.packets.proofs.TableParts.{stored_length_lem}
use Rattle.packets.proofs.HavingLaws.{or_end, lacks, having_stored}

-- good tables of the same bytes have one description
pub one_description : (table : List ℕ) (g h : Good table) → g.description ≡ h.description
one_description table g h =
    stored_unique current g.description h.description g.within h.within (g.is_stored ∙ sym h.is_stored)

-- ── the first reader ──

-- rules that say the same are broken at the same place
breaks_alike : (p q : List (Field ℕ) → Field ℕ → Bool) → ((b : List (Field ℕ)) (x : Field ℕ) → p b x ≡ q b x)
    → (before l : List (Field ℕ)) → first_break p before l ≡ first_break q before l
unfolding first_break
breaks_alike p q h before [] = refl
breaks_alike p q h before (x ∷ l) = rw (h before x, breaks_alike p q h (before ++ (x ∷ [])) l)

-- and within the list
pub break_inside : (p : List (Field ℕ) → Field ℕ → Bool) (before l : List (Field ℕ)) (n : ℕ)
    → length before + length l ≤ n → (i : ℕ) → first_break p before l ≡ some i → i < n
unfolding first_break
break_inside p before [] n le i h = absurd (none-ne-some _ h)
break_inside p before (x ∷ l) n le i h =
    let more = length-append before (x ∷ []) in
    go (p before x) h (break_inside p (before ++ (x ∷ [])) l n (omega (arith, more, le)) i)
  where
    go : (b : Bool) → cond b (first_break p (before ++ (x ∷ [])) l) (some (length before)) ≡ some i
        → (first_break p (before ++ (x ∷ [])) l ≡ some i → i < n) → i < n
    go true e rec = rec e
    go false e rec = let z : length before ≡ i = some-injective _ _ e in omega (arith, z, le)

module _ (table : List ℕ) (good : Good table) (first last : ℕ) where
  abbrev fs : List (Field ℕ)
  fs = good.description.fields

  -- what is found in the table is the description's first reader
  reader_is : having_from (Run first last) table 0 (two_at table 6) (two_at table 0)
      ≡ or_end (length fs) (first_reader first last fs)
  unfolding first_reader field_reads
  reader_is =
      let d = good.description in
      let w = good.within in
      let is = good.is_stored in
      let z = zero-add (length fs) in
      let alike = breaks_alike (lacks (Run first last))
      (λ before f. between first (length before) last || not (reads_run first last f))
      (λ b f. ap (λ (x : Bool). between first (length b) last || not x)
      (any_joined (λ i. between first i last) tree_reads (trees f))) [] fs in
      rw (head_count d table is w)
      (rw z at (having_stored (Run first last) (readers fs) 0 table [] fs (two_at table 0) (length table)
      (record_of 5 [])
      w.form w.size (stored_length_lem d w table is) (fields_stand d table is w))
      ∙ ap (or_end (length fs)) alike)

  some_reader : (o : Option ℕ) → first_reader first last fs ≡ o → (r : ℕ) → r ≡ or_end (length fs) o → r < length fs
      → first_reader first last fs ≡ some r
  some_reader none h r e lt = absurd (omega (arith, e, lt))
  some_reader (some i) h r e lt = h ∙ ap some (sym e)

  no_reader : (o : Option ℕ) → first_reader first last fs ≡ o → (r : ℕ) → r ≡ or_end (length fs) o → length fs ≤ r
      → first_reader first last fs ≡ none
  unfolding first_reader
  no_reader none h r e le = h
  no_reader (some i) h r e le =
      absurd (let lt = break_inside _ [] fs (length fs) (omega arith) i h in omega (arith, lt, e, le))

-- ── the outcome ──

module _ (table out : List ℕ) (first last : ℕ) where
  abbrev Cuts : Outcome → Type 0
  Cuts o = CutsFields table first last out o

  pub cut_bad : (Good table → ⊥) → Cuts (leaves (of_edit (Err EditRefusal.NotGood)) out)
  unfolding of_edit
  cut_bad bad (yes g) fits = absurd (bad g)
  cut_bad bad (no b) fits = refl

  module _ (good : Good table) where
    abbrev d : Description
    d = good.description

    by_good : (o : Outcome)
        → ((fits : (e : Description) → Dec (Within e)) → o ≡ cut_outcome first last d (fits (cut first last d)) out)
        → Cuts o
    by_good o h (yes g) fits =
        h fits
        ∙ ap (λ (e : Description). cut_outcome first last e (fits (cut first last e)) out)
        (one_description table good g)
    by_good o h (no bad) fits = absurd (bad good)

    pub cut_empty : last < first → Cuts (leaves (of_edit (Err EditRefusal.NoFields)) out)
    unfolding of_edit cut_outcome
    cut_empty lt = by_good _ (λ fits. rw (lt-leb first last lt) refl)

    pub cut_beyond : first ≤ last → two_at table 6 ≤ last → Cuts (leaves (of_edit (Err EditRefusal.NoFields)) out)
    unfolding of_edit cut_outcome
    cut_beyond low le =
        let c = head_count d table good.is_stored good.within in
        by_good _ (λ fits. rw (le-leb first last low, le-ltb last (length d.fields) (omega (arith, c, le))) refl)

    module _ (low : first ≤ last) (high : last < two_at table 6) where
      in_run : is_run first last d.fields ≡ true
      in_run =
          let c = head_count d table good.is_stored good.within in
          rw (le-leb first last low, lt-ltb last (length d.fields) (omega (arith, c, high))) refl

      module _ (r : ℕ) (found : r ≡ having_from (Run first last) table 0 (two_at table 6) (two_at table 0)) where
        pub cut_read : r < two_at table 6 → Cuts (leaves (of_edit (Err (EditRefusal.StillRead (r + 1)))) out)
        unfolding of_edit cut_outcome
        cut_read lt =
            let c = head_count d table good.is_stored good.within in
            let e = some_reader table good first last (first_reader first last d.fields) refl r
            (found ∙ reader_is table good first last) (omega (arith, c, lt)) in
            by_good _ (λ fits. rw (in_run, e, add-one r) refl)

        pub may_cut : two_at table 6 ≤ r → MayCut table first last
        may_cut le =
            let c = head_count d table good.is_stored good.within in record {
              good = good;
              run = in_run;
              unread = no_reader table good first last (first_reader first last d.fields) refl r
                  (found ∙ reader_is table good first last) (omega (arith, c, le));
            }

  -- what was built for a run that may be cut was judged
  module _ (may : MayCut table first last) (numbers : ℕ → ℕ) where
    abbrev result : Description
    result = cut first last may.good.description

    pub judged_cut : (bytes : List ℕ) → stored_with current numbers result ≡ bytes → (o : Outcome) → Judged bytes out o
        → Cuts o
    unfolding cut_outcome
    judged_cut bytes is o (right other c within same) =
        let e = cut_judged first last may.good.description may.good.within numbers other c within
        (same ∙ sym is) in
        by_good may.good _ (λ fits. rw (may.run, may.unread) (go e (fits result)))
      where
        go : c ≡ result → (x : Dec (Within result)) → delivered (stored c) out ≡ by_limits x out
        go e (yes v) = ap (λ (x : Description). delivered (stored x) out) e
        go e (no beyond) = absurd (beyond (subst Within e within))
    judged_cut bytes is o (wrong none_is) =
        by_good may.good _ (λ fits. rw (may.run, may.unread) (go (fits result)))
      where
        go : (x : Dec (Within result)) → leaves (refused 34 0) out ≡ by_limits x out
        go (yes v) = absurd (none_is numbers result v is)
        go (no beyond) = refl
