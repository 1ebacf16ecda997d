-- From the steps of putting fields in to its promise.
use mathlib.Core.Path.{◌≡◌, refl, sym, subst, ap, ◌∙◌}
use mathlib.Core.Bool.{Bool, true, false, cond, ◌||◌}
use mathlib.Core.List.{List, [], ◌∷◌}
use Prim.Native.Nat.{ℕ, ◌+◌, ◌-◌, ◌<◌, ◌≤◌}
use native.Mathlib.Omega.{arith}
use lib.Dec.{ltb}
use lib.ListN.{length}
use borrow.Author.Tests.{lt-ltb, le-ltb}
use Rattle.base.specs.Lists.{is_empty}
use Rattle.laws.specs.Places.{two_at}
use Rattle.laws.proofs.PutCandidate.{candidate, joins_whole, whole_count, joins_few, joins_candidate, put_judged}
use Rattle.std.specs.Prelude.{Err}
use Rattle.rules.specs.declared.EditRefusal.{EditRefusal}
use Rattle.rules.specs.Limits.{fields_most}
use Rattle.rules.specs.Fields.{Field, Description}
use Rattle.rules.specs.References.{readers}
use Rattle.rules.specs.Edits.{put}
use Rattle.rules.specs.Stored.{stored, Good}
use Rattle.rules.specs.Answers.{refused, of_edit}
use Rattle.rules.specs.Promises.{Outcome, leaves, delivered, Joins, by_records, put_outcome, PutsFields}
use Rattle.laws.proofs.Joining.{joins_fields}
use Rattle.std.specs.Prelude.{Option, Some, None}
use Rattle.packets.specs.Parts.{table_most}
use Rattle.packets.specs.EditSteps.{Judged, right, wrong, CountsTo, MayPut}
use Rattle.packets.proofs.TableHead.{head_count, count_most}
use Rattle.packets.proofs.TableParts.{stored_length_lem, table_length}
use Rattle.packets.proofs.CutPromises.{one_description}
use Rattle.packets.proofs.PutBytes.{candidate_length}

pub good_short : (table : List ℕ) → Good table → length table ≤ table_most
good_short table g = stored_length_lem g.description g.within table g.is_stored

module _ (table bytes out : List ℕ) (at : ℕ) where
  abbrev Puts : Outcome → Type 0
  Puts o = PutsFields table at bytes out o

  pub put_bad : (Good table → ⊥) → Puts (leaves (of_edit (Err EditRefusal.NotGood)) out)
  unfolding of_edit
  put_bad bad (yes g) joins = absurd (bad g)
  put_bad bad (no b) joins = refl

  module _ (good : Good table) where
    abbrev d : Description
    d = good.description

    by_good : (o : Outcome)
        → ((joins : (e : Description) → Dec (Joins at bytes e)) → o ≡ put_outcome at bytes d (joins d) out) → Puts o
    by_good o h (yes g) joins =
        h joins ∙ ap (λ (e : Description). put_outcome at bytes e (joins e) out) (one_description table good g)
    by_good o h (no bad) joins = absurd (bad good)

    pub put_none : length bytes ≡ 0 → Puts (leaves (of_edit (Err EditRefusal.NoFields)) out)
    unfolding of_edit put_outcome
    put_none e = by_good _ (λ joins. rw (go bytes e) refl)
      where
        go : (l : List ℕ) → length l ≡ 0 → is_empty l ≡ true
        go [] z = refl
        go (b ∷ l) z = absurd (omega (arith, z))

    pub put_beyond : two_at table 6 < at → Puts (leaves (of_edit (Err EditRefusal.NoFields)) out)
    unfolding of_edit put_outcome
    put_beyond lt =
        let c = head_count d table good.is_stored good.within in
        by_good _ (λ joins. rw (lt-ltb (length d.fields) at (omega (arith, c, lt))) (go (is_empty bytes) joins))
      where
        go : (b : Bool) (joins : (e : Description) → Dec (Joins at bytes e))
            → leaves (refused 30 0) out ≡ cond (b || true) (leaves (refused 30 0) out) (by_records (joins d) out)
        go true joins = refl
        go false joins = refl

    -- there are bytes, and a place for them
    module _ (given : is_empty bytes ≡ false) (inside : at ≤ length d.fields) where
      placed_at : (is_empty bytes || ltb (length d.fields) at) ≡ false
      placed_at = rw (given, le-ltb (length d.fields) at inside) refl

      put_not : (Joins at bytes d → ⊥) → Puts (leaves (refused 34 0) out)
      unfolding put_outcome
      put_not none_do = by_good _ (λ joins. rw placed_at (go (joins d)))
        where
          go : (x : Dec (Joins at bytes d)) → leaves (refused 34 0) out ≡ by_records x out
          go (yes j) = absurd (none_do j)
          go (no n) = refl

      put_right : (j : Joins at bytes d) → Puts (delivered (stored (put at j.fields d)) out)
      unfolding put_outcome
      put_right j = by_good _ (λ joins. rw placed_at (go (joins d)))
        where
          go : (x : Dec (Joins at bytes d)) → delivered (stored (put at j.fields d)) out ≡ by_records x out
          go (yes i) =
              ap (λ (l : List (Field ℕ)). delivered (stored (put at l d)) out) (joins_fields at bytes d j i)
          go (no n) = absurd (n j)

    module _ (some_bytes : length bytes ≡ 0 → ⊥) (at_most : at ≤ two_at table 6) where
      given : is_empty bytes ≡ false
      given = go bytes some_bytes
        where
          go : (l : List ℕ) → (length l ≡ 0 → ⊥) → is_empty l ≡ false
          go [] n = absurd (n refl)
          go (b ∷ l) n = refl

      inside : at ≤ length d.fields
      inside = omega (arith, at_most, head_count d table good.is_stored good.within)

      -- what joins is no longer than a table may be
      short : Joins at bytes d → length table + length bytes ≤ table_most
      short j =
          let n = readers d.fields in
          let q = joins_candidate at (length j.fields) n bytes d j refl in
          omega (
            arith,
            candidate_length table good at (length j.fields) bytes inside,
            ap length q.1,
            table_length q.0 (put at j.fields d) j.within,
          )

      pub put_long : table_most - length table < length bytes
          → Puts (leaves (of_edit (Err EditRefusal.BeyondLimits)) out)
      unfolding of_edit
      put_long lt =
          put_not given inside
          (λ j. let le = short j in
          omega (arith, le, lt, good_short table good))

      module _ (most : ℕ) (limit : most ≡ fields_most - two_at table 6) where
        pub put_uncounted : (r : Option ℕ) → CountsTo bytes most r → r ≡ None
            → Puts (leaves (of_edit (Err EditRefusal.BeyondLimits)) out)
        unfolding of_edit
        put_uncounted r h e =
            let none_do : CountsTo bytes most None = rw e at h in
            let c = head_count d table good.is_stored good.within in
            put_not given inside
            (λ j. none_do (length j.fields)
            (omega (arith, joins_few at bytes d j, limit, c)) (joins_whole at bytes d j))

        pub may_put : (r : Option ℕ) (k : ℕ) → CountsTo bytes most r → r ≡ Some k
            → length bytes ≤ table_most - length table → MayPut table at k bytes
        may_put r k h e fits =
            let q : CountsTo bytes most (Some k) = rw e at h in
            let c = head_count d table good.is_stored good.within in
            let l = good_short table good in
            let few = count_most d good.within in record {
              good = good;
              inside = inside;
              given = given;
              records = q.0;
              few = omega (arith, q.1, limit, c, few);
              short = omega (arith, fits, l);
            }

  -- what was built of records with a place for them was judged
  pub judged_put : (k : ℕ) (may : MayPut table at k bytes) (built : List ℕ)
      → candidate at k (readers may.good.description.fields) bytes may.good.description ≡ built → (o : Outcome)
      → Judged built out o → Puts o
  judged_put k may built is o (right other c within same) =
      let d = may.good.description in
      let n = readers d.fields in
      let j = put_judged at k n bytes d may.good.within (omega (arith, may.few)) may.records other c within
      (same ∙ sym is) in
      subst Puts (ap (λ (x : Description). delivered (stored x) out) j.1)
      (put_right may.good may.given may.inside j.0)
  judged_put k may built is o (wrong none_is) =
      let d = may.good.description in
      let n = readers d.fields in
      put_not may.good may.given may.inside
      (λ j. let q = joins_candidate at k n bytes d j (whole_count at bytes d k may.records j) in
      none_is q.0 (put at j.fields d) j.within (sym q.1 ∙ is))
