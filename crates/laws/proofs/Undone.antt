-- Cutting what was just put in gives the old bytes back, and so does putting back what was cut. [02, R-4]
use mathlib.Core.Path.{◌≡◌, refl, ap, sym, subst, ◌∙◌}
use mathlib.Core.Bool.{true, false}
use mathlib.Core.List.{List, [], ◌∷◌}
use mathlib.Core.Option.{none}
use Prim.Native.Nat.{ℕ, suc, ◌+◌, ◌-◌, ◌≤◌, ◌<◌}
use native.Mathlib.Omega.{arith}
use lib.ListN.{length, length-append, length-map, length-drop, take, drop}
use lib.Seq.{length-take-le}
use borrow.Author.Tests.{le-leb, lt-ltb, le-ltb}
use Rattle.base.specs.Lists.{is_empty}
use Rattle.rules.specs.Trees.{le2}
use Rattle.rules.specs.Fields.{Field, Description}
use Rattle.rules.specs.Within.{Within}
use Rattle.rules.specs.Stored.{stored_field_in, records_in, records, stored, Good}
use Rattle.rules.specs.Edits.{renumbered, closed, run_length, run, remaining, cut, put, first_reader}
use Rattle.rules.specs.Promises.{delivered, by_table, is_run, by_limits, cut_outcome, Joins, put_outcome}
use Rattle.rules.specs.EditResults.{CutUndoesPut, PutUndoesCut}
use Rattle.laws.proofs.Delivered.{written_at_start}
use Rattle.laws.proofs.CutPut.{run_bounds, cut_put, put_unread, put_length, put_cut}
use Rattle.laws.proofs.EditsDone.{cut_done, put_done}
use Rattle.laws.proofs.EditsSettled.{by_table_lem, by_limits_lem, by_records_lem}

-- what the table of a description gives, whatever the decision
by_stored : {A : Type 0} (d : Description) → Within d → (table : List ℕ) → table ≡ stored d → (f : Description → A)
    (x : A) (good : Dec (Good table)) → by_table good f x ≡ f d
by_stored d w table e f x good =
    by_table_lem table f f x (λ c. refl) good (yes (record { description = d; within = w; is_stored = sym e }))

-- ── cutting what was put in ──

-- bytes that are not none are the records of some fields
some_fields : (numbers : ℕ → ℕ) (gs : List (Field ℕ)) → is_empty (records numbers 0 gs) ≡ false → 0 < length gs
unfolding records_in
some_fields numbers [] h = absurd (let z : ◌≡◌ {A = ℕ} 0 1 = cc in omega arith)
some_fields numbers (g ∷ gs) h = omega arith

module _ (at last : ℕ) (gs : List (Field ℕ)) (d : Description)
    (end : suc last ≡ at + length gs) (more : 0 < length gs) (inside : at ≤ length d.fields) where
  is_run_lem : is_run at last (put at gs d).fields ≡ true
  is_run_lem =
      let a : at ≤ last = omega (arith, end) in
      let b : last < length (put at gs d).fields = omega (arith, end, put_length at gs d) in
      rw (le-leb at last a, lt-ltb last (length (put at gs d).fields) b)

  cut_again : Within d → (fits : (e : Description) → Dec (Within e)) (out : List ℕ)
      → cut_outcome at last (put at gs d) (fits (cut at last (put at gs d))) out ≡ delivered (stored d) out
  unfolding cut_outcome
  cut_again w fits out =
      rw (is_run_lem, put_unread at last gs d end inside)
      (subst (λ (e : Description). by_limits (fits e) out ≡ delivered (stored d) out)
      (sym (cut_put at last gs d end inside)) (by_limits_lem d out (fits d) (yes w)))

pub cut_undoes_put : CutUndoesPut
cut_undoes_put table bytes out after at n p =
    let c = put_done table bytes out after at n p in
    let d = c.good.description in
    let gs = c.joins.fields in
    let more : 0 < length gs = some_fields c.joins.numbers gs (rw c.joins.are_stored c.given) in
    let last : ℕ = at + length gs - 1 in
    let end : suc last ≡ at + length gs = omega (arith, more) in
    let new = (written_at_start (stored (put at gs d)) out after n c.written).2 in (
      c.good,
      c.joins,
      last,
      end,
      λ room good fits. sym
          (by_stored (put at gs d) c.joins.within (take n after) new
          (λ e. cut_outcome at last e (fits (cut at last e)) room) _ good
          ∙ cut_again at last gs d end more c.inside c.good.within fits room
          ∙ ap (λ (l : List ℕ). delivered l room) c.good.is_stored),
    )

-- ── putting in what was cut ──

-- some fields have records that are not none
some_records : (numbers : ℕ → ℕ) (gs : List (Field ℕ)) → 0 < length gs → is_empty (records numbers 0 gs) ≡ false
unfolding records_in stored_field_in le2
some_records numbers [] h = absurd (omega arith)
some_records numbers (g ∷ gs) h = refl

module _ (first last : ℕ) (d : Description) (whole : is_run first last d.fields ≡ true)
    (unread : first_reader first last d.fields ≡ none) (within : Within d) (numbers : ℕ → ℕ) where
  abbrev gone : List (Field ℕ)
  gone = run first last d.fields

  low : first ≤ last
  low = (run_bounds first last d.fields whole).0

  high : last < length d.fields
  high = (run_bounds first last d.fields whole).1

  back : put first gone (cut first last d) ≡ d
  back = put_cut first last d low high unread

  abbrev joins_back : Joins first (records numbers 0 gone) (cut first last d)
  joins_back =
      record { fields = gone; numbers = numbers; are_stored = refl; within = subst Within (sym back) within }

  some_gone : 0 < length gone
  some_gone =
      let after : List (Field ℕ) = drop first d.fields in
      let fits : run_length first last ≤ length after =
      rw (length-drop first d.fields) (omega (arith, low, high)) in
      omega (arith, low, length-take-le (run_length first last) after fits)

  place_there : first ≤ length (cut first last d).fields
  unfolding cut
  place_there =
      let l : first ≤ length d.fields = omega (arith, low, high) in
      omega (
        arith,
        length-map (remaining first last d.fields) (renumbered (closed first (run_length first last))),
        length-append (take first d.fields) (drop (suc last) d.fields),
        length-take-le first d.fields l,
      )

  put_again : (joins : Dec (Joins first (records numbers 0 gone) (cut first last d))) (out : List ℕ)
      → put_outcome first (records numbers 0 gone) (cut first last d) joins out ≡ delivered (stored d) out
  unfolding put_outcome
  put_again joins out =
      rw (
        some_records numbers gone some_gone,
        le-ltb (length (cut first last d).fields) first place_there,
      ) (by_records_lem first (records numbers 0 gone) (cut first last d) out joins (yes joins_back)
      ∙ ap (λ (e : Description). delivered (stored e) out) back)

pub put_undoes_cut : PutUndoesCut
put_undoes_cut table out after first last n p =
    let c = cut_done table out after first last n p in
    let d = c.good.description in
    let new = (written_at_start (stored (cut first last d)) out after n c.written).2 in (
      c.good,
      λ numbers room good joins. sym
          (by_stored (cut first last d) c.within (take n after) new
          (λ e. put_outcome first (records numbers 0 (run first last d.fields)) e (joins e) room) _ good
          ∙ put_again first last d c.whole c.unread c.good.within numbers (joins (cut first last d)) room
          ∙ ap (λ (l : List ℕ). delivered l room) c.good.is_stored),
    )
