-- A field's part by its numbers is the part that the reading says, and lies within the packet.
use mathlib.Core.Path.{◌≡◌, refl, ap}
use mathlib.Core.Bool.{Bool, true, false, cond, ◌&&◌}
use mathlib.Core.Logic.{inl, inr}
use mathlib.Core.List.{List, [], ◌∷◌}
use Prim.Native.Nat.{ℕ, zero, suc, ◌+◌, ◌*◌, ◌/◌, ◌%◌, ◌<◌, ◌≤◌}
use native.Mathlib.Omega.{arith}
use lib.Dec.{eqb}
use lib.ListN.{length, get_or, get_or-eq_default}
use Rattle.laws.specs.Places.{two_at}
use Rattle.std.specs.Prelude.{is_ok}
use Rattle.rules.specs.Stored.{Good}
use Rattle.rules.specs.Reading.{Entry, absent, Reading, complete, refusing, reading, bit_total}
use Rattle.rules.specs.Reading.{Part, no_part, is_whole, entry_part, part_in}
use Rattle.rules.specs.Cover.{InOrder}
use Rattle.rules.specs.Promises.{part_by}
use Rattle.rules.specs.Answers.{PacketAnswer}
use Rattle.laws.proofs.Readings.{reading_told}
use Rattle.laws.proofs.Cover.{cover_in_order}
use Rattle.writing.specs.declared.spans.Span.{Span}
use Rattle.packets.specs.Parts.{span_of, ending}
use Rattle.packets.specs.FieldParts.{part_at, OnPacket}
use Rattle.packets.specs.RunRead.{ReadsRun}
use Rattle.packets.proofs.RunEntries.{Begins, run_present, run_number}
use Rattle.packets.proofs.LookupPromises.{none_on}
use Rattle.packets.proofs.PacketPromises.{
  good_count,
  entries_count,
  accepted_complete,
  refused_open,
}

-- ── entries lie within the packet ──

order_end : (es : List Entry) (place end : ℕ) → InOrder place es end → place ≤ end
order_end [] place end p = omega (arith, p)
order_end (e ∷ es) place end (inl p) = order_end es place end p.1
order_end (e ∷ es) place end (inr p) = let q = order_end es (place + e.width) end p.2 in omega arith

order_entry : (es : List Entry) (place end i : ℕ) → InOrder place es end
    → (get_or es i absent).offset + (get_or es i absent).width ≤ end
order_entry [] place end zero p = omega arith
order_entry [] place end (suc i) p = omega arith
order_entry (e ∷ es) place end zero (inl p) =
    let o : e.offset ≡ 0 = ap (λ (x : Entry). x.offset) p.0 in
    let w : e.width ≡ 0 = ap (λ (x : Entry). x.width) p.0 in
    omega arith
order_entry (e ∷ es) place end zero (inr p) =
    let q = order_end es (place + e.width) end p.2 in
    let o = p.1 in
    omega arith
order_entry (e ∷ es) place end (suc i) (inl p) = order_entry es place end i p.1
order_entry (e ∷ es) place end (suc i) (inr p) = order_entry es (place + e.width) end i p.2

entry_inside : (e : Entry) (n : ℕ) → e.offset + e.width ≤ 8 * n → (entry_part e).start + (entry_part e).size ≤ n
entry_inside e n h = go (is_whole e)
  where
    go : (x : Bool)
        → (cond x (record { start = e.offset / 8; size = e.width / 8 }) no_part).start
        + (cond x (record { start = e.offset / 8; size = e.width / 8 }) no_part).size ≤ n
    go true = omega arith
    go false = omega arith

-- ── a part by its numbers ──

nested : (a b c : Bool) (x y : ℕ)
    → cond a (cond b (cond c (span_of x y) (span_of 0 0)) (span_of 0 0)) (span_of 0 0)
    ≡ span_of (cond (a && (b && c)) (record { start = x; size = y }) no_part).start
    (cond (a && (b && c)) (record { start = x; size = y }) no_part).size
nested true true true x y = refl
nested true true false x y = refl
nested true false c x y = refl
nested false b c x y = refl

abbrev of_part : Part → Span
of_part p = span_of p.start p.size

bytes_part : (run : List ℕ) (es : List Entry) (i : ℕ) → Begins run es → i < length es
    → part_at run i ≡ of_part (entry_part (get_or es i absent))
unfolding part_at
bytes_part run es i b lt =
    let e = get_or es i absent in
    rw (
      run_present run es i b lt,
      run_number run es i 1 b lt (omega arith),
      run_number run es i 2 b lt (omega arith),
    )
    (nested (eqb e.present 1) (eqb (e.offset % 8) 0) (eqb (e.width % 8) 0) (e.offset / 8) (e.width / 8))

-- ── the part of each table, good or not ──

module _ (table packet : List ℕ) (i : ℕ) where
  abbrev none_is : ((good : Dec (Good table)) → part_by good packet i ≡ no_part) → OnPacket table packet i (span_of 0 0)
  none_is = none_on table packet (λ good. part_by good packet i)

  by_good : Good table → ((g : Good table) → part_in (reading g.description packet) i ≡ no_part)
      → OnPacket table packet i (span_of 0 0)
  unfolding part_by
  by_good good h = none_is go
    where
      go : (x : Dec (Good table)) → part_by x packet i ≡ no_part
      go (yes g) = h g
      go (no n) = absurd (n good)

  pub part_not_good : (Good table → ⊥) → OnPacket table packet i (span_of 0 0)
  unfolding part_by
  part_not_good h = none_is go
    where
      go : (x : Dec (Good table)) → part_by x packet i ≡ no_part
      go (yes g) = absurd (h g)
      go (no n) = refl

  open_none : (got : Reading) → ((es : List Entry) → got ≡ complete es → ⊥) → part_in got i ≡ no_part
  open_none (complete es) h = absurd (h es refl)
  open_none (refusing a) h = refl

  past_none : (got : Reading) → ((es : List Entry) → got ≡ complete es → length es ≤ i) → part_in got i ≡ no_part
  past_none (complete es) h = rw (get_or-eq_default es absent (h es refl))
  past_none (refusing a) h = refl

  pub part_outside : Good table → two_at table 6 ≤ i → OnPacket table packet i (span_of 0 0)
  part_outside good le = by_good good (λ g. past_none (reading g.description packet) (λ es e.
      omega (arith, good_count table g, entries_count g.description packet es e)))

  module _ (r : PacketAnswer) (numbers : List ℕ) (good : Good table) (reads : ReadsRun table packet r numbers) where
    pub part_refused : is_ok r ≡ false → OnPacket table packet i (span_of 0 0)
    part_refused h = by_good good (λ g.
        let got = reading g.description packet in
        open_none got (refused_open got packet r (reads g.description g.within g.is_stored).answer h))

    pub part_found : i < two_at table 6 → is_ok r ≡ true → OnPacket table packet i (part_at numbers i)
    unfolding part_by
    part_found lt h = record { is = is; within = within good }
      where
        entries : (g : Good table) → (es : List Entry) × (reading g.description packet ≡ complete es)
        entries g =
            accepted_complete (reading g.description packet) (reading_told g.description packet) packet r
            (reads g.description g.within g.is_stored).answer h

        found : (g : Good table) → part_at numbers i ≡ of_part (entry_part (get_or (entries g).0 i absent))
        found g =
            let es = (entries g).0 in
            let e = (entries g).1 in
            bytes_part numbers es i ((reads g.description g.within g.is_stored).front es e)
            (omega (arith, good_count table g, entries_count g.description packet es e))

        is : (x : Dec (Good table)) → part_at numbers i ≡ of_part (part_by x packet i)
        is (yes g) = rw (entries g).1 (found g)
        is (no n) = absurd (n good)

        within : Good table → ending (part_at numbers i) ≤ length packet
        within g =
            let es = (entries g).0 in
            let o = (cover_in_order g.description packet es (entries g).1).0 in
            rw (found g) (entry_inside (get_or es i absent) (length packet) (order_entry es 0 (bit_total packet) i o))
