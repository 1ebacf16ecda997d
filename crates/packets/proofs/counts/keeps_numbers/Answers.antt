use Rattle.std.proofs.Common.{◌≡◌, ◌+◌, ◌≤◌, ◌∙◌, rules, tests, arith, take, length, get_or, ap}
use lib.Dec.{eqb}
use lib.Seq.{get_or-take, length-take-le}
use Rattle.std.proofs.lemmas.Iterator.{YieldsList-from_slice, YieldsList-from_zip}
use Rattle.std.proofs.lemmas.Iterator.Adapters.{serves_from_places}
use Rattle.std.proofs.lemmas.Iterator.Search.{all_from_yields_List}
use Rattle.laws.specs.Places.{two_at}
use Rattle.packets.specs.Parts.{table_most}
use Rattle.packets.proofs.CountSteps.{kept_zip, zip_first}
use Rattle.packets.proofs.counts.keeps_numbers.Goals as goal

pub all-requires-clause-callable : goal.all-requires-clause-callable
all-requires-clause-callable c =
    let n = c.args.n in
    let a = take n c.args.places.now in
    let b = take n c.args.counts.now in
    let few : length a ≡ n = length-take-le n c.args.places.now c.requires.0 in
    serves_from_places
    (YieldsList-from_zip {s = c.zip.result} (YieldsList-from_slice a (cc)) (YieldsList-from_slice b (cc)))
    (λ x q r. search (rules, tests))
    (λ x k lt e.
    let f = zip_first a b k (x.0.now, x.1.now) lt in
    let h : x.0.now ≡ get_or a k 0 = ap (λ y. y.0) e ∙ f.0 in
    let low : x.0.now ≤ table_most =
    rw (h, get_or-take n c.args.places.now k 0 (omega (arith, f.1, few))) (c.requires.2 k (omega (arith, f.1, few))) in
    (λ _ _ _ _ _ _ _. record { fits = omega (arith, low) }, λ _ _ _ _ _ _ _ _. omega (arith, low)))

pub returns : goal.returns
returns c =
    let a = take c.args.n c.args.places.now in
    let b = take c.args.n c.args.counts.now in
    all_from_yields_List (λ q. eqb (two_at c.args.s.now (q.0 + 4)) q.1) c.all.new.self _ _ c.all.ensures.ran
    (YieldsList-from_zip {s = c.zip.result} (YieldsList-from_slice a (cc)) (YieldsList-from_slice b (cc)))
    (λ x r q k. search (rules, tests))
    ∙ kept_zip c.args.s.now c.args.n c.args.places.now c.args.counts.now c.requires.0 c.requires.1
