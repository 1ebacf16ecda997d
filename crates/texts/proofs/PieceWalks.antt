-- The lines of a piece behind a held line.
use Rattle.std.specs.Prelude.{Some}
use Rattle.texts.specs.declared.notes.Note.TheVariants.{BadByte}
use mathlib.Core.Path.{◌≡◌, refl, ap, sym, ◌∙◌, subst}
use mathlib.Core.Bool.{Bool, true, false, cond}
use mathlib.Core.List.{List, [], ◌∷◌, ◌++◌, foldl, foldl-append}
use Prim.Native.Nat.{ℕ, suc, ◌+◌, ◌-◌, ◌≤◌, ◌<◌}
use native.Mathlib.Omega.{arith}
use lib.Dec.{ltb}
use lib.ListN.{length, take, drop, get_or, length-drop}
use Rattle.base.specs.Lists.{all}
use Rattle.rules.specs.Names.{line_feed, is_printable}
use Rattle.rules.specs.Limits.{text_most, line_most}
use Rattle.rules.specs.Answers.{refused}
use Rattle.text_laws.specs.Fold as fold
use Rattle.text_laws.proofs.FedRuns.{fed_run, fed_line, fed_bad}
use Rattle.text_laws.proofs.FedAlike.{alike_trans, alike_lost}
use Rattle.text_laws.proofs.Steadiness.{steady_losing}
use Rattle.texts.specs.LineEnds.{printable_length}
use Rattle.texts.specs.Changes.{changed}
use Rattle.texts.specs.WalkSteps.{KeptAs, WalkedTo}
use Rattle.texts.specs.declared.states.Stage.TheVariants as stages
use Rattle.texts.specs.declared.states.Reading.{Reading}
use Rattle.texts.specs.declared.walks.Walked.{Walked}
use Rattle.texts.proofs.CutLines.{holds_lost}
use Rattle.texts.proofs.LineEnds.{bad_byte}
use Rattle.texts.proofs.LineWalk.{alike_eq, drop_all, run_plain, run_next, run_long, stops}
use Rattle.texts.proofs.StateSteps.{kept_same}

module _ (k : fold.Kept) (t : List ℕ) (e : ℕ) (first : e ≡ 0 + printable_length (drop 0 t)) (lt : e < length t)
    (short : length k.line ≤ line_most) (size : k.size + length t ≤ text_most) where
  abbrev part : List ℕ
  part = take (e - 0) (drop 0 t)

  part_size : length part ≡ e
  part_size = let n = run_long t 0 e first lt in omega (arith, n)

  behind_size : length (drop (suc e) t) ≡ length t - suc e
  behind_size = length-drop (suc e) t

  -- behind the line feed
  abbrev pub fed_first : fold.Kept
  fed_first = record {
    size = k.size + suc (length part);
    line = [];
    found = fold.lined k.found (k.line ++ part);
  }

  module _ {r : Reading} {held row counts : List ℕ} (is : KeptAs k.found r held row counts) where
    first_fed : get_or t e 0 ≡ line_feed
        → foldl fold.fed k (drop 0 t) ≡ foldl fold.fed fed_first (drop (suc e) t)
    first_fed feed =
        let n = part_size in
        let m = behind_size in
        ap (foldl fold.fed k) (run_next t 0 e first lt ∙ ap (λ (b : ℕ). part ++ (b ∷ drop (suc e) t)) feed)
        ∙ fed_line part (drop (suc e) t) k (run_plain t 0 e first) (omega (arith, n, m, size, lt)) short
        is.steady.small

    -- the lines behind it
    pub walked_first : get_or t e 0 ≡ line_feed → (w : Walked) {held' row' counts' : List ℕ}
        → WalkedTo fed_first t (e + 1) w held' row' counts' → WalkedTo k t 0 w held' row' counts'
    walked_first feed w h =
        let z : suc e ≡ e + 1 = omega arith in
        let x = h.walking in
        record {
          walking = record {
            kept = x.kept;
            is = x.is;
            begun = x.begun;
            size = x.size;
            alike = alike_trans _ _ _ (alike_eq _ _ (first_fed feed
                ∙ ap (λ (m : ℕ). foldl fold.fed fed_first (drop m t)) z)) x.alike;
          };
          plain = h.plain;
        }

    pub first_room : fed_first.size + (length t - (e + 1)) ≤ text_most
    first_room = let n = part_size in omega (arith, n, size, lt)

    -- 2 is the same behind a line that was cut
    losing_same : (l : List ℕ) → fold.losing (refused 2 0) (fold.unended k.found l)
        ≡ fold.losing (refused 2 0) k.found
    unfolding fold.unended
    losing_same l = go (ltb line_most (length l)) (fold.is_lost k.found.stage)
      where
        go : (x y : Bool)
            → fold.losing (refused 2 0) (cond x (cond y k.found (fold.wrong k.found)) k.found)
            ≡ fold.losing (refused 2 0) k.found
        go true true = refl
        go true false = refl
        go false y = refl

    bad_found : (get_or t e 0 ≡ line_feed → ⊥)
        → (foldl fold.fed k (drop 0 t)).found ≡ fold.losing (refused 2 0) k.found
    bad_found other =
        let b = get_or t e 0 in
        let n = part_size in
        let m = behind_size in
        let run = fed_run part k (run_plain t 0 e first) (omega (arith, n, size, lt)) short in
        ap (λ (z : List ℕ). (foldl fold.fed k z).found) (run_next t 0 e first lt)
        ∙ ap (λ (q : fold.Kept). q.found) (foldl-append fold.fed k part (b ∷ drop (suc e) t))
        ∙ ap (λ (q : fold.Kept). (foldl fold.fed q (b ∷ drop (suc e) t)).found) run
        ∙ fed_bad b (drop (suc e) t) _ (bad_byte b (stops t 0 e first lt) other)
        (omega (arith, n, m, size, lt))
        ∙ losing_same (k.line ++ part)

    abbrev bad_kept : fold.Kept
    bad_kept = record { size = k.size; line = []; found = fold.losing (refused 2 0) k.found }

    pub bad_first : (get_or t e 0 ≡ line_feed → ⊥)
        → WalkedTo k t 0 (record { reading = changed r r.lines stages.Lost (Some BadByte); at = length t }) held row
        counts
    unfolding all
    bad_first other =
        let x = holds_lost k.found r is.holds (refused 2 0) (Some BadByte) refl in
        let none = drop_all t in
        record {
          walking = record {
            kept = bad_kept;
            is = record {
              steady = steady_losing (refused 2 0) k.found is.steady;
              rows = kept_same is.holds.counts x.counts refl refl is.rows;
              holds = x;
            };
            begun = refl;
            size = (let z : length t - length t ≡ 0 = omega arith in omega (arith, size, z));
            alike = subst (λ (l : List ℕ). fold.Alike (foldl fold.fed k (drop 0 t)) (foldl fold.fed bad_kept l))
                (sym none)
                (alike_lost _ bad_kept (bad_found other) (ap (λ (f : fold.Found). f.stage) (bad_found other)));
          };
          plain = subst (λ (l : List ℕ). all is_printable l ≡ true) (sym none) refl;
        }
