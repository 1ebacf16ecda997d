-- What a cut leaves is stored truly, within the limits or not: its bytes tell the description, by any numbers.
use mathlib.Core.Path.{◌≡◌, ap, sym, ◌∙◌}
use mathlib.Core.Bool.{Bool, true}
use mathlib.Core.List.{List, [], map}
use Prim.Native.Nat.{ℕ, suc, ◌+◌, ◌≤◌}
use native.Mathlib.Omega.{arith}
use lib.ListN.{length, length-append, length-map, take, drop, take-append-drop}
use Rattle.base.specs.Lists.{all}
use Rattle.base.proofs.Lists.{all_append, all_front, all_back, between_true}
use Rattle.rules.specs.Limits.{fields_most}
use Rattle.rules.specs.Editions.{current}
use Rattle.rules.specs.Fields.{Field, Description}
use Rattle.rules.specs.Within.{Within}
use Rattle.rules.specs.Edits.{renumbered, closed, run_length, remaining, cut}
use Rattle.rules.specs.Stored.{stored_with}
use Rattle.laws.proofs.Readers.{described_in}
use Rattle.laws.proofs.Unique.{Sound, described_sound, described_with}
use Rattle.laws.proofs.Whole.{is_sound, within_sound, sound_kept, sound_stays}

module _ (first last : ℕ) where
  -- a test of each field holds of those outside a run
  pub all_outside : (p : Field ℕ → Bool) (fs : List (Field ℕ)) → all p fs ≡ true
      → all p (remaining first last fs) ≡ true
  all_outside p fs h =
      all_append p (take first fs) (drop (suc last) fs)
      (all_front p (take first fs) (drop first fs) (rw (take-append-drop first fs) h))
      (all_back p (take (suc last) fs) (drop (suc last) fs) (rw (take-append-drop (suc last) fs) h))

  remaining_few : (fs : List (Field ℕ)) → length (remaining first last fs) ≤ length fs + length fs
  remaining_few fs =
      omega (
        arith,
        length-append (take first fs) (drop (suc last) fs),
        length-append (take first fs) (drop first fs),
        ap length (take-append-drop first fs),
        length-append (take (suc last) fs) (drop (suc last) fs),
        ap length (take-append-drop (suc last) fs),
      )

  pub cut_sound : (d : Description) → Within d → Sound (cut first last d)
  unfolding cut
  cut_sound d w =
      let g = closed first (run_length first last) in
      let fs = remaining first last d.fields in
      let sound = sound_stays g fs (all_outside is_sound d.fields (within_sound [] d.fields w.form w.size))
      in
      let kept = sound_kept [] (map (renumbered g) fs) sound in
      record {
        name = w.name;
        row = w.row;
        count =
            omega (
              arith,
              length-map fs (renumbered g),
              remaining_few d.fields,
              (between_true 1 (length d.fields) fields_most w.count).1,
            );
        form = kept.0;
        size = kept.1;
      }

  -- only this description has these bytes
  pub cut_judged : (d : Description) → Within d → (Q M : ℕ → ℕ) (c : Description) → Within c
      → stored_with current M c ≡ stored_with current Q (cut first last d) → c ≡ cut first last d
  cut_judged d w Q M c v h =
      sym (described_with current M c v)
      ∙ ap (described_in current) h
      ∙ described_sound current Q (cut first last d) (cut_sound d w)
