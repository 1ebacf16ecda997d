-- A line that is too long, and a byte that is not allowed: what is kept behind them.
use Rattle.std.specs.Prelude.{Option as Held}
use mathlib.Core.Path.{◌≡◌, refl, ap, sym, ◌∙◌}
use mathlib.Core.Bool.{Bool, true, false, cond}
use mathlib.Core.List.{List, [], ◌∷◌}
use mathlib.Core.Option.{some, none-ne-some}
use Prim.Native.Nat.{ℕ, ◌+◌, ◌≤◌}
use native.Mathlib.Omega.{arith}
use Rattle.rules.specs.Answers.{Answer, refused}
use Rattle.text_laws.specs.Fold as fold
use Rattle.text_laws.proofs.Answering.{lowest_behind}
use Rattle.text_laws.proofs.Fed.{lost_stage}
use Rattle.texts.specs.HeldNames.{Names}
use Rattle.texts.specs.Noted.{place_of, note_of}
use Rattle.texts.specs.Changes.{changed}
use Rattle.texts.specs.States.{Room, Taken, Area, Holds, last_note, CutStep}
use Rattle.texts.specs.declared.notes.Note.{Note}
use Rattle.texts.specs.declared.states.Stage.TheVariants as at
use Rattle.texts.specs.declared.states.Reading.{Reading}
use Rattle.texts.proofs.EndSteps.{last_is_lem}
use Rattle.texts.proofs.StateSteps.{room_changed, records_kept, kept_same}

-- what the fold makes of it is told by the refusal of a text that ends in it
cut_lowest : (f : fold.Found) → fold.lowest_at f.stage (0 ∷ []) f ≡ (fold.cut f).judged.lowest
cut_lowest f = go (fold.is_lost f.stage) refl
  where
    lost_is : fold.lowest_at fold.lost (0 ∷ []) f ≡ f.judged.lowest
    lost_is = unfold fold.lowest_at in refl

    go : (b : Bool) → fold.is_lost f.stage ≡ b
        → fold.lowest_at f.stage (0 ∷ []) f ≡ (cond b f (fold.wrong f)).judged.lowest
    go true e = ap (λ (s : fold.Stage). fold.lowest_at s (0 ∷ []) f) (lost_stage f.stage e) ∙ lost_is
    go false e = lowest_behind f.stage (0 ∷ []) f e refl

module _ (f : fold.Found) (r : Reading) {cells : List ℕ} {table : Area} {labels : List (List ℕ)} {names : Names}
    (h : Holds f r cells table labels names) where
  -- a refusal behind which no line matters
  pub holds_lost : (o : Answer) (a : Held Note) → note_of a ≡ some o
      → Holds (fold.losing o f) (changed r r.lines at.Lost a) cells table labels names
  holds_lost o a low = record {
    counts = record {
      lines = h.counts.lines;
      stage = refl;
      width = h.counts.width;
      name = h.counts.name;
      row = h.counts.row;
      cells = h.counts.cells;
      count = h.counts.count;
      fields = h.counts.fields;
      rested = h.counts.rested;
      lowest = low;
    };
    slots = record { stored = h.slots.stored; end = h.slots.end; next = h.slots.next };
    records = records_kept h.records (record {
      seen = h.records.stands.seen;
      exact = λ z. absurd (none-ne-some o (sym z));
    }) refl refl;
    named = h.named;
  }

  -- one that is there already
  holds_still : f.stage ≡ fold.lost → (a : Held Note) → note_of a ≡ f.judged.lowest
      → Holds f (changed r r.lines at.Lost a) cells table labels names
  holds_still e a low = record {
    counts = record {
      lines = h.counts.lines;
      stage = sym e;
      width = h.counts.width;
      name = h.counts.name;
      row = h.counts.row;
      cells = h.counts.cells;
      count = h.counts.count;
      fields = h.counts.fields;
      rested = h.counts.rested;
      lowest = low;
    };
    slots = record { stored = h.slots.stored; end = h.slots.end; next = h.slots.next };
    records = records_kept h.records h.records.stands refl refl;
    named = h.named;
  }

  cut_held : (a : Held Note) → note_of a ≡ (fold.cut f).judged.lowest
      → Holds (fold.cut f) (changed r r.lines at.Lost a) cells table labels names
  cut_held a = go (fold.is_lost f.stage) refl
    where
      go : (b : Bool) → fold.is_lost f.stage ≡ b → note_of a ≡ (cond b f (fold.wrong f)).judged.lowest
          → Holds (cond b f (fold.wrong f)) (changed r r.lines at.Lost a) cells table labels names
      go true e low = holds_still (lost_stage f.stage e) a low
      go false e low = holds_lost (refused 3 (fold.blamed f.row f.lines)) a low

cut_same : (f : fold.Found) → ((fold.cut f).row ≡ f.row) × ((fold.cut f).width ≡ f.width)
cut_same f = go (fold.is_lost f.stage)
  where
    go : (b : Bool) → ((cond b f (fold.wrong f)).row ≡ f.row) × ((cond b f (fold.wrong f)).width ≡ f.width)
    go true = (refl, refl)
    go false = (refl, refl)

module _ (r : Reading) (row : List ℕ) (a : Held Note) (is : note_of a ≡ last_note r.stage r false row) where
  pub cut_taken : Room r → place_of a ≤ r.lines + 1 → Taken r (changed r r.lines at.Lost a)
  cut_taken room p =
      (room_changed r r.lines at.Lost a p room, omega arith)

  pub cut_step : CutStep r (changed r r.lines at.Lost a) row
  cut_step f held counts steady kept h =
      let low = is ∙ last_is_lem f r h.counts steady row kept (0 ∷ []) false refl ∙ cut_lowest f in
      let w = cut_held f r h a low in
      let same = cut_same f in
      (w, kept_same h.counts w.counts same.0 same.1 kept)
