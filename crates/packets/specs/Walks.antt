-- The fields of a packet in order, by a table's records. This mirrors the code: no public promise rests on this file.
use Rattle.std.specs.Prelude.{◌≡◌, cond, List, ℕ, zero, suc, ◌+◌, ◌*◌, eqb, set, Ok, Err}
use Rattle.laws.specs.Places.{two_at}
use Rattle.rules.specs.declared.Fault.{Fault}
use Rattle.rules.specs.declared.Fault.TheVariants.{ConstraintFalse}
use Rattle.rules.specs.declared.PacketRefusal.{PacketRefusal}
use Rattle.rules.specs.Answers.{PacketAnswer}
use Rattle.rules.specs.Reading.{Entry, Step, step, stop, and_then, bit_total}
use Rattle.writing.specs.declared.spans.Span.{Span}
use Rattle.packets.specs.declared.records.Parts.{Parts}
use Rattle.packets.specs.declared.steps.Numbers.{Numbers}
use Rattle.packets.specs.Steps.{Found, numbers_in, found_of, record_at, holds_at, field_step}

-- ── one field ──

-- four numbers for field i
unfoldable pub put_at : List ℕ → ℕ → Numbers → List ℕ
put_at run i e =
    set (set (set (set run (4 * i) e.present) (4 * i + 1) e.offset) (4 * i + 2) e.width)
    (4 * i + 3) e.value

unfoldable pub kept_at : List ℕ → List ℕ → Span → Entry → ℕ → Step
kept_at s run p e next = and_then (holds_at s run p) (λ c. cond (eqb c 0) (stop ConstraintFalse) (step e next))

-- the constraint reads the run that has the field's own numbers
unfoldable pub step_after : List ℕ → List ℕ → ℕ → Parts → Step → Step
step_after s run i p (step e next) =
    cond (eqb e.present 0) (step e next) (kept_at s (put_at run i (numbers_in e)) p.constraint e next)
step_after s run i p (stop f) = stop f

abbrev pub run_with : List ℕ → ℕ → Step → List ℕ
run_with run i (step e next) = put_at run i (numbers_in e)
run_with run i (stop f) = run

-- ── all fields ──

-- the run and the place behind the fields; or a fault, with the field from 1, and the run that is left
pub data Walk : Type 0 where
  ended : List ℕ → ℕ → Walk
  stopped : Fault → ℕ → List ℕ → Walk

abbrev pub on_step : Step → ℕ → List ℕ → (List ℕ → ℕ → Walk) → Walk
on_step (step e next) k run go = go run next
on_step (stop f) k run go = stopped f k run

-- n fields from field i on
unfoldable pub walk_from : List ℕ → List ℕ → ℕ → ℕ → List ℕ → ℕ → ℕ → Walk
walk_from s packet zero i run place at = ended run place
walk_from s packet (suc n) i run place at =
    on_step (step_after s run i (record_at s at) (field_step s packet run (record_at s at) n place)) (i + 1)
    (run_with run i (field_step s packet run (record_at s at) n place))
    (λ after next. walk_from s packet n (i + 1) after next (record_at s at).next)

unfoldable pub walk_all : List ℕ → List ℕ → List ℕ → Walk
walk_all s packet run = walk_from s packet (two_at s 6) 0 run 0 (two_at s 0)

unfoldable pub walk_answer : List ℕ → Walk → PacketAnswer
walk_answer packet (ended run place) =
    cond (eqb place (bit_total packet)) (Ok place) (Err PacketRefusal.LeftOver)
walk_answer packet (stopped f k run) = Err (PacketRefusal.Field f k)

abbrev pub refused_of : Found → ℕ → PacketAnswer
refused_of (Err f) k = Err (PacketRefusal.Field f k)
refused_of (Ok r) k = Err PacketRefusal.LeftOver

-- the run after a walk
abbrev pub walk_run : Walk → List ℕ
walk_run (ended run place) = run
walk_run (stopped f k run) = run

-- ── what the code does ──

-- field i by its record: the answer r, and the run before and after
abbrev pub Steps : List ℕ → List ℕ → List ℕ → ℕ → ℕ → ℕ → Parts → Found → List ℕ → Type 0
Steps s packet run i later place p r after =
    (r ≡ found_of (step_after s run i p (field_step s packet run p later place)))
    × (after ≡ run_with run i (field_step s packet run p later place))

-- all fields: the answer r, and the run before and after
abbrev pub Walks : List ℕ → List ℕ → List ℕ → PacketAnswer → List ℕ → Type 0
Walks s packet run r after = (r ≡ walk_answer packet (walk_all s packet run))
    × (after ≡ walk_run (walk_all s packet run))
