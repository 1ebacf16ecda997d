-- What a run holds once a packet was read into it by a stored table. No public promise rests on this file.
use Rattle.std.specs.Prelude.{◌≡◌, List, ℕ, ◌*◌, ◌-◌, ◌≤◌, length, take, Ok, Err}
use Rattle.base.specs.Lists.{joined}
use Rattle.rules.specs.declared.PacketRefusal.{PacketRefusal}
use Rattle.rules.specs.Fields.{Description}
use Rattle.rules.specs.Within.{Within}
use Rattle.rules.specs.Stored.{stored}
use Rattle.rules.specs.Answers.{of_packet, PacketAnswer}
use Rattle.rules.specs.Reading.{Entry, Reading, complete, reading, numbers_of}
use Rattle.rules.specs.Promises.{reading_answer}

-- a reading, the answer r, and the run after
pub record RunHolds (got : Reading) (packet : List ℕ) (r : PacketAnswer) (after : List ℕ) : Type 0 where
  pub answer : of_packet r ≡ reading_answer got packet
  pub front : (entries : List Entry) → got ≡ complete entries
      → take (4 * length entries) after ≡ joined numbers_of entries

-- the fields before the first refused one, of n
unfoldable pub count_in : PacketAnswer → ℕ → ℕ
count_in (Ok total) n = n
count_in (Err PacketRefusal.NotGood) n = 0
count_in (Err PacketRefusal.TooLong) n = 0
count_in (Err PacketRefusal.ShortRun) n = 0
count_in (Err (PacketRefusal.Field f k)) n = k - 1
count_in (Err PacketRefusal.LeftOver) n = n

-- the entries of the fields before the first refused one, the answer r, and the run after
pub record RunBegins (n : ℕ) (es : List Entry) (r : PacketAnswer) (after : List ℕ) : Type 0 where
  pub count : count_in r n ≡ length es
  pub most : length es ≤ n
  pub front : take (4 * length es) after ≡ joined numbers_of es

-- by each description that the table stores
abbrev pub ReadsRun : List ℕ → List ℕ → PacketAnswer → List ℕ → Type 0
ReadsRun table packet r after =
    (d : Description) → Within d → stored d ≡ table → RunHolds (reading d packet) packet r after
