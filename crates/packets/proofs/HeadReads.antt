-- A stored table's first record says how many fields it has and where their records begin.
use mathlib.Core.Path.{◌≡◌}
use mathlib.Core.List.{List, [], ◌++◌}
use Prim.Native.Nat.{ℕ, ◌+◌, ◌≤◌}
use native.Mathlib.Omega.{arith}
use lib.ListN.{length}
use Rattle.laws.specs.Places.{Stands, two_at}
use Rattle.laws.proofs.Places.{stands_left, stands_right, stands_end}
use Rattle.rules.specs.Fields.{Description}
use Rattle.rules.specs.Within.{Within}
use Rattle.rules.specs.References.{readers}
use Rattle.rules.specs.Stored.{record_of, records, head_body, stored, stored_in, stored_with}
use Rattle.rules.specs.Limits.{fields_most}
use Rattle.packets.specs.Parts.{table_most}
use Rattle.packets.proofs.TableSteps.{head_is_lem, count_most}
use Rattle.packets.proofs.TableParts.{head_found, whole_stands, stored_length_lem}

pub record HeadStands (s : List ℕ) (d : Description) : Type 0 where
  pub count : two_at s 6 ≡ length d.fields
  pub few : length d.fields ≤ fields_most
  pub end : ℕ
  pub fields : Stands s (two_at s 0) (records (readers d.fields) 0 d.fields) end
  pub short : end ≤ table_most

pub head_stands : (d : Description) → Within d → (s : List ℕ) → stored d ≡ s → HeadStands s d
unfolding stored_in stored_with
head_stands d w s e =
    let a = record_of 1 (head_body d) in
    let b = records (readers d.fields) 0 d.fields in
    let all = whole_stands s (stored d) e in
    let front = stands_left s 0 (length s) a (b ++ record_of 5 []) all in
    let back = stands_right s 0 (length s) a (b ++ record_of 5 []) all in
    let inside = stands_end s 0 (0 + length a) a front (omega arith) in
    let head = head_found s d (0 + length a) w inside front in
    let start : 0 + length a ≡ two_at s 0 = omega (arith, head.next, (head_is_lem s head.test).size) in
    let fields = stands_left s (0 + length a) (length s) b (record_of 5 []) back in
    let long = stands_end s (0 + length a) (0 + length a + length b) b fields inside in
    let most : length s ≤ table_most = stored_length_lem d w s e in
    record {
      count = head.count;
      few = count_most (length d.fields) w.count;
      end = two_at s 0 + length b;
      fields = rw start at fields;
      short = omega arith;
    }
