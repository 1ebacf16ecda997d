-- Worked cases: packets and what is handed out. [01, Reading a packet]
use Rattle.std.specs.Prelude.{List, [], ◌∷◌, ◌++◌, replicate}
use Rattle.std.proofs.Math.Option.{none, some}
use Rattle.base.specs.Bytes.{bytes}
use Rattle.rules.specs.declared.Op.TheVariants.{Or, And, Mul}
use Rattle.rules.specs.Trees.{two, negation}
use Rattle.rules.specs.Fields.{measured}
use Rattle.rules.specs.Reading.{absent, no_part}
use Rattle.rules.specs.Answers.{accepted}
use Rattle.rules.specs.Promises.{leaves}
use Rattle.rules.specs.Cases.{Case, reads, hands, reads_to, refused_by, entry}
use Rattle.rules.specs.Marked.{blade_report, m1}
use Rattle.rules.specs.Pages.{
  page,
  is_flagged,
  is_nine,
  flagged,
  with_rest,
  uneven,
  measured_page,
  many_fields,
  m2,
  m3,
  called,
  wide,
  compared,
}

abbrev packets : List Case
packets =
    -- reading an absent field is 26
    reads (flagged (some is_nine)) (0 ∷ 5 ∷ []) (refused_by 26 3)
    -- an absent field's constraint is not tested
    ∷ reads (flagged none) (0 ∷ 5 ∷ []) (reads_to 16 (entry 0 8 0 ∷ absent ∷ entry 8 8 5 ∷ []))
    -- `&&` and `||` skip a side that would fault
    ∷ reads (flagged (some (two And is_flagged is_nine))) (0 ∷ []) (reads_to 8 (entry 0 8 0 ∷ absent ∷ absent ∷ []))
    ∷ reads (flagged (some (two Or (negation is_flagged) is_nine))) (0 ∷ 5 ∷ [])
    (reads_to 16 (entry 0 8 0 ∷ absent ∷ entry 8 8 5 ∷ []))
    -- the rest field takes what the fixed fields after it leave; below zero is 24 there
    ∷ reads with_rest (1 ∷ 2 ∷ 3 ∷ 4 ∷ []) (reads_to 32 (entry 0 8 1 ∷ entry 8 16 0 ∷ entry 24 8 4 ∷ []))
    ∷ reads with_rest (1 ∷ []) (refused_by 24 2)
    -- a width that leaves the range is 27 at its field
    ∷ reads measured_page (2 ∷ []) (refused_by 27 2)
    -- the unit is applied exactly: no fault of range, but 24
    ∷ reads (wide 8 (measured 8 (compared 4_294_967_295 Mul 1))) [] (refused_by 24 1)
    -- a run that is too short is 23, a packet that is too long is 22 before it [02, R-10]
    ∷ reads (page (many_fields 0 8)) (replicate 8 0) (refused_by 23 0)
    ∷ reads (page (many_fields 0 8)) (replicate 8192 0) (refused_by 22 0)
    ∷ reads with_rest (replicate 8191 5) (reads_to 65528 (entry 0 8 5 ∷ entry 8 65512 0 ∷ entry 65520 8 5 ∷ []))
    -- four numbers a field, and what lies beyond them stays
    ∷ reads (called (bytes "a") none) (5 ∷ []) (leaves (accepted 8) (1 ∷ 0 ∷ 8 ∷ 5 ∷ replicate 26 9))
    ∷ []

abbrev parts : List Case
parts =
    -- the part of a whole field; of one that is not whole, is absent, is beyond the fields; of a refused packet
    hands blade_report m1 5 (record { start = 4; size = 2 })
    ∷ hands blade_report m1 6 (record { start = 6; size = 2 })
    ∷ hands blade_report (0x40 ∷ 0x07 ∷ 0x00 ∷ 0x09 ∷ []) 5 (record { start = 2; size = 0 })
    ∷ hands blade_report m1 0 no_part
    ∷ hands uneven (replicate 4 7) 1 no_part
    ∷ hands uneven (replicate 4 7) 3 no_part
    ∷ hands blade_report m2 4 no_part
    ∷ hands blade_report m1 7 no_part
    ∷ hands blade_report m3 3 no_part
    ∷ hands blade_report (m1 ++ (0 ∷ [])) 3 no_part
    ∷ hands with_rest (replicate 8192 7) 1 no_part
    ∷ hands with_rest (replicate 8191 7) 1 (record { start = 1; size = 8189 })
    ∷ []

abbrev pub reading_a_packet : List Case
reading_a_packet = packets ++ parts
