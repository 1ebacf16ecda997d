use native.Mathlib.Omega.{arith}
use Rattle.rules.specs.Answers.{of_packet}
use Rattle.umarekoza.proofs.PacketPlaces.{number_low, partly_place_low}
use Rattle.umarekoza.proofs.umarekoza_read_partly.Goals as goal

pub overflow_cast-result : goal.overflow_cast-result
overflow_cast-result c =
    record { fits = omega (arith, c.number_of.ensures, number_low c.read_partly-read.result.answer) }

pub overflow_cast-result-2 : goal.overflow_cast-result-2
overflow_cast-result-2 c =
    let low = partly_place_low c.args.table.now _ c.args.run.now (of_packet c.read_partly-read.result.answer)
    c.read_partly-read.new.run _ c.read_partly-read.ensures in
    record { fits = omega (arith, c.place_of.ensures, low) }
