-- The part of a packet that is a field, by its numbers. This mirrors the code: no public promise rests on this file.
use Rattle.std.specs.Prelude.{cond, List, ℕ, ◌+◌, ◌*◌, ◌/◌, ◌%◌, eqb, get_or}
use Rattle.rules.specs.Promises.{part_by}
use Rattle.writing.specs.declared.spans.Span.{Span}
use Rattle.packets.specs.Parts.{span_of}
use Rattle.packets.specs.Found.{OnBytes}

-- by the numbers of the field of an index
unfoldable pub part_at : List ℕ → ℕ → Span
part_at run i =
    cond (eqb (get_or run (4 * i) 0) 1)
    (cond (eqb (get_or run (4 * i + 1) 0 % 8) 0)
    (cond (eqb (get_or run (4 * i + 2) 0 % 8) 0)
    (span_of (get_or run (4 * i + 1) 0 / 8) (get_or run (4 * i + 2) 0 / 8)) (span_of 0 0)) (span_of 0 0))
    (span_of 0 0)

-- the field's part, which lies within the packet
abbrev pub OnPacket : List ℕ → List ℕ → ℕ → Span → Type 0
OnPacket table packet i r = OnBytes table packet (λ good. part_by good packet i) r
