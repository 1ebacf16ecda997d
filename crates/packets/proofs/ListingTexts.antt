-- The text of a listing: its lines and the bit total, or the refusal.
use mathlib.Core.Path.{◌≡◌, refl, sym, ◌∙◌, ap}
use mathlib.Core.List.{List, [], ◌∷◌, ◌++◌, append_assoc, append-nil}
use Prim.Native.Nat.{ℕ, zero, suc, ◌+◌, ◌*◌, ◌≤◌}
use mathlib.Core.Bool.{Bool, true, false, cond}
use native.Mathlib.Omega.{arith}
use lib.Dec.{ltb}
use lib.ListN.{length, length-append}
use Rattle.base.specs.Lists.{joined}
use Rattle.rules.specs.Fields.{Description}
use Rattle.rules.specs.Reading.{Entry, Reading, complete, refusing, reading, bit_total}
use Rattle.rules.specs.Listing.{refused_line, entry_lines, bits_line, lines_text}
use Rattle.rules.specs.Promises.{reading_answer, reading_lines, listing}
use Rattle.laws.proofs.Conditions.{conditions_kept}
use Rattle.laws.proofs.RunCover.{kept_length}
use Rattle.packets.specs.Parts.{table_most, parts_at}
use Rattle.packets.specs.LineTexts.{line_text, lines_from}
use Rattle.packets.proofs.LinesWritten.{line_length}
use Rattle.laws.proofs.Readings.{Told}

lines_append : (l m : List (List ℕ)) → lines_text (l ++ m) ≡ lines_text l ++ lines_text m
unfolding lines_text joined
lines_append [] m = refl
lines_append (x ∷ l) m =
    ap (λ (t : List ℕ). (x ++ (10 ∷ [])) ++ t) (lines_append l m)
    ∙ sym (append_assoc (x ++ (10 ∷ [])) (lines_text l) (lines_text m))

pub one_line : (x : List ℕ) → lines_text (x ∷ []) ≡ x ++ (10 ∷ [])
unfolding lines_text joined
one_line x = append-nil (x ++ (10 ∷ []))

-- an accepted packet
pub listing_lines : (d : Description) (packet : List ℕ) (es : List Entry) → reading d packet ≡ complete es
    → listing d packet ≡ lines_text (entry_lines d.fields es) ++ (bits_line (bit_total packet) ++ (10 ∷ []))
unfolding reading_lines
listing_lines d packet es h =
    rw (h, reading_lines)
    (lines_append (entry_lines d.fields es) (bits_line (bit_total packet) ∷ [])
    ∙ ap (λ (t : List ℕ). lines_text (entry_lines d.fields es) ++ t) (one_line (bits_line (bit_total packet))))

-- a number other than 0 is a refusal
refused_lines : (d : Description) (packet : List ℕ) (r : Reading) → ((reading_answer r packet).number ≡ 0 → ⊥)
    → lines_text (reading_lines d r packet)
    ≡ refused_line (reading_answer r packet).number (reading_answer r packet).place ++ (10 ∷ [])
unfolding reading_lines reading_answer
refused_lines d packet (complete es) n = absurd (n refl)
refused_lines d packet (refusing a) n = one_line (refused_line a.number a.place)

pub listing_refused : (d : Description) (packet : List ℕ) → ((reading_answer (reading d packet) packet).number ≡ 0 → ⊥)
    → listing d packet
    ≡ refused_line (reading_answer (reading d packet) packet).number (reading_answer
    (reading d packet) packet).place ++ (10 ∷ [])
listing_refused d packet n = refused_lines d packet (reading d packet) n

-- and 0 is a complete reading
pub accepted_entries : (r : Reading) → Told r → (packet : List ℕ) → (reading_answer r packet).number ≡ 0
    → (es : List Entry) × (r ≡ complete es)
unfolding reading_answer
accepted_entries (complete es) t packet e = (es, refl)
accepted_entries (refusing a) t packet e = absurd (omega (arith, e, t.0))

-- an entry for each field
pub entries_length : (d : Description) (packet : List ℕ) (es : List Entry) → reading d packet ≡ complete es
    → length es ≡ length d.fields
entries_length d packet es h = kept_length [] d.fields es (conditions_kept d packet es h)

pub lines_length : (s run : List ℕ) (n i place : ℕ) → length (lines_from s run i n place) ≤ 75 * n
unfolding lines_from
lines_length s run zero i place = omega arith
lines_length s run (suc n) i place = go (ltb table_most place) (lines_length s run n (i + 1) (parts_at s place).next)
  where
    more : List ℕ
    more = lines_from s run (i + 1) n (parts_at s place).next

    go : (b : Bool) → length more ≤ 75 * n → length (cond b [] (line_text s
        (parts_at s place) run i ++ more)) ≤ 75 * suc n
    go true h = omega arith
    go false h = rw (length-append (line_text s (parts_at s place) run i) more)
        (omega (arith, line_length s (parts_at s place) run i))
