-- Replies and spans of wrong exports: of each, what is claimed is the export's promise, and it is false
-- (proofs/RuledOutReplies).
use Rattle.std.specs.Prelude.{◌≡◌, List, [], ◌∷◌, ◌++◌, ℕ, ◌≤◌, length, replicate, take, drop, get_or}
use Rattle.base.specs.Bytes.{bytes}
use Rattle.rules.specs.Stored.{stored}
use Rattle.rules.specs.Pieces.{state_bytes, StartsText, TakesPiece, EndsText}
use Rattle.rules.specs.Promises.{leaves, overlaid, ReadsText}
use Rattle.rules.specs.Cases.{lent_run}
use Rattle.rules.specs.Marked.{blade_report, m1, m1_listing, tag_text, tag_table}
use Rattle.rules.specs.Pages.{m3, tag_lines, old_tag_table}
use Rattle.laws.specs.Wrong.{
  Claim,
  checks,
  reads,
  lists,
  places_part,
  finds,
  places_label,
  run_of,
  output_of,
  m1_six,
  m1_entries,
  counts,
  tells_kind,
  counts_readers,
  converts_with,
  cuts_with,
  puts_with,
  places_short,
  reads_partly,
}
use Rattle.laws.specs.WrongNumbers.{nines}
use Rattle.laws.specs.WrongEdits.{if_one, five, four, pair, letters}
use Rattle.laws.specs.WrongPuts.{given}
use Rattle.texts.specs.PieceStates.{fresh_state, Left}
use Rattle.umarekoza.specs.declared.Reply.{Reply}
use Rattle.umarekoza.specs.declared.Span.{Span}
use Rattle.umarekoza.specs.declared.Partial.{Partial}
use Rattle.umarekoza.specs.Exports.{reply_answer, span_part, partial_answer}

abbrev pub reply : ℕ → ℕ → ℕ → Reply
reply n p l = record { number = n; place = p; length = l }

abbrev pub partial : ℕ → ℕ → ℕ → ℕ → Partial
partial n p l k = record { number = n; place = p; length = l; count = k }

abbrev pub span : ℕ → ℕ → Span
span o l = record { offset = o; length = l }

abbrev of_packets : List Claim
of_packets =
    -- a table: no length for a good one; a place for it
    checks blade_report (reply_answer (reply 0 0 0))
    ∷ checks blade_report (reply_answer (reply 0 1 215))
    -- a packet: bytes for bits; number and place exchanged; the table read in its place
    ∷ reads blade_report m1 (reply_answer (reply 0 0 8)) (run_of m1_entries)
    ∷ reads blade_report [] (reply_answer (reply 1 24 0)) lent_run
    ∷ reads blade_report m1 (reply_answer (reply 25 1 0)) lent_run
    -- a listing: its lines counted; no length; that of the table in the packet's place
    ∷ lists blade_report m1 (reply_answer (reply 0 0 8)) (output_of m1_listing)
    ∷ lists blade_report m1 (reply_answer (reply 0 0 0)) (output_of m1_listing)
    ∷ lists blade_report m1 (reply_answer (reply 0 0 16)) (output_of (bytes "refused 25 at 1\n"))
    -- a field's bytes: in bits; start and length exchanged; none, as where the table is read in the packet's place
    ∷ places_part blade_report m1 5 (span_part (span 32 16))
    ∷ places_part blade_report m1 5 (span_part (span 2 4))
    ∷ places_part blade_report m1 5 (span_part (span 0 0))
    -- a packet as far as it goes: no count; the count as the length
    ∷ reads_partly blade_report m3 (partial_answer (partial 24 7 0 0)) (run_of m1_six) 0
    ∷ reads_partly blade_report m3 (partial_answer (partial 24 7 6 6)) (run_of m1_six) 6
    ∷ []

-- the record of a field that four has not and five has
abbrev gap : List ℕ
gap = given (if_one "Gap" 0 ∷ [])

abbrev of_tables : List Claim
of_tables =
    -- a field by name: the index as the place; 11 or 31 for a name that no field has
    finds blade_report (bytes "N") (reply_answer (reply 0 2 0))
    ∷ finds blade_report (bytes "X") (reply_answer (reply 11 0 0))
    ∷ finds blade_report (bytes "X") (reply_answer (reply 31 0 0))
    -- a label: the record's place; start and length exchanged; the first field's for every field
    ∷ places_label blade_report 0 (span_part (span 22 7))
    ∷ places_label blade_report 0 (span_part (span 7 30))
    ∷ places_label blade_report 1 (span_part (span 30 7))
    -- the number of fields: as the place; counted from 0
    ∷ counts blade_report (reply_answer (reply 0 7 0))
    ∷ counts blade_report (reply_answer (reply 0 0 6))
    -- a kind: as the number; as the place
    ∷ tells_kind blade_report 5 (reply_answer (reply 13 0 0))
    ∷ tells_kind blade_report 5 (reply_answer (reply 0 13 0))
    -- how often a field is read: as the number; as the place; 30 with the index as its place
    ∷ counts_readers blade_report 1 (reply_answer (reply 1 0 0))
    ∷ counts_readers blade_report 1 (reply_answer (reply 0 1 0))
    ∷ counts_readers blade_report 7 (reply_answer (reply 30 7 0))
    -- an old table: no length; 11 and 21 exchanged
    ∷ converts_with 46 old_tag_table (reply_answer (reply 0 0 0)) tag_table
    ∷ converts_with 45 old_tag_table (reply_answer (reply 21 0 0)) (replicate 45 9)
    ∷ converts_with 46 tag_table (reply_answer (reply 11 0 0)) (replicate 46 9)
    -- fields cut out: no length; number and place exchanged; 34 told as 31; first and last exchanged
    ∷ cuts_with 200 (stored five) 2 2 (reply_answer (reply 0 0 0)) (overlaid (stored four) (nines 200))
    ∷ cuts_with 200 (stored pair) 0 0 (reply_answer (reply 2 31 0)) (nines 200)
    ∷ cuts_with 200 (stored letters) 0 1 (reply_answer (reply 31 0 0)) (nines 200)
    ∷ cuts_with 200 (stored five) 3 4 (reply_answer (reply 30 0 0)) (nines 200)
    -- fields put in: no length; the records in the table's place; 34 told as 30
    ∷ puts_with 200 (stored four) 2 gap (reply_answer (reply 0 0 0)) (overlaid (stored five) (nines 200))
    ∷ puts_with 200 (stored four) 2 gap (reply_answer (reply 21 0 0)) (nines 200)
    ∷ puts_with 200 (stored four) 2 (drop 1 gap) (reply_answer (reply 30 0 0)) (nines 200)
    -- a short name: start and length exchanged; the label
    ∷ places_short blade_report 0 (span_part (span 1 39))
    ∷ places_short blade_report 0 (span_part (span 30 7))
    ∷ []

abbrev pub wrong_replies : List Claim
wrong_replies = of_packets ++ of_tables

-- a text: accepted with nothing written; the table written, and its length left out; 2 told as 3
pub record WrongTextReplies : Type 0 where
  pub nothing : ReadsText tag_text (replicate 46 9) (leaves (reply_answer (reply 0 0 46)) (replicate 46 9)) → ⊥
  pub lengthless : ReadsText tag_text (replicate 46 9) (leaves (reply_answer (reply 0 0 0)) tag_table) → ⊥
  pub renumbered : ReadsText (tag_lines 1 ++ (0x7F ∷ [])) [] (leaves (reply_answer (reply 3 0 0)) []) → ⊥

-- a text in pieces: a start that leaves a state as it was, or a byte of it; a piece that leaves a state as it was, or
-- makes it that of the piece alone; an end with the table written and its length left out, and with 2 told as 3
pub record WrongPieceReplies : Type 0 where
  pub idle_start : (s : List ℕ) → state_bytes ≤ length s → get_or s 0 0 ≡ 9 → StartsText Left fresh_state s s → ⊥
  pub left_start : (s t : List ℕ) → state_bytes ≤ length s → get_or t 24 0 ≡ 9 → StartsText Left fresh_state s t → ⊥
  pub idle_piece : (s : List ℕ) → Left [] (take state_bytes s) → TakesPiece Left s (9 ∷ []) s → ⊥
  pub only_piece : (s t : List ℕ) → Left (9 ∷ []) (take state_bytes s) → Left (8 ∷ []) (take state_bytes t)
      → TakesPiece Left s (8 ∷ []) t → ⊥
  pub lengthless : (s : List ℕ) → Left tag_text (take state_bytes s)
      → EndsText Left s (replicate 46 9) (leaves (reply_answer (reply 0 0 0)) tag_table) → ⊥
  pub renumbered : (s : List ℕ) → Left (tag_lines 1 ++ (0x7F ∷ [])) (take state_bytes s)
      → EndsText Left s [] (leaves (reply_answer (reply 3 0 0)) []) → ⊥
