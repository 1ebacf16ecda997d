-- A reply that tells an answer's amount or refusal is that answer.
use mathlib.Core.Path.{◌≡◌, refl, sym, ◌∙◌, ap}
use Prim.Native.Nat.{ℕ, ◌<◌}
use native.Mathlib.Omega.{arith}
use Rattle.std.specs.Prelude.{Result, Ok, Err, IfErr, MatchResult}
use Rattle.rules.specs.declared.TableRefusal.{TableRefusal}
use Rattle.rules.specs.declared.FieldRefusal.{FieldRefusal}
use Rattle.rules.specs.declared.ListingRefusal.{ListingRefusal}
use Rattle.rules.specs.declared.ConversionRefusal.{ConversionRefusal}
use Rattle.rules.specs.declared.refusals.Refusal.{Refusal}
use Rattle.rules.specs.Answers.{Answer, accepted, refused, of_table, of_packet, of_text, of_field, of_listing}
use Rattle.rules.specs.Answers.{of_conversion, of_edit, TableAnswer, FieldAnswer, ListingAnswer, ConversionAnswer}

-- an accepted answer is its amount
abbrev Amounts : {E : Type 0} → (Result ℕ E → Answer) → Type 0
Amounts of = (n : ℕ) → of (Ok n) ≡ accepted n

-- what is told of a refusal is what it is by 01
abbrev Told : {E : Type 0} → (Result ℕ E → Answer) → E → Refusal → Type 0
Told of e r = refused r.number r.place ≡ of (Err e)

pub table_amounts : Amounts of_table
unfolding of_table
table_amounts n = refl

pub packet_amounts : Amounts of_packet
unfolding of_packet
packet_amounts n = refl

pub text_amounts : Amounts of_text
unfolding of_text
text_amounts n = refl

pub field_amounts : Amounts of_field
unfolding of_field
field_amounts n = refl

pub listing_amounts : Amounts of_listing
unfolding of_listing
listing_amounts n = refl

pub conversion_amounts : Amounts of_conversion
unfolding of_conversion
conversion_amounts n = refl

pub edit_amounts : Amounts of_edit
unfolding of_edit
edit_amounts n = refl

pub replied : {E : Type 0} (of : Result ℕ E → Answer) → Amounts of → (a : Result ℕ E) (reply : Answer)
    → MatchResult a (λ n. reply ≡ accepted n)
    (λ e. (r : Refusal) × Told of e r × (reply ≡ refused r.number r.place)) → reply ≡ of a
replied of amounts (Ok n) reply is = is ∙ sym (amounts n)
replied of amounts (Err e) reply (r, told, is) = is ∙ told

pub place_fits : {E : Type 0} (of : Result ℕ E → Answer) (a : Result ℕ E) → (of a).place < 4294967296
    → IfErr a (λ e. (r : Refusal) → Told of e r → r.place < 4294967296)
place_fits of (Ok n) low = tt
place_fits of (Err e) low = λ r told. rw (← ap (λ (x : Answer). x.place) told) at low

-- these refusals have no place
pub table_fits : (a : TableAnswer) → (of_table a).place < 4294967296
unfolding of_table
table_fits (Ok n) = omega arith
table_fits (Err TableRefusal.NotGood) = omega arith

pub field_fits : (a : FieldAnswer) → (of_field a).place < 4294967296
unfolding of_field
field_fits (Ok n) = omega arith
field_fits (Err FieldRefusal.NotGood) = omega arith
field_fits (Err FieldRefusal.Unknown) = omega arith

pub listing_fits : (a : ListingAnswer) → (of_listing a).place < 4294967296
unfolding of_listing
listing_fits (Ok n) = omega arith
listing_fits (Err ListingRefusal.NoRoom) = omega arith

pub conversion_fits : (a : ConversionAnswer) → (of_conversion a).place < 4294967296
unfolding of_conversion
conversion_fits (Ok n) = omega arith
conversion_fits (Err ConversionRefusal.NotGood) = omega arith
conversion_fits (Err ConversionRefusal.NoRoom) = omega arith
