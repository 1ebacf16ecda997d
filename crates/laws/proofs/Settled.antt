-- The promises settle what is answered and what the lent buffers hold: one answer for each input.
use mathlib.Core.Path.{◌≡◌, refl, sym, ◌∙◌, ap}
use mathlib.Core.Bool.{cond}
use mathlib.Core.List.{List}
use Prim.Native.Nat.{ℕ}
use lib.Dec.{eqb}
use Rattle.std.specs.Prelude.{Ok, Err}
use Rattle.rules.specs.declared.Fault.{Fault}
use Rattle.rules.specs.declared.TableRefusal.{TableRefusal}
use Rattle.rules.specs.declared.PacketRefusal.{PacketRefusal}
use Rattle.rules.specs.declared.FieldRefusal.{FieldRefusal}
use Rattle.rules.specs.declared.ListingRefusal.{ListingRefusal}
use Rattle.rules.specs.declared.TextRefusal.{TextRefusal}
use Rattle.rules.specs.declared.ConversionRefusal.{ConversionRefusal}
use Rattle.rules.specs.Reading.{Part}
use Rattle.rules.specs.Answers.{
  Answer,
  fault_number,
  of_table,
  of_packet,
  of_field,
  of_listing,
  of_text,
  of_conversion,
  TableAnswer,
  PacketAnswer,
  FieldAnswer,
  ListingAnswer,
  TextAnswer,
  ConversionAnswer,
}
use Rattle.rules.specs.Editions.{uncounted}
use Rattle.rules.specs.Stored.{Good}
use Rattle.rules.specs.Promises.{
  Outcome,
  leaves,
  ChecksTable,
  ReadsPacket,
  Lends,
  part_by,
  PlacesPart,
  LendsPart,
  ListsPacket,
  FindsField,
  label_by,
  PlacesLabel,
  LendsLabel,
  ReadsText,
  Partly,
  leaves_partly,
  ReadsPartly,
  short_by,
  PlacesShort,
  LendsShort,
  CountsFields,
  TellsKind,
  CountsReaders,
  ConvertsTable,
}
use Rattle.rules.specs.Results.{TextUnique}
use Rattle.laws.proofs.Decidable.{good_decidable, good_decidable_in}

-- ── an answer is known by its number, place and value ──

table_of : Answer → TableAnswer
table_of a = cond (eqb a.number 0) (Ok a.amount) (Err TableRefusal.NotGood)

table_back : (r : TableAnswer) → table_of (of_table r) ≡ r
unfolding table_of of_table
table_back (Ok n) = refl
table_back (Err TableRefusal.NotGood) = refl

packet_of : Answer → PacketAnswer
packet_of a =
    cond (eqb a.number 0) (Ok a.amount)
    (cond (eqb a.number 21) (Err PacketRefusal.NotGood)
    (cond (eqb a.number 22) (Err PacketRefusal.TooLong)
    (cond (eqb a.number 23) (Err PacketRefusal.ShortRun)
    (cond (eqb a.number 24) (Err (PacketRefusal.Field Fault.BitsMissing a.place))
    (cond (eqb a.number 25) (Err (PacketRefusal.Field Fault.ConstraintFalse a.place))
    (cond (eqb a.number 26) (Err (PacketRefusal.Field Fault.AbsentRead a.place))
    (cond (eqb a.number 27) (Err (PacketRefusal.Field Fault.OutOfRange a.place))
    (cond (eqb a.number 29) (Err (PacketRefusal.Field Fault.ZeroDivisor a.place)) (Err PacketRefusal.LeftOver)))))))))

packet_back : (r : PacketAnswer) → packet_of (of_packet r) ≡ r
unfolding packet_of of_packet fault_number
packet_back (Ok n) = refl
packet_back (Err PacketRefusal.NotGood) = refl
packet_back (Err PacketRefusal.TooLong) = refl
packet_back (Err PacketRefusal.ShortRun) = refl
packet_back (Err (PacketRefusal.Field Fault.BitsMissing i)) = refl
packet_back (Err (PacketRefusal.Field Fault.ConstraintFalse i)) = refl
packet_back (Err (PacketRefusal.Field Fault.AbsentRead i)) = refl
packet_back (Err (PacketRefusal.Field Fault.OutOfRange i)) = refl
packet_back (Err (PacketRefusal.Field Fault.ZeroDivisor i)) = refl
packet_back (Err PacketRefusal.LeftOver) = refl

field_of : Answer → FieldAnswer
field_of a =
    cond (eqb a.number 0) (Ok a.amount) (cond (eqb
    a.number 21) (Err FieldRefusal.NotGood) (Err FieldRefusal.Unknown))

field_back : (r : FieldAnswer) → field_of (of_field r) ≡ r
unfolding field_of of_field
field_back (Ok i) = refl
field_back (Err FieldRefusal.NotGood) = refl
field_back (Err FieldRefusal.Unknown) = refl

listing_of : Answer → ListingAnswer
listing_of a = cond (eqb a.number 0) (Ok a.amount) (Err ListingRefusal.NoRoom)

listing_back : (r : ListingAnswer) → listing_of (of_listing r) ≡ r
unfolding listing_of of_listing
listing_back (Ok n) = refl
listing_back (Err ListingRefusal.NoRoom) = refl

text_of : Answer → TextAnswer
text_of a =
    cond (eqb a.number 0) (Ok a.amount)
    (cond (eqb a.number 1) (Err TextRefusal.TooLong)
    (cond (eqb a.number 2) (Err TextRefusal.BadByte)
    (cond (eqb a.number 3) (Err (TextRefusal.BadLine a.place))
    (cond (eqb a.number 4) (Err TextRefusal.TooMany)
    (cond (eqb a.number 5) (Err (TextRefusal.BadForm a.place))
    (cond (eqb a.number 6) (Err (TextRefusal.OverLimit a.place))
    (cond (eqb a.number 7) (Err (TextRefusal.Mismatch a.place))
    (cond (eqb a.number 8) (Err (TextRefusal.Repeated a.place))
    (cond (eqb a.number 9) (Err (TextRefusal.BadName a.place))
    (cond (eqb a.number 10) (Err (TextRefusal.BadRest a.place)) (Err TextRefusal.NoRoom)))))))))))

text_back : (r : TextAnswer) → text_of (of_text r) ≡ r
unfolding text_of of_text
text_back (Ok n) = refl
text_back (Err TextRefusal.TooLong) = refl
text_back (Err TextRefusal.BadByte) = refl
text_back (Err (TextRefusal.BadLine p)) = refl
text_back (Err TextRefusal.TooMany) = refl
text_back (Err (TextRefusal.BadForm p)) = refl
text_back (Err (TextRefusal.OverLimit p)) = refl
text_back (Err (TextRefusal.Mismatch p)) = refl
text_back (Err (TextRefusal.Repeated p)) = refl
text_back (Err (TextRefusal.BadName p)) = refl
text_back (Err (TextRefusal.BadRest p)) = refl
text_back (Err TextRefusal.NoRoom) = refl

conversion_of : Answer → ConversionAnswer
conversion_of a =
    cond (eqb a.number 0) (Ok a.amount)
    (cond (eqb a.number 21) (Err ConversionRefusal.NotGood) (Err ConversionRefusal.NoRoom))

conversion_back : (r : ConversionAnswer) → conversion_of (of_conversion r) ≡ r
unfolding conversion_of of_conversion
conversion_back (Ok n) = refl
conversion_back (Err ConversionRefusal.NotGood) = refl
conversion_back (Err ConversionRefusal.NoRoom) = refl

pub table_number : (a b : TableAnswer) → of_table a ≡ of_table b → a ≡ b
table_number a b e = sym (table_back a) ∙ ap table_of e ∙ table_back b

pub packet_number : (a b : PacketAnswer) → of_packet a ≡ of_packet b → a ≡ b
packet_number a b e = sym (packet_back a) ∙ ap packet_of e ∙ packet_back b

pub listing_number : (a b : ListingAnswer) → of_listing a ≡ of_listing b → a ≡ b
listing_number a b e = sym (listing_back a) ∙ ap listing_of e ∙ listing_back b

pub field_number : (a b : FieldAnswer) → of_field a ≡ of_field b → a ≡ b
field_number a b e = sym (field_back a) ∙ ap field_of e ∙ field_back b

pub text_number : (a b : TextAnswer) → of_text a ≡ of_text b → a ≡ b
text_number a b e = sym (text_back a) ∙ ap text_of e ∙ text_back b

pub conversion_number : (a b : ConversionAnswer) → of_conversion a ≡ of_conversion b → a ≡ b
conversion_number a b e = sym (conversion_back a) ∙ ap conversion_of e ∙ conversion_back b

-- ── one answer for each input ──

-- two values that are both equal to what each decision gives
both : {A : Type 0} (table : List ℕ) (v : Dec (Good table) → A) (a b : A) → ((good : Dec (Good table)) → a ≡ v good)
    → ((good : Dec (Good table)) → b ≡ v good) → a ≡ b
both table v a b p q = let g = good_decidable table in p g ∙ sym (q g)

-- an answer of the code and a buffer, by their outcome
apart : {R : Type 0} (told : R → Answer) → ((a b : R) → told a ≡ told b → a ≡ b) → (a b : R) (after other : List ℕ)
    → leaves (told a) after ≡ leaves (told b) other → (a ≡ b) × (after ≡ other)
apart told back a b after other e =
    (back a b (ap (λ (o : Outcome). o.answer) e), ap (λ (o : Outcome). o.buffer) e)

pub table_settled : (table : List ℕ) (a b : TableAnswer) → ChecksTable table (of_table a)
    → ChecksTable table (of_table b)
    → a ≡ b
table_settled table a b p q = table_number a b (both table _ (of_table a) (of_table b) p q)

pub packet_settled : (table packet run : List ℕ) (a b : PacketAnswer) (after other : List ℕ)
    → ReadsPacket table packet run (leaves (of_packet a) after)
    → ReadsPacket table packet run (leaves (of_packet b) other)
    → (a ≡ b) × (after ≡ other)
packet_settled table packet run a b after other p q =
    apart of_packet packet_number a b after other
    (both table _ (leaves (of_packet a) after) (leaves (of_packet b) other) p q)

pub listing_settled : (table packet out : List ℕ) (a b : ListingAnswer) (after other : List ℕ)
    → ListsPacket table packet out (leaves (of_listing a) after)
    → ListsPacket table packet out (leaves (of_listing b) other)
    → (a ≡ b) × (after ≡ other)
listing_settled table packet out a b after other p q =
    apart of_listing listing_number a b after other
    (both table _ (leaves (of_listing a) after) (leaves (of_listing b) other) p q)

pub index_settled : (table name : List ℕ) (a b : FieldAnswer) → FindsField table name (of_field a)
    → FindsField table name (of_field b) → a ≡ b
index_settled table name a b p q = field_number a b (both table _ (of_field a) (of_field b) p q)

-- the part that is lent, and its place
lent_settled : (table buffer : List ℕ) (from : ℕ × ℕ) (part : Dec (Good table) → Part) (bytes others : List ℕ)
    (at other : ℕ × ℕ) → ((good : Dec (Good table)) → Lends buffer from (part good) bytes at)
    → ((good : Dec (Good table)) → Lends buffer from (part good) others other) → (bytes ≡ others) × (at ≡ other)
lent_settled table buffer from part bytes others at other p q =
    let g = good_decidable table in
    ((p g).content ∙ sym (q g).content, (p g).place ∙ sym (q g).place)

pub lent_part_settled : (table packet : List ℕ) (i : ℕ) (from : ℕ × ℕ) (bytes others : List ℕ) (at other : ℕ × ℕ)
    → LendsPart table packet i from bytes at → LendsPart table packet i from others other
    → (bytes ≡ others) × (at ≡ other)
lent_part_settled table packet i from bytes others at other p q =
    lent_settled table packet from (λ good. part_by good packet i) bytes others at other p q

pub lent_label_settled : (table : List ℕ) (i : ℕ) (from : ℕ × ℕ) (bytes others : List ℕ) (at other : ℕ × ℕ)
    → LendsLabel table i from bytes at → LendsLabel table i from others other → (bytes ≡ others) × (at ≡ other)
lent_label_settled table i from bytes others at other p q =
    lent_settled table table from (λ good. label_by good i) bytes others at other p q

pub part_place_settled : (table packet : List ℕ) (i : ℕ) (part other : Part) → PlacesPart table packet i part
    → PlacesPart table packet i other → part ≡ other
part_place_settled table packet i part other p q = both table _ part other p q

pub label_place_settled : (table : List ℕ) (i : ℕ) (part other : Part) → PlacesLabel table i part
    → PlacesLabel table i other → part ≡ other
label_place_settled table i part other p q = both table _ part other p q

pub lent_short_settled : (table : List ℕ) (i : ℕ) (from : ℕ × ℕ) (bytes others : List ℕ) (at other : ℕ × ℕ)
    → LendsShort table i from bytes at → LendsShort table i from others other → (bytes ≡ others) × (at ≡ other)
lent_short_settled table i from bytes others at other p q =
    lent_settled table table from (λ good. short_by good i) bytes others at other p q

pub short_place_settled : (table : List ℕ) (i : ℕ) (part other : Part) → PlacesShort table i part
    → PlacesShort table i other → part ≡ other
short_place_settled table i part other p q = both table _ part other p q

pub count_settled : (table : List ℕ) (a b : TableAnswer) → CountsFields table (of_table a)
    → CountsFields table (of_table b) → a ≡ b
count_settled table a b p q = table_number a b (both table _ (of_table a) (of_table b) p q)

pub kind_settled : (table : List ℕ) (i : ℕ) (a b : FieldAnswer) → TellsKind table i (of_field a)
    → TellsKind table i (of_field b) → a ≡ b
kind_settled table i a b p q = field_number a b (both table _ (of_field a) (of_field b) p q)

pub readers_settled : (table : List ℕ) (i : ℕ) (a b : FieldAnswer) → CountsReaders table i (of_field a)
    → CountsReaders table i (of_field b) → a ≡ b
readers_settled table i a b p q = field_number a b (both table _ (of_field a) (of_field b) p q)

pub conversion_settled : (table out : List ℕ) (a b : ConversionAnswer) (after other : List ℕ)
    → ConvertsTable table out (leaves (of_conversion a) after)
    → ConvertsTable table out (leaves (of_conversion b) other)
    → (a ≡ b) × (after ≡ other)
conversion_settled table out a b after other p q =
    let old = good_decidable_in uncounted table in
    apart of_conversion conversion_number a b after other (p old ∙ sym (q old))

pub partly_settled : (table packet run : List ℕ) (a b : PacketAnswer) (after other : List ℕ) (n m : ℕ)
    → ReadsPartly table packet run (leaves_partly (of_packet a) after n)
    → ReadsPartly table packet run (leaves_partly (of_packet b) other m) → (a ≡ b) × (after ≡ other) × (n ≡ m)
partly_settled table packet run a b after other n m p q =
    let e = both table _ (leaves_partly (of_packet a) after n) (leaves_partly (of_packet b) other m) p q in
    let o = apart of_packet packet_number a b after other (ap (λ (x : Partly). x.outcome) e) in
    (o.0, o.1, ap (λ (x : Partly). x.count) e)

-- a text, whose outcome is the only one (text_laws, TextResults)
pub text_settled : TextUnique → (text out : List ℕ) (a b : TextAnswer) (after other : List ℕ)
    → ReadsText text out (leaves (of_text a) after) → ReadsText text out (leaves (of_text b) other)
    → (a ≡ b) × (after ≡ other)
text_settled unique text out a b after other p q =
    apart of_text text_number a b after other
    (unique text out (leaves (of_text a) after) (leaves (of_text b) other) p q)
