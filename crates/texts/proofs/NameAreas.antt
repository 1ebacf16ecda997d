-- Entries of one size in bytes, one behind the other, and what a write leaves of them; the names of a line put in.
use mathlib.Core.Path.{◌≡◌, refl, sym, ◌∙◌, ap}
use mathlib.Core.Bool.{Bool, true, false, cond, ◌&&◌, ◌||◌}
use mathlib.Core.List.{List, [], ◌∷◌}
use Prim.Native.Nat.{ℕ, zero, suc, ◌+◌, ◌*◌, ◌-◌, ◌≤◌, ◌<◌}
use native.Mathlib.Nat.{zero-add, suc-add, mul-zero, mul-suc, mul-le-mul_left}
use native.Mathlib.Omega.{arith}
use lib.Dec.{eqb, ltb}
use lib.ListN.{length, take, drop, get_or, set, length-set}
use lib.Seq.{
  take-nil,
  take-take,
  take_at,
  take-set-le,
  drop_at,
  drop-drop,
  drop-set-add,
  length-take-le,
  get_or-set_same,
  get_or-set_other,
  get_or-take,
  get_or-drop,
  ext_get_or,
}
use borrow.Author.Tests.{eqb-true, eqb-false, ltb-true, ltb-false}
use mir.Val.{bool_byte}
use Rattle.rules.specs.Limits.{fields_most, label_most, short_most}
use Rattle.names.specs.Repeats.{pad_to, held_word, same_name, names_meet, at_most}
use Rattle.writing.specs.Puts.{placed, put}
use Rattle.writing.specs.Writes.{Writes}
use Rattle.writing.specs.declared.spans.Span.{Span}
use Rattle.writing.proofs.PutLaws.{put_writes}
use Rattle.texts.specs.HeldNames.{entries, shorts_at, words_at, marks_at, names_room, names_in}
use Rattle.texts.specs.HeldNames.{labels_room, labels_in, OwnPut}
use Rattle.texts.specs.NameStarts.{buckets, bucket_of, start_in, StartsBy, Lowered, StartPut}
use Rattle.texts.specs.PartPlaces.{span_in}
use Rattle.texts.specs.StoredTrees.{reads_as}

-- ── parts of bytes ──

pub drop_take : (n m : ℕ) (l : List ℕ) → drop n (take (n + m) l) ≡ take m (drop n l)
drop_take zero m l = rw zero-add refl
drop_take (suc n) m [] = ap (λ (l : List ℕ). drop (suc n) l) (take-nil (suc n + m)) ∙ sym (take-nil m)
drop_take (suc n) m (x ∷ l) = ap (λ (k : ℕ). drop (suc n) (take k (x ∷ l))) (suc-add n m) ∙ drop_take n m l

-- of bytes that begin alike
pub front_less : (a b : List ℕ) (p q : ℕ) → take p a ≡ take p b → q ≤ p → take q a ≡ take q b
front_less a b p q e le =
    sym (take-take q p a le) ∙ ap (λ (l : List ℕ). take q l) e ∙ take-take q p b le

pub front_part : (a b : List ℕ) (p q s : ℕ) → take p a ≡ take p b → q + s ≤ p
    → take s (drop q a) ≡ take s (drop q b)
front_part a b p q s e le =
    sym (drop_take q s a) ∙ ap (λ (l : List ℕ). drop q l) (front_less a b p (q + s) e le) ∙ drop_take q s b

-- of bytes that end alike
pub back_less : (a b : List ℕ) (p q : ℕ) → drop p a ≡ drop p b → p ≤ q → drop q a ≡ drop q b
back_less a b p q e le =
    let k : p + (q - p) ≡ q = omega arith in
    rw k at (sym (drop-drop (q - p) p a) ∙ ap (λ (l : List ℕ). drop (q - p) l) e ∙ drop-drop (q - p) p b)

-- ── what is written, and what stands before it ──

module _ {b a w : List ℕ} {at next : ℕ} (p : Writes b at w a next) (room : at ≤ length b) where
  pub written_front : take at a ≡ take at b
  written_front =
      sym (take-take at next a (omega (arith, p.end))) ∙ ap (λ (l : List ℕ). take at l) p.text
      ∙ take_at (take at b) w at (length-take-le at b room)

  pub written_word : take (length w) (drop at a) ≡ w
  written_word =
      sym (drop_take at (length w) a)
      ∙ ap (λ (k : ℕ). drop at (take k a)) (sym p.end)
      ∙ ap (λ (l : List ℕ). drop at l) p.text
      ∙ drop_at (take at b) w at (length-take-le at b room)

-- ── entries ──

pub entries_length : (size n : ℕ) (b : List ℕ) → length (entries size n b) ≡ n
unfolding entries
entries_length size zero b = refl
entries_length size (suc n) b = ap suc (entries_length size n (drop size b))

pub entry_at : (size n i : ℕ) (b : List ℕ) → i < n → get_or (entries size n b) i [] ≡ take size (drop (size * i) b)
unfolding entries
entry_at size zero i b lt = absurd (omega arith)
entry_at size (suc n) zero b lt = rw (mul-zero size) refl
entry_at size (suc n) (suc i) b lt =
    let k : size + size * i ≡ size * suc i = omega (arith, mul-suc size i) in
    entry_at size n i (drop size b) (omega arith) ∙ ap (λ (l : List ℕ). take size l) (drop-drop (size * i) size b)
    ∙ ap (λ (j : ℕ). take size (drop j b)) k

-- of an area that begins at a place
pub area_entry : (size n at i : ℕ) (b : List ℕ) → i < n
    → get_or (entries size n (drop at b)) i [] ≡ take size (drop (at + size * i) b)
area_entry size n at i b lt =
    entry_at size n i (drop at b) lt ∙ ap (λ (l : List ℕ). take size l) (drop-drop (size * i) at b)

-- they are those that stand in their bytes
pub entries_same : (size n : ℕ) (a b : List ℕ)
    → ((i : ℕ) → i < n → take size (drop (size * i) a) ≡ take size (drop (size * i) b))
    → entries size n a ≡ entries size n b
entries_same size n a b each =
    ext_get_or [] (entries size n a) (entries size n b) (entries_length size n a ∙ sym (entries_length size n b))
    (λ i lt. let few : i < n = omega (arith, lt, entries_length size n a) in
    entry_at size n i a few ∙ each i few ∙ sym (entry_at size n i b few))

-- an entry ends where the next begins, or before
entry_ends : (size i j : ℕ) → i < j → size * i + size ≤ size * j
entry_ends size i j lt =
    let le : size * suc i ≤ size * j = mul-le-mul_left size lt in
    omega (arith, mul-suc size i, le)

pub area_kept : (size n at p : ℕ) (a b : List ℕ) → take p a ≡ take p b → at + size * n ≤ p
    → entries size n (drop at a) ≡ entries size n (drop at b)
area_kept size n at p a b e le =
    entries_same size n (drop at a) (drop at b) (λ i lt.
    let q = front_part a b p (at + size * i) size e (omega (arith, entry_ends size i n lt)) in
    ap (λ (l : List ℕ). take size l) (drop-drop (size * i) at a) ∙ q
    ∙ ap (λ (l : List ℕ). take size l) (sym (drop-drop (size * i) at b)))

-- a write of an entry sets it
pub entries_put : (size n at i : ℕ) {b a w : List ℕ} {next : ℕ} → i < n → length w ≡ size
    → at + size * n ≤ length b → Writes b (at + size * i) w a next
    → entries size n (drop at a) ≡ set (entries size n (drop at b)) i w
entries_put size n at i {b} {a} {w} {next} lt long room p =
    ext_get_or [] (entries size n (drop at a)) (set (entries size n (drop at b)) i w)
    (entries_length size n (drop at a) ∙ sym (length-set (entries size n (drop at b)) i w ∙ wide))
    (λ j k. one j (omega (arith, k, entries_length size n (drop at a))))
  where
    wide : length (entries size n (drop at b)) ≡ n
    wide = entries_length size n (drop at b)

    inside : at + size * i ≤ length b
    inside = omega (arith, room, entry_ends size i n lt)

    one : (j : ℕ) → j < n
        → get_or (entries size n (drop at a)) j [] ≡ get_or (set (entries size n (drop at b)) i w) j []
    one j few = area_entry size n at j a few ∙ go (eqb j i) refl
      where
        other : (j ≡ i → ⊥)
            → take size (drop (at + size * j) b) ≡ get_or (set (entries size n (drop at b)) i w) j []
        other ne =
            sym (get_or-set_other (entries size n (drop at b)) i j w [] ne ∙ area_entry size n at j b few)

        apart : (x : Bool) → eqb j i ≡ false → ltb j i ≡ x
            → take size (drop (at + size * j) a) ≡ take size (drop (at + size * j) b)
        apart true ne t =
            let le = entry_ends size j i (ltb-true j i t) in
            front_part a b (at + size * i) (at + size * j) size (written_front p inside) (omega (arith, le))
        apart false ne t =
            let more : i < j = omega (arith, eqb-false j i ne, ltb-false j i t) in
            let le = entry_ends size i j more in
            ap (λ (l : List ℕ). take size l)
            (back_less a b next (at + size * j) p.beyond (omega (arith, le, p.end, long)))

        go : (x : Bool) → eqb j i ≡ x
            → take size (drop (at + size * j) a) ≡ get_or (set (entries size n (drop at b)) i w) j []
        go true e =
            let k : j ≡ i = eqb-true j i e in
            let here : take size (drop (at + size * i) a) ≡ w =
            ap (λ (m : ℕ). take m (drop (at + size * i) a)) (sym long) ∙ written_word p inside in
            rw (k, here) (sym (get_or-set_same (entries size n (drop at b)) i w [] (omega (arith, lt, wide))))
        go false e = apart (ltb j i) e refl ∙ other (eqb-false j i e)

-- ── names and labels where they stand ──

pub short_at_lem : (b : List ℕ) (i : ℕ) → i < fields_most
    → get_or (names_in b).shorts i [] ≡ take short_most (drop (shorts_at + short_most * i) b)
short_at_lem b i lt = area_entry short_most fields_most shorts_at i b lt

pub word_at : (b : List ℕ) (i : ℕ) → i < fields_most
    → get_or (names_in b).words i [] ≡ take short_most (drop (words_at + short_most * i) b)
word_at b i lt = area_entry short_most fields_most words_at i b lt

pub reads_at : (b v : List ℕ) (i : ℕ) → i < fields_most
    → reads_as (names_in b) v i
    ≡ (eqb (get_or b (marks_at + i) 0) 1
    && (same_name v (take short_most (drop (shorts_at + short_most * i) b))
    || same_name v (take short_most (drop (words_at + short_most * i) b))))
unfolding reads_as
reads_at b v i lt = rw (get_or-drop marks_at b i 0, short_at_lem b i lt, word_at b i lt) refl

pub meet_in : (b : List ℕ) (n i : ℕ) {s v t w : List ℕ} → n < fields_most → i < fields_most
    → s ≡ take short_most (drop (shorts_at + short_most * n) b)
    → v ≡ take short_most (drop (words_at + short_most * n) b)
    → t ≡ take short_most (drop (shorts_at + short_most * i) b)
    → w ≡ take short_most (drop (words_at + short_most * i) b)
    → names_meet (get_or (names_in b).shorts n []) (get_or (names_in b).words n []) (get_or (names_in b).shorts i [])
    (get_or (names_in b).words i [])
    ≡ names_meet s v t w
meet_in b n i few lt p q r u =
    rw (
      short_at_lem b n few ∙ sym p,
      word_at b n few ∙ sym q,
      short_at_lem b i lt ∙ sym r,
      word_at b i lt ∙ sym u,
    )
    refl

pub label_put : (n : ℕ) (b a w : List ℕ) {next : ℕ} → n < fields_most → labels_room ≤ length b
    → length w ≡ label_most → placed next a ≡ put b (label_most * n) w → labels_in a ≡ set (labels_in b) n w
label_put n b a w {next} lt room long e =
    let p : Writes b (label_most * n) w a next = put_writes {w = w} (omega (arith, room, lt, long)) e in
    let q : Writes b (0 + label_most * n) w a next = rw (zero-add (label_most * n)) p in
    entries_put label_most fields_most 0 n lt long room q

-- ── the names of a line put in ──

-- what begins alike has the same starts
starts_same : (a b : List ℕ) → take shorts_at a ≡ take shorts_at b → (v : List ℕ) → start_in a v ≡ start_in b v
starts_same a b e v =
    sym (get_or-take shorts_at a (bucket_of v) 0 (omega arith)) ∙ ap (λ (l : List ℕ). get_or l (bucket_of v) 0) e
    ∙ get_or-take shorts_at b (bucket_of v) 0 (omega arith)

module _ (n : ℕ) (own word a b c : List ℕ) {next end : ℕ} (mark : ℕ) (few : n < fields_most)
    (room : names_room ≤ length a) (long : (length own ≡ short_most) × (length word ≡ short_most))
    (first : placed next b ≡ put a (shorts_at + short_most * n) own)
    (second : placed end c ≡ put b (words_at + short_most * n) word) where
  short_written : Writes a (shorts_at + short_most * n) own b next
  short_written = put_writes {w = own} (omega (arith, room, few, long.0)) first

  word_written : Writes b (words_at + short_most * n) word c end
  word_written = put_writes {w = word} (omega (arith, room, few, long.1, short_written.kept)) second

  -- the mark behind them
  abbrev marked : List ℕ
  marked = set c (marks_at + n) mark

  mark_front : take marks_at marked ≡ take marks_at c
  mark_front = take-set-le marks_at c (marks_at + n) mark (omega arith)

  word_front : take words_at c ≡ take words_at b
  word_front =
      front_less c b (words_at + short_most * n) words_at
      (written_front word_written (omega (arith, room, few, short_written.kept))) (omega arith)

  marked_front : take shorts_at marked ≡ take shorts_at a
  marked_front =
      front_less marked c marks_at shorts_at mark_front (omega arith)
      ∙ front_less c b words_at shorts_at word_front (omega arith)
      ∙ front_less b a (shorts_at + short_most * n) shorts_at
      (written_front short_written (omega (arith, room, few))) (omega arith)

  short_back : (p : ℕ) → words_at ≤ p → drop p b ≡ drop p a
  short_back p le =
      back_less b a next p short_written.beyond (omega (arith, le, few, long.0, short_written.end))

  marked_shorts : entries short_most fields_most (drop shorts_at marked)
      ≡ set (entries short_most fields_most (drop shorts_at a)) n own
  marked_shorts =
      area_kept short_most fields_most shorts_at marks_at marked c mark_front (omega arith)
      ∙ area_kept short_most fields_most shorts_at words_at c b word_front (omega arith)
      ∙ entries_put short_most fields_most shorts_at n few long.0 (omega (arith, room)) short_written

  marked_words : entries short_most fields_most (drop words_at marked)
      ≡ set (entries short_most fields_most (drop words_at a)) n word
  marked_words =
      area_kept short_most fields_most words_at marks_at marked c mark_front (omega arith)
      ∙ entries_put short_most fields_most words_at n few long.1 (omega (arith, room, short_written.kept))
      word_written
      ∙ ap (λ (l : List ℕ). set (entries short_most fields_most l) n word) (short_back words_at (omega arith))

  marked_marks : drop marks_at marked ≡ set (drop marks_at a) n mark
  marked_marks =
      drop-set-add marks_at c n mark
      ∙ ap (λ (l : List ℕ). set l n mark)
      (back_less c b end marks_at word_written.beyond (omega (arith, few, long.1, word_written.end))
      ∙ short_back marks_at (omega arith))

  byte_cond : (b : Bool) → bool_byte b ≡ cond b 1 0
  byte_cond true = refl
  byte_cond false = refl

  -- and both names among the starts
  pub own_put : (d e s : List ℕ) (label : ℕ) (short : Span) (fixed : Bool) → own ≡ pad_to short_most (span_in s short)
      → word ≡ held_word (take label s) → mark ≡ bool_byte fixed
      → StartPut (set c (marks_at + n) mark) own n d → StartPut d word n e
      → OwnPut (names_in a) n s label short fixed (names_in e)
  own_put d e s label short fixed is_own is_is_word is_mark p q = record {
    shorts = shorts ∙ ap (λ (v : List ℕ). set (names_in a).shorts n v) is_own;
    words = words ∙ ap (λ (v : List ℕ). set (names_in a).words n v) is_is_word;
    marks = back marks_at (omega arith) ∙ marked_marks ∙ ap (λ (v : ℕ). set (names_in a).marks n v)
        (is_mark ∙ byte_cond fixed);
    own = (own_started, word_started);
    starts = lowered;
  }
    where
      back : (k : ℕ) → buckets ≤ k → drop k e ≡ drop k marked
      back k le = back_less e marked buckets k (q.beyond ∙ p.beyond) le

      shorts : (names_in e).shorts ≡ set (names_in a).shorts n own
      shorts = ap (λ (l : List ℕ). entries short_most fields_most l) (back shorts_at (omega arith)) ∙ marked_shorts

      words : (names_in e).words ≡ set (names_in a).words n word
      words = ap (λ (l : List ℕ). entries short_most fields_most l) (back words_at (omega arith)) ∙ marked_words

      entry : (l : List (List ℕ)) (k : ℕ) (v : List ℕ) → l ≡ set (entries short_most fields_most (drop k a)) n v
          → get_or l n [] ≡ v
      entry l k v e =
          ap (λ (m : List (List ℕ)). get_or m n []) e
          ∙ get_or-set_same (entries short_most fields_most (drop k a)) n v []
          (omega (arith, few, entries_length short_most fields_most (drop k a)))

      own_started : StartsBy e (get_or (names_in e).shorts n []) n
      own_started =
          rw (entry (names_in e).shorts shorts_at own shorts)
          (λ some. let k = p.own some in omega (arith, k, (q.lowered own).0))

      word_started : StartsBy e (get_or (names_in e).words n []) n
      word_started = rw (entry (names_in e).words words_at word words) q.own

      lowered : Lowered a n e
      lowered v =
          let z = starts_same marked a marked_front v in (
            omega (arith, z, (p.lowered v).0, (q.lowered v).0),
            (q.lowered v).1 ∙ (p.lowered v).1 ∙ ap (at_most n) z,
          )
