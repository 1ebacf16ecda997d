-- The text of a cell, line by line: what one more line adds to it, and how long it is.
use mathlib.Core.Path.{◌≡◌, refl, ap, sym, ◌∙◌}
use mathlib.Core.Bool.{Bool, true, false, cond, ◌||◌, not}
use mathlib.Core.List.{List, [], ◌∷◌, ◌++◌, map, map-append, append_assoc, append-nil}
use Prim.Native.Nat.{ℕ, zero, suc, ◌+◌, ◌*◌, ◌-◌, ◌/◌, ◌≤◌, ◌<◌}
use native.Mathlib.Omega.{arith}
use native.Mathlib.Numerals.{add-one}
use lib.Dec.{eqb}
use lib.ListN.{length, take, drop, length-append, length-take}
use lib.Seq.{length-take-le}
use borrow.Author.Tests.{eqb-true, eq-eqb, ne_eqb}
use Rattle.base.specs.Lists.{all, only, is_empty, joined}
use Rattle.base.proofs.Joined.{joined_append, joined_one}
use Rattle.writing.specs.Writes.{Writes}
use Rattle.writing.specs.Puts.{placed, put}
use Rattle.writing.proofs.Writing.{writes_none, writes_join}
use Rattle.writing.proofs.PutLaws.{put_writes}
use Rattle.rules.specs.Names.{is_space}
use Rattle.rules.specs.Rows.{left_trim, keep_end, right_trim, trimmed, by_spaces, cell_text}
use Rattle.text_laws.proofs.RowCells.{left_split, right_some}
use Rattle.texts.specs.RowPlaces.{strips_at, added_line, cell_at}
use Rattle.texts.proofs.FrameLeaves.{take_rest}

only_append : {A : Type 0} (p : A → Bool) (l m : List A) → only p (l ++ m) ≡ only p l ++ only p m
unfolding only
only_append p [] m = refl
only_append {A} p (x ∷ l) m = go (p x) (only_append p l m)
  where
    go : (b : Bool) → only p (l ++ m) ≡ only p l ++ only p m
        → cond b (x ∷ only p (l ++ m)) (only p (l ++ m)) ≡ cond b (x ∷ only p l) (only p l) ++ only p m
    go true e = ap {B = List A} (λ r. x ∷ r) e
    go false e = e

-- ── of one bit ──

-- of two bytes each is at an end
only_short : (s : List ℕ) → length s ≤ 2 → only (λ b. not (is_space b)) s ≡ trimmed s
unfolding only left_trim right_trim keep_end
only_short [] h = refl
only_short (b ∷ []) h = go (is_space b) refl
  where
    go : (x : Bool) → is_space b ≡ x → cond (not x) (b ∷ []) [] ≡ right_trim (cond x [] (b ∷ []))
    go true e = refl
    go false e = rw e refl
only_short (b ∷ c ∷ []) h = go (is_space b) refl (is_space c) refl
  where
    go : (x : Bool) → is_space b ≡ x → (y : Bool) → is_space c ≡ y
        → cond (not x) (b ∷ cond (not y) (c ∷ []) []) (cond (not y) (c ∷ []) [])
        ≡ right_trim (cond x (cond y [] (c ∷ [])) (b ∷ c ∷ []))
    go true e true f = refl
    go true e false f = rw f refl
    go false e true f = rw (f, e) refl
    go false e false f = rw f refl
only_short (b ∷ c ∷ d ∷ s) h = absurd (omega arith)

bare_line : (s : List ℕ) → added_line true s ≡ trimmed s
bare_line s = go (trimmed s)
  where
    go : (t : List ℕ) → cond (is_empty t) [] t ≡ t
    go [] = refl
    go (b ∷ t) = refl

-- ── of more bits ──

abbrev some : List ℕ → Bool
some l = not (is_empty l)

all_only : (ls : List (List ℕ)) → all some (only some ls) ≡ true
unfolding all only
all_only [] = refl
all_only ([] ∷ ls) = all_only ls
all_only ((b ∷ l) ∷ ls) = all_only ls

spaces_more : (k : List ℕ) (ks : List (List ℕ)) (t : List ℕ)
    → by_spaces ((k ∷ ks) ++ (t ∷ [])) ≡ by_spaces (k ∷ ks) ++ (32 ∷ t)
unfolding by_spaces
spaces_more k [] t = refl
spaces_more k (m ∷ ks) t =
    ap (λ (l : List ℕ). k ++ (32 ∷ l)) (spaces_more m ks t) ∙ sym (append_assoc k (32 ∷ by_spaces (m ∷ ks)) (32 ∷ t))

spaces_added : (ks : List (List ℕ)) (t : List ℕ) → all some ks ≡ true
    → by_spaces (ks ++ (t ∷ [])) ≡ by_spaces ks ++ cond (is_empty (by_spaces ks)) t (32 ∷ t)
unfolding by_spaces all
spaces_added [] t h = refl
spaces_added ([] ∷ ks) t h = cc
spaces_added ((b ∷ k) ∷ []) t h = refl
spaces_added ((b ∷ k) ∷ m ∷ ks) t h = spaces_more (b ∷ k) (m ∷ ks) t

lines_more : (ls : List (List ℕ)) (t : List ℕ)
    → by_spaces (only some (ls ++ (t ∷ [])))
    ≡ by_spaces (only some ls)
    ++ cond (is_empty t) [] (cond (is_empty (by_spaces (only some ls))) t (32 ∷ t))
unfolding only
lines_more ls [] =
    ap by_spaces (only_append some ls ([] ∷ []) ∙ append-nil (only some ls))
    ∙ sym (append-nil (by_spaces (only some ls)))
lines_more ls (b ∷ t) =
    ap by_spaces (only_append some ls ((b ∷ t) ∷ [])) ∙ spaces_added (only some ls) (b ∷ t) (all_only ls)

-- ── one more line ──

text_more : (n : ℕ) (ls : List (List ℕ)) (s : List ℕ) → (n ≡ 1 → length s ≤ 2)
    → cell_text (record { bits = n; lines = ls ++ (s ∷ []) })
    ≡ cell_text (record { bits = n; lines = ls })
    ++ added_line (eqb n 1 || is_empty (cell_text (record { bits = n; lines = ls }))) s
unfolding cell_text
text_more n ls s h = go (eqb n 1) refl
  where
    down : List (List ℕ) → List ℕ
    down m = only (λ b. not (is_space b)) (joined (λ l. l) m)

    along : List (List ℕ) → List ℕ
    along m = by_spaces (only some (map trimmed m))

    go : (x : Bool) → eqb n 1 ≡ x
        → cond x (down (ls ++ (s ∷ []))) (along (ls ++ (s ∷ [])))
        ≡ cond x (down ls) (along ls) ++ added_line (x || is_empty (cond x (down ls) (along ls))) s
    go true e =
        ap (only (λ b. not (is_space b))) (joined_append (λ l. l) ls (s ∷ [])
        ∙ ap (λ (l : List ℕ). joined (λ l. l) ls ++ l) (joined_one (λ l. l) s))
        ∙ only_append (λ b. not (is_space b)) (joined (λ l. l) ls) s
        ∙ ap (λ (l : List ℕ). down ls ++ l) (only_short s (h (eqb-true n 1 e)) ∙ sym (bare_line s))
    go false e =
        ap (λ (m : List (List ℕ)). by_spaces (only some m)) (map-append trimmed ls (s ∷ []))
        ∙ lines_more (map trimmed ls) (trimmed s)

short : (size : ℕ) (l : List ℕ) → length (take size l) ≤ size
short size l = omega (arith, length-take size l)

module _ (row : List ℕ) (a size : ℕ) where
  abbrev text_at : ℕ → List ℕ
  text_at n = cell_text (cell_at row n a size)

  cell_none : text_at 0 ≡ []
  unfolding cell_text strips_at only joined by_spaces
  cell_none = go (eqb ((size + 1) / 2) 1)
    where
      go : (x : Bool) → ◌≡◌ {A = List ℕ} (cond x [] []) []
      go true = refl
      go false = refl

  cell_more : (n : ℕ) → text_at (suc n)
      ≡ text_at n ++ added_line (eqb ((size + 1) / 2) 1 || is_empty (text_at n)) (take size (drop (65 * n + a) row))
  unfolding strips_at
  cell_more n = text_more ((size + 1) / 2) (strips_at row a size n) (take size (drop (65 * n + a) row))
      (λ e. omega (arith, e, short size (drop (65 * n + a) row)))

-- ── how long it is ──

trimmed_length : (s : List ℕ) → length (trimmed s) ≤ length s
trimmed_length s =
    let w = right_some (left_trim s) in
    omega (
      arith,
      simp length-append at (ap length w.1),
      simp length-append at (ap length (left_split s)),
    )

added_length : (bare : Bool) (s : List ℕ) → length (added_line bare s) ≤ suc (length s)
added_length bare s = go (trimmed s) bare (trimmed_length s)
  where
    go : (t : List ℕ) (b : Bool) → length t ≤ length s
        → length (cond (is_empty t) [] (cond b t (32 ∷ t))) ≤ suc (length s)
    go [] b le = omega arith
    go (c ∷ t) true le = omega arith
    go (c ∷ t) false le = omega arith

module _ (row : List ℕ) (a size : ℕ) where
  abbrev length_at : ℕ → ℕ
  length_at n = length (cell_text (cell_at row n a size))

  length_more : (n : ℕ) → length_at (suc n) ≤ length_at n + (1 + size)
  length_more n =
      let t : List ℕ = cell_text (cell_at row n a size) in
      let s : List ℕ = take size (drop (65 * n + a) row) in
      let b : Bool = eqb ((size + 1) / 2) 1 || is_empty t in
      omega (
        arith,
        ap length (cell_more row a size n),
        length-append t (added_line b s),
        added_length b s,
        short size (drop (65 * n + a) row),
      )

  length_one : length_at 1 ≤ size
  length_one =
      let s : List ℕ = take size (drop (65 * 0 + a) row) in
      let e : length_at 1 ≡ length (trimmed s) = ap length (cell_more row a size 0) ∙ go (eqb ((size + 1) / 2) 1) in
      omega (arith, e, trimmed_length s, short size (drop (65 * 0 + a) row))
    where
      go : (x : Bool)
          → length (cell_text (cell_at row 0 a size)
          ++ added_line (x || is_empty (cell_text (cell_at row 0 a size))) (take size (drop (65 * 0 + a) row)))
          ≡ length (trimmed (take size (drop (65 * 0 + a) row)))
      go true = rw (cell_none row a size) (ap length (bare_line (take size (drop (65 * 0 + a) row))))
      go false = rw (cell_none row a size) (ap length (bare_line (take size (drop (65 * 0 + a) row))))

  -- before a fourth line, and of four
  length_three : (n : ℕ) → n < 4 → length_at n ≤ 3 * size + 2
  length_three zero lt = omega (arith, ap length (cell_none row a size))
  length_three (suc zero) lt = omega (arith, length_one)
  length_three (suc (suc zero)) lt = omega (arith, length_one, length_more 1)
  length_three (suc (suc (suc zero))) lt = omega (arith, length_one, length_more 1, length_more 2)
  length_three (suc (suc (suc (suc n)))) lt = absurd (omega arith)

  pub length_four : (n : ℕ) → n ≤ 4 → length_at n ≤ 4 * size + 3
  length_four zero le = omega (arith, ap length (cell_none row a size))
  length_four (suc n) le = omega (arith, length_three n (omega arith), length_more n)

-- ── a line that is put, from the first byte that is no blank ──

module _ (chars : List ℕ) (from len : ℕ) (l : drop from chars ≡ left_trim chars)
    (h : len ≤ length (take (length chars - from) (drop from chars)))
    (t : take len (take (length chars - from) (drop from chars)) ≡ right_trim (take (length chars - from) (drop from
    chars)))
  where
    text_is : take (from + len - from) (drop from chars) ≡ trimmed chars
    text_is =
        let e : from + len - from ≡ len = omega arith in
        let w : take (length chars - from) (drop from chars) ≡ drop from chars = take_rest from chars in
        ap (λ (n : ℕ). take n (drop from chars)) e ∙ ap (take len) (sym w) ∙ t ∙ ap right_trim (w ∙ l)

    text_length : length (trimmed chars) ≡ len
    text_length =
        let w : take (length chars - from) (drop from chars) ≡ drop from chars = take_rest from chars in
        ap length (sym (t ∙ ap right_trim (w ∙ l)))
        ∙ length-take-le len (take (length chars - from) (drop from chars)) h

    pub added_none : (bare : Bool) (before : List ℕ) (at : ℕ) → len ≡ 0
        → Writes before at (added_line bare chars) before at
    added_none bare before at e = go (trimmed chars) (text_length ∙ e)
      where
        go : (s : List ℕ) → length s ≡ 0
            → Writes before at (cond (is_empty s) [] (cond bare s (32 ∷ s))) before at
        go [] q = writes_none before at
        go (b ∷ s) q = absurd (omega (arith, q))

    line_some : (bare : Bool) → (len ≡ 0 → ⊥) → cond bare (trimmed chars) (32 ∷ trimmed chars) ≡ added_line bare chars
    line_some bare n = go (trimmed chars) text_length
      where
        go : (s : List ℕ) → length s ≡ len → cond bare s (32 ∷ s) ≡ cond (is_empty s) [] (cond bare s (32 ∷ s))
        go [] q = absurd (n (sym q))
        go (b ∷ s) q = refl

    module _ {before after : List ℕ} {at end : ℕ} (room : at + (1 + length chars) ≤ length before) (n : len ≡ 0 → ⊥)
      where
        pub added_bare : {bare : Bool} → bare ≡ true
            → placed end after ≡ put before at (take (from + len - from) (drop from chars))
            → Writes before at (added_line bare chars) after end
        added_bare {bare} b p =
            let q : placed end after ≡ put before at (trimmed chars) = rw text_is at p in
            rw (b, ← line_some true n) (put_writes {w = trimmed chars} (omega (arith, trimmed_length chars, room)) q)

        pub added_behind : {bare : Bool} {mid : List ℕ} {next : ℕ} → bare ≡ false
            → placed next mid ≡ put before at (32 ∷ [])
            → placed end after ≡ put mid next (take (from + len - from) (drop from chars))
            → Writes before at (added_line bare chars) after end
        added_behind {bare} {mid} {next} b p q =
            let front : Writes before at (32 ∷ []) mid next = put_writes {w = 32 ∷ []} (omega arith) p in
            let v : placed end after ≡ put mid next (trimmed chars) = rw text_is at q in
            let back : Writes mid next (trimmed chars) after end =
            put_writes {w = trimmed chars} (omega (arith, front.end, front.kept, trimmed_length chars, room)) v in
            rw (b, ← line_some false n) (writes_join front back)

-- ── a text that is put, line by line ──

pub bare_down : {down bare : Bool} (t : List ℕ) → down ≡ true → bare ≡ true → bare ≡ (down || is_empty t)
bare_down t d b = rw (d, b) refl

pub bare_along : {down bare : Bool} (at : ℕ) {end : ℕ} (t : List ℕ) → end ≡ at + length t → down ≡ false
    → bare ≡ eqb end at → bare ≡ (down || is_empty t)
bare_along {down} {bare} at {end} t e d b = rw d (b ∙ go t e)
  where
    go : (t : List ℕ) → end ≡ at + length t → eqb end at ≡ is_empty t
    go [] e = eq-eqb end at (omega arith)
    go (c ∷ t) e = ne_eqb end at (λ q. absurd (omega arith))

pub text_start : (row : List ℕ) (a b : ℕ) (before : List ℕ) (at : ℕ)
    → Writes before at (cell_text (cell_at row 0 a (b - a))) before at
text_start row a b before at = rw (cell_none row a (b - a)) (writes_none before at)

module _ (row : List ℕ) (j a b : ℕ) {before cells : List ℕ} {at end : ℕ}
    (w : Writes before at (cell_text (cell_at row j a (b - a))) cells end)
  where
    pub line_room : j < 4 → a ≤ b → b ≤ 65 → 260 ≤ length row → at + 4 * (1 + (b - a)) ≤ length before
        → end + (1 + length (take (65 * j + b - (65 * j + a)) (drop (65 * j + a) row))) ≤ length cells
    line_room lt le le' fits room = omega (
      arith,
      w.end,
      w.kept,
      length_three row a (b - a) j lt,
      length-take (65 * j + b - (65 * j + a)) (drop (65 * j + a) row),
    )

    pub text_next : {bare : Bool} {after : List ℕ} {next : ℕ}
        → bare ≡ (eqb ((b - a + 1) / 2) 1 || is_empty (cell_text (cell_at row j a (b - a))))
        → Writes cells end (added_line bare (take (65 * j + b - (65 * j + a)) (drop (65 * j + a) row))) after next
        → Writes before at (cell_text (cell_at row (j + 1) a (b - a))) after next
    text_next e v =
        let k : 65 * j + b - (65 * j + a) ≡ b - a = omega arith in
        rw (add-one j, cell_more row a (b - a) j) (writes_join w (rw (k, e) at v))
