-- A run that begins with the numbers of some entries: what it says of each, and one entry more.
use mathlib.Core.Path.{◌≡◌, refl, sym, ◌∙◌, ap}
use mathlib.Core.Bool.{true}
use mathlib.Core.List.{List, [], ◌∷◌, ◌++◌, append_assoc}
use Prim.Native.Nat.{ℕ, zero, suc, ◌+◌, ◌*◌, ◌<◌, ◌≤◌}
use native.Mathlib.Omega.{arith}
use lib.ListN.{length, get_or, take, set, length-append, length-set, get_or-append}
use lib.Seq.{get_or-take, take-suc-set, take-set-le}
use Rattle.base.specs.Lists.{joined}
use Rattle.rules.specs.Fields.{Field}
use Rattle.rules.specs.Within.{index_readable}
use Rattle.rules.specs.Reading.{Entry, absent, value_in, numbers_of, Step, step, stop}
use Rattle.packets.specs.declared.steps.Numbers.{Numbers}
use Rattle.packets.specs.StoredTrees.{run_value}
use Rattle.packets.specs.Steps.{numbers_in}
use Rattle.packets.specs.Walks.{put_at, run_with}

-- the run begins with the numbers of the entries
abbrev pub Begins : List ℕ → List Entry → Type 0
Begins run entries = take (4 * length entries) run ≡ joined numbers_of entries

-- ── one entry's numbers ──

joined_at : (es : List Entry) (i k : ℕ) → i < length es → k < 4
    → get_or (joined numbers_of es) (4 * i + k) 0 ≡ get_or (numbers_of (get_or es i absent)) k 0
unfolding joined
joined_at [] i k lt h = absurd (omega arith)
joined_at (e ∷ es) zero k lt h =
    let z : 4 * 0 + k ≡ k = omega arith in
    rw z (get_or-append (numbers_of e) (joined numbers_of es) 0 k h)
joined_at (e ∷ es) (suc i) k lt h =
    let z : 4 * suc i + k ≡ suc (suc (suc (suc (4 * i + k)))) = omega arith in
    rw z (joined_at es i k (omega arith) h)

pub run_number : (run : List ℕ) (es : List Entry) (i k : ℕ) → Begins run es → i < length es → k < 4
    → get_or run (4 * i + k) 0 ≡ get_or (numbers_of (get_or es i absent)) k 0
run_number run es i k b lt h =
    let j : 4 * i + k < 4 * length es = omega arith in
    sym (get_or-take (4 * length es) run (4 * i + k) 0 j) ∙ rw b (joined_at es i k lt h)

pub run_present : (run : List ℕ) (es : List Entry) (i : ℕ) → Begins run es → i < length es
    → get_or run (4 * i) 0 ≡ (get_or es i absent).present
run_present run es i b lt =
    let z : 4 * i + 0 ≡ 4 * i = omega arith in
    rw z at (run_number run es i 0 b lt (omega arith))

pub run_value_lem : (run : List ℕ) (es : List Entry) (i : ℕ) → Begins run es → i < length es
    → value_in es i ≡ run_value run i
unfolding value_in
run_value_lem run es i b lt =
    rw (run_present run es i b lt, run_number run es i 3 b lt (omega arith))

-- ── one entry more ──

pub length_joined : (es : List Entry) → length (joined numbers_of es) ≡ 4 * length es
unfolding joined
length_joined [] = refl
length_joined (e ∷ es) = omega (arith, length_joined es, length-append (numbers_of e) (joined numbers_of es))

pub joined_more : (es : List Entry) (e : Entry)
    → joined numbers_of (es ++ (e ∷ [])) ≡ joined numbers_of es ++ numbers_of e
unfolding joined
joined_more [] e = refl
joined_more (d ∷ es) e = rw (joined_more es e, append_assoc (numbers_of d) (joined numbers_of es) (numbers_of e))

put_take : (run : List ℕ) (i : ℕ) (e : Entry) → 4 * i + 4 ≤ length run
    → take (4 * i + 4) (put_at run i (numbers_in e)) ≡ take (4 * i) run ++ numbers_of e
unfolding put_at
put_take run i e h =
    let a = 4 * i in
    let r₁ = set run a e.present in
    let r₂ = set r₁ (a + 1) e.offset in
    let r₃ = set r₂ (a + 2) e.width in
    let l₁ : length r₁ ≡ length run = length-set run a e.present in
    let l₂ : length r₂ ≡ length r₁ = length-set r₁ (a + 1) e.offset in
    let l₃ : length r₃ ≡ length r₂ = length-set r₂ (a + 2) e.width in
    let e₀ : take (suc a) r₁ ≡ take a run ++ (e.present ∷ []) = take-suc-set run a e.present (omega arith) in
    let e₁ : take (suc (a + 1)) r₂ ≡ take (a + 1) r₁ ++ (e.offset ∷ []) =
    take-suc-set r₁ (a + 1) e.offset (omega arith) in
    let e₂ : take (suc (a + 2)) r₃ ≡ take (a + 2) r₂ ++ (e.width ∷ []) =
    take-suc-set r₂ (a + 2) e.width (omega arith) in
    let e₃ : take (suc (a + 3)) (set r₃ (a + 3) e.value) ≡ take (a + 3) r₃ ++ (e.value ∷ []) =
    take-suc-set r₃ (a + 3) e.value (omega arith) in
    let n₁ : a + 1 ≡ suc a = omega arith in
    let n₂ : a + 2 ≡ suc (a + 1) = omega arith in
    let n₃ : a + 3 ≡ suc (a + 2) = omega arith in
    let n₄ : a + 4 ≡ suc (a + 3) = omega arith in
    let f₁ : take (a + 1) r₁ ≡ take a run ++ (e.present ∷ []) = ap (λ k. take k r₁) n₁ ∙ e₀ in
    let f₂ : take (a + 2) r₂ ≡ (take a run ++ (e.present ∷ [])) ++ (e.offset ∷ []) =
    ap (λ k. take k r₂) n₂ ∙ e₁ ∙ ap (λ l. l ++ (e.offset ∷ [])) f₁ in
    let f₃ : take (a + 3) r₃ ≡ ((take a run ++ (e.present ∷ [])) ++ (e.offset ∷ [])) ++ (e.width ∷ []) =
    ap (λ k. take k r₃) n₃ ∙ e₂ ∙ ap (λ l. l ++ (e.width ∷ [])) f₂ in
    ap (λ k. take k (set r₃ (a + 3) e.value)) n₄ ∙ e₃ ∙ ap (λ l. l ++ (e.value ∷ [])) f₃
    ∙ simp append_assoc

pub put_begins : (run : List ℕ) (es : List Entry) (e : Entry) → Begins run es → 4 * length es + 4 ≤ length run
    → Begins (put_at run (length es) (numbers_in e)) (es ++ (e ∷ []))
put_begins run es e b h =
    let n : 4 * length (es ++ (e ∷ [])) ≡ 4 * length es + 4 = omega (arith, length-append es (e ∷ [])) in
    rw (n, joined_more es e, ← b) (put_take run (length es) e h)

-- what stands before an entry stays
pub put_keeps : (run : List ℕ) (es : List Entry) (i : ℕ) (e : Numbers) → length es ≤ i → Begins run es
    → Begins (put_at run i e) es
unfolding put_at
put_keeps run es i e h b =
    let r₁ = set run (4 * i) e.present in
    let r₂ = set r₁ (4 * i + 1) e.offset in
    let r₃ = set r₂ (4 * i + 2) e.width in
    take-set-le (4 * length es) r₃ (4 * i + 3) e.value (omega arith)
    ∙ take-set-le (4 * length es) r₂ (4 * i + 2) e.width (omega arith)
    ∙ take-set-le (4 * length es) r₁ (4 * i + 1) e.offset (omega arith)
    ∙ take-set-le (4 * length es) run (4 * i) e.present (omega arith) ∙ b

pub with_keeps : (run : List ℕ) (es : List Entry) (s : Step) → Begins run es → Begins (run_with run (length es) s) es
with_keeps run es (step e next) b = put_keeps run es (length es) _ (omega arith) b
with_keeps run es (stop f) b = b

-- ── what may be read ──

pub readable_listed : (before : List (Field ℕ)) (i : ℕ) → index_readable before i ≡ true → i < length before
readable_listed [] i h = let z : ◌≡◌ {A = ℕ} 0 1 = cc in absurd (omega arith)
readable_listed (f ∷ before) zero h = omega arith
readable_listed (f ∷ before) (suc i) h = let q = readable_listed before i h in omega arith

-- the run's values are the entries' values, where they may be read
pub run_agrees : (before : List (Field ℕ)) (es : List Entry) (run : List ℕ) → length es ≡ length before → Begins run es
    → (i : ℕ) → index_readable before i ≡ true → run_value run i ≡ value_in es i
run_agrees before es run e b i h =
    let lt = readable_listed before i h in
    sym (run_value_lem run es i b (omega arith))
