-- With rows of one line, the reader that leaves no bad row stops right behind lines that are right. [02, R-1]
use mathlib.Core.Path.{◌≡◌, refl, ap, ◌∙◌}
use mathlib.Core.Bool.{Bool, true, false, cond}
use mathlib.Core.List.{List, [], ◌∷◌, ◌++◌}
use mathlib.Core.Option.{Option, none, some, none-ne-some, some-injective}
use Prim.Native.Nat.{ℕ, suc, ◌+◌, ◌≤◌}
use native.Mathlib.Omega.{arith}
use lib.ListN.{length, length-append, take}
use borrow.Author.Tests.{eqb-true}
use Rattle.base.specs.Lists.{all}
use Rattle.base.proofs.Lists.{all_back, not_both}
use Rattle.base.proofs.Breaks.{all_cons}
use Rattle.rules.specs.Rows.{Row, row_lines, is_labelled}
use Rattle.text_laws.specs.FrameReader.{Top, State, begun, named, spaced, ruled, counted, bordered, rowed}
use Rattle.text_laws.specs.FrameReader.{closed, headed, filled, step, run, on_state, rows_in, strict, leave}
use Rattle.text_laws.specs.FrameReader.{strict_run, stop_at, strict_place, more_row}
use Rattle.text_laws.proofs.FrameStrict.{Labelled, more_labelled, strict_labelled, strict_some}
use Rattle.text_laws.proofs.FramePlace.{OnState}
use Rattle.text_laws.proofs.FrameRun.{run_one, step_more}
use Rattle.text_laws.proofs.RowReader.{Reads, more_sound}
use Rattle.text_laws.proofs.RowEditions.{is_one_line}

-- ── where it stops ──

stop_fine : (n : ℕ) (s : State) → all is_labelled (rows_in s) ≡ true → stop_at n s ≡ suc n
stop_fine n begun a = refl
stop_fine n (named an m) a = refl
stop_fine n (spaced an m) a = refl
stop_fine n (ruled h) a = refl
stop_fine n (counted h) a = refl
stop_fine n (bordered h rows) a = refl
stop_fine n (rowed h rows r) a =
    rw (all_cons is_labelled r [] (all_back is_labelled rows (r ∷ []) a)).0 refl
stop_fine n (closed h rows) a = refl
stop_fine n (headed h rows) a = refl
stop_fine n (filled h rows ls) a = refl

stop_least : (n : ℕ) (s : State) → n ≤ stop_at n s
stop_least n begun = omega arith
stop_least n (named an m) = omega arith
stop_least n (spaced an m) = omega arith
stop_least n (ruled h) = omega arith
stop_least n (counted h) = omega arith
stop_least n (bordered h rows) = omega arith
stop_least n (rowed h rows r) = go (is_labelled r)
  where
    go : (b : Bool) → n ≤ cond b (suc n) n
    go true = omega arith
    go false = omega arith
stop_least n (closed h rows) = omega arith
stop_least n (headed h rows) = omega arith
stop_least n (filled h rows ls) = omega arith

place_least : (ls : List (List ℕ)) (n : ℕ) (s : State) → n ≤ strict_place n s ls
unfolding strict_place
place_least [] n s = stop_least n s
place_least (l ∷ ls) n s = go (strict s l) (place_least ls)
  where
    go : (o : Option State) → ((m : ℕ) (q : State) → m ≤ strict_place m q ls)
        → n ≤ on_state (stop_at n s) (λ q. strict_place (suc n) q ls) o
    go none f = stop_least n s
    go (some q) f = let h = f (suc n) q in omega (arith, h)

-- behind lines that it reads, where no row is bad
pub place_bound : (a b : List (List ℕ)) (n : ℕ) (s q : State) → strict_run s a ≡ some q
    → all is_labelled (rows_in q) ≡ true → suc (n + length a) ≤ strict_place n s (a ++ b)
unfolding strict_run strict_place
place_bound [] [] n s q e f =
    let h : stop_at n s ≡ suc n = ap (stop_at n) (some-injective s q e) ∙ stop_fine n q f in
    omega (arith, h)
place_bound [] (l ∷ b) n s q e f = go (strict s l)
  where
    h : stop_at n s ≡ suc n
    h = ap (stop_at n) (some-injective s q e) ∙ stop_fine n q f

    go : (o : Option State) → suc (n + 0) ≤ on_state (stop_at n s) (λ q. strict_place (suc n) q b) o
    go none = omega (arith, h)
    go (some x) = let k = place_least b (suc n) x in omega (arith, k)
place_bound (l ∷ a) b n s q e f = go (strict s l) e (place_bound a b)
  where
    go : (o : Option State) → on_state none (λ x. strict_run x a) o ≡ some q
        → ((n : ℕ) (s q : State) → strict_run s a ≡ some q → all is_labelled (rows_in q) ≡ true
        → suc (n + length a) ≤ strict_place n s (a ++ b))
        → suc (n + suc (length a)) ≤ on_state (stop_at n s) (λ q. strict_place (suc n) q (a ++ b)) o
    go none e r = absurd (none-ne-some q e)
    go (some x) e r = let k = r (suc n) x q e f in omega (arith, k)

-- ── with rows of one line it stops right behind lines that are right ──

bad_state : (s : State) → Labelled s → all is_labelled (rows_in s) ≡ false
    → (h : Top) × (rows : List Row) × (r : Row) × (s ≡ rowed h rows r) × (is_labelled r ≡ false)
bad_state begun a b = absurd (not_both (all is_labelled []) a b)
bad_state (named an n) a b = absurd (not_both (all is_labelled []) a b)
bad_state (spaced an n) a b = absurd (not_both (all is_labelled []) a b)
bad_state (ruled h) a b = absurd (not_both (all is_labelled []) a b)
bad_state (counted h) a b = absurd (not_both (all is_labelled []) a b)
bad_state (bordered h rows) a b = absurd (not_both (all is_labelled rows) a b)
bad_state (rowed h rows r) a b = go (is_labelled r) refl
  where
    go : (c : Bool) → is_labelled r ≡ c
        → (h' : Top) × (rows' : List Row) × (r' : Row) × (rowed h rows r ≡ rowed h' rows' r') × (is_labelled r' ≡ false)
    go true e = absurd (not_both (all is_labelled (rows ++ (r ∷ []))) (more_labelled rows r a e) b)
    go false e = (h, rows, r, refl, e)
bad_state (closed h rows) a b = absurd (not_both (all is_labelled rows) a b)
bad_state (headed h rows) a b = absurd (not_both (all is_labelled rows) a b)
bad_state (filled h rows ls) a b = absurd (not_both (all is_labelled rows) a b)

-- a bad row of one line
bad_place : (n : ℕ) (h : Top) (rows : List Row) (r : Row) (ls : List (List ℕ)) → is_labelled r ≡ false
    → is_one_line r ≡ true
    → ((l : List ℕ) (more : List (List ℕ)) (x : Row) → ls ≡ l ∷ more → more_row h.row_width r l ≡ some x
    → is_one_line x ≡ true)
    → strict_place n (rowed h rows r) ls ≡ n
unfolding strict_place strict
bad_place n h rows r [] bad one f = rw bad refl
bad_place n h rows r (l ∷ ls) bad one f = go (more_row h.row_width r l) refl (more_sound h.row_width r l)
  where
    go : (o : Option Row) → more_row h.row_width r l ≡ o → Reads h.row_width (row_lines r ++ (l ∷ [])) o
        → on_state (stop_at n (rowed h rows r)) (λ q. strict_place (suc n) q ls) (leave h rows r l o) ≡ n
    go none e k = unfold leave in rw bad refl
    go (some x) e k =
        let a = eqb-true (length (row_lines r)) 1 one in
        let b = eqb-true (length (row_lines x)) 1 (f l ls x refl e) in
        let c = ap length k.1 in
        let d = length-append (row_lines r) (l ∷ []) in
        absurd (omega (arith, a, b, c, d))

pub record Stops (n : ℕ) (s : State) (ls : List (List ℕ)) : Type 0 where
  pub count : ℕ
  pub state : State
  pub there : count ≤ length ls
  pub place : strict_place n s ls ≡ suc (n + count)
  pub ran : run s (take count ls) ≡ some state
  pub fine : all is_labelled (rows_in state) ≡ true

-- all rows on the way have one line
abbrev pub AllOne : State → List (List ℕ) → Type 0
AllOne s ls = (m : ℕ) (q : State) → m ≤ length ls → run s (take m ls) ≡ some q → all is_one_line (rows_in q) ≡ true

last_one : (rows : List Row) (r : Row) → all is_one_line (rows ++ (r ∷ [])) ≡ true → is_one_line r ≡ true
last_one rows r a = (all_cons is_one_line r [] (all_back is_one_line rows (r ∷ []) a)).0

-- at a line in such a state
module _ (l : List ℕ) (ls : List (List ℕ)) (n : ℕ) (s : State) (f : all is_labelled (rows_in s) ≡ true)
    (one : AllOne s (l ∷ ls)) where
  next_one : (q : State) → step s l ≡ some q → AllOne q ls
  next_one q e m x le g = one (suc m) x (omega (arith, le)) (run_one s q l (take m ls) e ∙ g)

  stops_here : on_state (stop_at n s) (λ q. strict_place (suc n) q ls) (strict s l) ≡ suc n → Stops n s (l ∷ ls)
  unfolding strict_place run
  stops_here e = record {
    count = 0;
    state = s;
    there = omega arith;
    place = (let z : n + 0 ≡ n = omega arith in rw z e);
    ran = refl;
    fine = f;
  }

  stops_later : (q : State) → strict s l ≡ some q → Stops (suc n) q ls → Stops n s (l ∷ ls)
  unfolding strict_place
  stops_later q e w = record {
    count = suc w.count;
    state = w.state;
    there = (let k = w.there in omega (arith, k));
    place =
        (let z : suc (suc n + w.count) ≡ suc (n + suc w.count) = omega arith in
        ap (on_state (stop_at n s) (λ q. strict_place (suc n) q ls)) e ∙ w.place ∙ z);
    ran = run_one s q l (take w.count ls) (strict_some s q l e) ∙ w.ran;
    fine = w.fine;
  }

  -- behind it there is a bad row
  stops_in_row : (q : State) → strict s l ≡ some q → (h : Top) (rows : List Row) (r : Row) → q ≡ rowed h rows r
      → is_labelled r ≡ false → Stops n s (l ∷ ls)
  unfolding run
  stops_in_row q e h rows r k bad =
      let t : step s l ≡ some (rowed h rows r) = strict_some s q l e ∙ ap (λ (x : State). some x) k in
      let p : strict_place (suc n) (rowed h rows r) ls ≡ suc n =
      bad_place (suc n) h rows r ls bad
      (last_one rows r (next_one (rowed h rows r) t 0 (rowed h rows r) (omega arith) refl))
      (λ m more x u g.
      last_one rows x (next_one (rowed h rows r) t 1 (rowed h rows x)
      (let z = ap length u in omega (arith, z))
      (ap (λ (y : List (List ℕ)). run (rowed h rows r) (take 1 y)) u
      ∙ run_one (rowed h rows r) (rowed h rows x) m [] (step_more h rows r x m g)))) in
      stops_here (ap (on_state (stop_at n s) (λ q. strict_place (suc n) q ls)) (e ∙ ap (λ (x : State). some x) k) ∙ p)

pub stops : (ls : List (List ℕ)) (n : ℕ) (s : State) → Labelled s → all is_labelled (rows_in s) ≡ true → AllOne s ls
    → Stops n s ls
unfolding strict_place run
stops [] n s a f one = record {
  count = 0;
  state = s;
  there = omega arith;
  place = (let z : n + 0 ≡ n = omega arith in rw z (stop_fine n s f));
  ran = refl;
  fine = f;
}
stops (l ∷ ls) n s a f one = go (strict s l) refl (strict_labelled s l a) (stops ls)
  where
    go : (o : Option State) → strict s l ≡ o → OnState Labelled o
        → ((m : ℕ) (q : State) → Labelled q → all is_labelled (rows_in q) ≡ true → AllOne q ls → Stops m q ls)
        → Stops n s (l ∷ ls)
    go none e b r =
        stops_here l ls n s f one (ap (on_state (stop_at n s) (λ q. strict_place (suc n) q ls)) e ∙ stop_fine n s f)
    go (some q) e b r = on (all is_labelled (rows_in q)) refl
      where
        on : (c : Bool) → all is_labelled (rows_in q) ≡ c → Stops n s (l ∷ ls)
        on true k =
            stops_later l ls n s f one q e (r (suc n) q b k (next_one l ls n s f one q (strict_some s q l e)))
        on false k =
            let w = bad_state q b k in
            stops_in_row l ls n s f one q e w.0 w.1 w.2 w.3 w.4
