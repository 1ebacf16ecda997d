-- A word's key, byte by byte; names that their keys tell apart.
use mathlib.Core.Path.{◌≡◌, refl, ◌∙◌, ap}
use mathlib.Core.Bool.{Bool, true, false, cond, ◌&&◌, not}
use mathlib.Core.List.{List, []}
use Prim.Native.Nat.{ℕ, ◌+◌, ◌*◌, ◌%◌, ◌<◌}
use native.Mathlib.Numerals.{add-one}
use lib.Dec.{eqb}
use lib.ListN.{length, drop, get_or, set, length-set}
use lib.Seq.{drop-cons, drop-length}
use Rattle.base.specs.Lists.{same}
use Rattle.base.proofs.Lists.{and_left, and_right, not_both, fails, same_true}
use Rattle.base.proofs.Breaks.{or_true}
use borrow.Author.Tests.{eqb-true, eq-eqb}
use native.Mathlib.Omega.{arith}
use Rattle.names.specs.Repeats.{remainders, name_number, same_name, names_meet, names_alike}
use Rattle.names.specs.Keys.{key_part, key_from, is_new, start_of_both}
use Rattle.names.proofs.PairLaws.{Inner, Seen, seen_on, seen_kept, inner_starts, inner_none}

pub key_step : (w : List ℕ) (key i b : ℕ) → i < length w → b ≡ get_or w i 0
    → key_from key (drop i w) ≡ key_from (key % key_part * 256 + b) (drop (i + 1) w)
unfolding key_from
key_step w key i b lt e = rw (drop-cons w i 0 lt, add-one i, e)

pub key_end : (w : List ℕ) (key i : ℕ) → i ≡ length w → key_from key (drop i w) ≡ key
unfolding key_from
key_end w key i e = rw (e, drop-length w)

-- words that any function of them tells apart differ
pub keys_apart : (key : List ℕ → ℕ) (a b : List ℕ) → (key a ≡ key b → ⊥) → same a b ≡ false
keys_apart key a b h = fails (same a b) (λ e. h (ap key (same_true a b e)))

-- held names that are the same are names, and have one key
pub same_keys : (a b : List ℕ) → same_name a b ≡ true → (get_or a 0 0 ≡ 0 → ⊥) × (a ≡ b)
unfolding same_name
same_keys a b h = (
  λ z. not_both (not (eqb (get_or a 0 0) 0)) (and_left _ (same a b) h) (rw (eq-eqb _ _ z)),
  same_true a b (and_right (not (eqb (get_or a 0 0) 0)) (same a b) h),
)

-- a name that is new is none of those whose keys were seen
pub new_apart : (seen a b : List ℕ) → is_new seen b ≡ true → get_or seen (name_number a % remainders) 0 ≡ 1
    → same_name a b ≡ false
unfolding is_new
new_apart seen a b n one = fails (same_name a b) (λ h.
    let k = same_keys a b h in
    let e : a ≡ b = k.1 in
    or_true (eqb (get_or b 0 0) 0) (eqb (get_or seen (name_number b % remainders) 0) 0)
    (λ z. k.0 (rw e (eqb-true _ _ z)))
    (λ z. let u : get_or seen (name_number a % remainders) 0 ≡ 0 = rw e (eqb-true _ _ z) in omega arith)
    n)

pub new_apart_turned : (seen a b : List ℕ) → is_new seen b ≡ true → get_or seen (name_number a % remainders) 0 ≡ 1
    → same_name b a ≡ false
new_apart_turned seen a b n one = fails (same_name b a) (λ h.
    let k = same_keys b a h in
    let other : same_name a b ≡ true = rw k.1 (rw k.1 at h) in
    not_both (same_name a b) other (new_apart seen a b n one))

-- ── names of two sorts, that may meet ──

module _ (shorts words : List (List ℕ)) where
  -- the keys of the short names and of the labels before j are seen
  abbrev pub BothSeen : ℕ → List ℕ → Type 0
  BothSeen j seen = Seen (λ k. name_number (get_or shorts k [])) j seen × Seen
      (λ k. name_number (get_or words k [])) j seen

  -- one more of each
  pub both_on : (j : ℕ) (seen : List ℕ) → length seen ≡ remainders → BothSeen j seen
      → BothSeen (j + 1)
      (set (set seen (name_number (get_or shorts j []) % remainders) 1)
      (name_number (get_or words j []) % remainders) 1)
  both_on j seen size h =
      let a = name_number (get_or shorts j []) % remainders in
      let b = name_number (get_or words j []) % remainders in
      let long : length (set seen a 1) ≡ remainders = length-set seen a 1 ∙ size in (
        seen_kept (λ k. name_number (get_or shorts k [])) (j + 1) (set seen a 1) b (omega arith)
            (seen_on (λ k. name_number (get_or shorts k [])) j seen size h.0),
        seen_on (λ k. name_number (get_or words k [])) j (set seen a 1) long
            (seen_kept (λ k. name_number (get_or words k [])) j seen a (omega arith) h.1),
      )

  -- where both names of j are new, no earlier names meet them
  pub both_from : (j : ℕ) (seen : List ℕ) → BothSeen j seen
      → Inner (names_alike shorts words) j (start_of_both seen (get_or shorts j []) (get_or words j []) j)
  unfolding start_of_both names_meet
  both_from j seen h = go (is_new seen a && is_new seen v) refl
    where
      a : List ℕ
      a = get_or shorts j []

      v : List ℕ
      v = get_or words j []

      apart : is_new seen a ≡ true → is_new seen v ≡ true → (k : ℕ) → k < j → names_alike shorts words k j ≡ false
      apart p q k lt =
          rw (
            new_apart seen (get_or shorts k []) a p (h.0 k lt),
            new_apart seen (get_or shorts k []) v q (h.0 k lt),
            new_apart_turned seen (get_or words k []) a p (h.1 k lt),
          )
          refl

      go : (b : Bool) → (is_new seen a && is_new seen v) ≡ b → Inner (names_alike shorts words) j (cond b j 0)
      go true t = inner_none (names_alike shorts words) j
          (apart (and_left (is_new seen a) (is_new seen v) t) (and_right (is_new seen a) (is_new seen v) t))
      go false t = inner_starts (names_alike shorts words) j
