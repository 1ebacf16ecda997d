-- A field's names held against those of earlier fields: the search, and what it says of the fields.
use mathlib.Core.Path.{◌≡◌, ap, sym, ◌∙◌}
use mathlib.Core.Bool.{true, false}
use mathlib.Core.List.{List, []}
use mathlib.Core.Option.{some}
use Prim.Native.Nat.{ℕ, ◌+◌, ◌-◌, ◌≤◌, ◌<◌}
use native.Mathlib.Omega.{arith}
use native.Mathlib.Nat.{sub-zero}
use lib.ListN.{length, get_or, get_elem?}
use lib.Seq.{take-length}
use borrow.Author.Tests.{lt-ltb, le-ltb}
use Rattle.base.specs.Lists.{any, if_any}
use Rattle.rules.specs.Limits.{label_most}
use Rattle.rules.specs.Names.{is_label, is_short}
use Rattle.rules.specs.Fields.{Form}
use Rattle.rules.specs.Within.{clash}
use Rattle.names.specs.Repeats.{first_from, pad_to}
use Rattle.names.proofs.PadLaws.{label_same}
use Rattle.names.proofs.ClashLaws.{clash_held_lem}
use Rattle.texts.specs.HeldNames.{Names, HeldAs, clash_held, any_clash}
use Rattle.texts.proofs.FirstBreaks.{any_search}
use Rattle.texts.proofs.LineSearches.{search_found, search_next, search_none}

-- ── the search ──

module _ (labels shorts words : List (List ℕ)) (n i : ℕ) where
  -- no field before i shares a name with that of index n
  abbrev pub Left : Type 0
  Left = (i ≤ n)
      × (first_from (clash_held labels shorts words n) 0 n ≡ first_from (clash_held labels shorts words n) i (n - i))

  pub clash_none : n ≤ i → Left → false ≡ any_clash labels shorts words n
  unfolding any_clash
  clash_none le so =
      let e = search_none (clash_held labels shorts words n) n i le so.0 so.1 in
      sym (le-ltb (first_from (clash_held labels shorts words n) 0 n) n (omega (arith, e)))

  pub clash_here : i < n → Left → clash_held labels shorts words n i ≡ true → true ≡ any_clash labels shorts words n
  unfolding any_clash
  clash_here lt so h =
      let e = search_found (clash_held labels shorts words n) n i lt so.1 h in
      sym (lt-ltb (first_from (clash_held labels shorts words n) 0 n) n (omega (arith, e)))

pub clash_start : (labels shorts words : List (List ℕ)) (n : ℕ) → Left labels shorts words n 0
clash_start labels shorts words n = (omega arith, rw sub-zero)

pub clash_next : (labels shorts words : List (List ℕ)) (n i : ℕ) → i < n → Left labels shorts words n i
    → clash_held labels shorts words n i ≡ false → Left labels shorts words n (i + 1)
clash_next labels shorts words n i lt so h =
    (omega arith, search_next (clash_held labels shorts words n) n i lt so.1 h)

-- ── the fields whose names are held ──

-- label and short name have their form
abbrev pub NamesFormed : Form → Type 0
NamesFormed x = (is_label x.label ≡ true) × (if_any is_short x.short ≡ true)

-- and are held, with the whole label
abbrev pub WholeHeld : List (List ℕ) → Names → ℕ → Form → Type 0
WholeHeld labels names i x = (get_or labels i [] ≡ pad_to label_most x.label) × HeldAs names i x

pub clash_any : (fs : List Form) (x : Form) (labels : List (List ℕ)) (names : Names) → NamesFormed x
    → WholeHeld labels names (length fs) x → ((i : ℕ) (y : Form) → get_elem? fs i ≡ some y → NamesFormed y)
    → ((i : ℕ) (y : Form) → get_elem? fs i ≡ some y → WholeHeld labels names i y)
    → any_clash labels names.shorts names.words (length fs) ≡ any (clash x) fs
unfolding any_clash clash_held
clash_any fs x labels names formed own each held =
    any_search (clash x) (clash_held labels names.shorts names.words (length fs)) fs (length fs) (omega arith) one
    ∙ ap (any (clash x)) (take-length fs)
  where
    one : (i : ℕ) (y : Form) → i < length fs → get_elem? fs i ≡ some y
        → clash_held labels names.shorts names.words (length fs) i ≡ clash x y
    one i y lt e =
        let h = held i y e in
        rw (
          own.0,
          own.1.short,
          own.1.word,
          h.0,
          h.1.short,
          h.1.word,
          label_same x.label y.label formed.0 (each i y e).0,
        )
        (sym (clash_held_lem x y formed.1 (each i y e).1))
