-- States of a text that comes in pieces: bytes one behind the other.
use mathlib.Core.Path.{◌≡◌, ap, ap₂, sym, ◌∙◌, subst}
use mathlib.Core.Bool.{true, false}
use mathlib.Core.List.{List, ◌++◌, foldl}
use Prim.Native.Nat.{ℕ, ◌+◌, ◌≤◌}
use native.Mathlib.Omega.{arith}
use lib.ListN.{length, take}
use Rattle.base.specs.Lists.{all}
use Rattle.rules.specs.Limits.{text_most, line_most}
use Rattle.rules.specs.Frames.{is_line}
use Rattle.rules.specs.Names.{is_printable}
use Rattle.text_laws.specs.Fold as fold
use Rattle.text_laws.proofs.FedRuns.{fed_run}
use Rattle.texts.specs.StateNumbers.{state_room}
use Rattle.texts.specs.PieceStates.{StateHolds, KeptIn, SameAround}

-- what holds k holds all that is alike
pub holds_alike : (a b : fold.Kept) (s : List ℕ) → fold.Alike a b → a.size ≡ b.size → is_line a.line ≡ true
    → length a.line ≤ line_most → StateHolds b s → StateHolds a s
holds_alike a b s same size free short h = record {
  fits = (h.fits.0, (let n = h.fits.1 in omega (arith, n, size)));
  noted = h.noted;
  used = h.used;
  free = free;
  short = short;
  kept = subst (λ (f : fold.Found). KeptIn f s) (sym same.found) h.kept;
  line = λ e. h.line (subst (λ (f : fold.Found). fold.is_lost f.stage ≡ false) same.found e)
      ∙ sym (same.line e);
  clean = h.clean;
}

-- bytes that end no line make alike of what is alike, however many came before
pub run_alike : (a b : fold.Kept) (p : List ℕ) → all is_printable p ≡ true → a.size + length p ≤ text_most
    → b.size + length p ≤ text_most → length b.line ≤ line_most → a.line ≡ b.line → a.found ≡ b.found
    → fold.Alike (foldl fold.fed a p) (foldl fold.fed b p)
run_alike a b p plain m n short l f =
    let long = ap length l in
    let x = fed_run p a plain m (omega (arith, short, long)) in
    let y = fed_run p b plain n short in
    record {
      found = ap (λ (k : fold.Kept). k.found) x
          ∙ ap₂ {C = fold.Found} (λ (g : fold.Found) (u : List ℕ). fold.unended g (u ++ p)) f l
          ∙ sym (ap (λ (k : fold.Kept). k.found) y);
      line = λ e. ap (λ (k : fold.Kept). k.line) x ∙ ap (λ (u : List ℕ). take line_most (u ++ p)) l
          ∙ sym (ap (λ (k : fold.Kept). k.line) y);
    }

-- ── what no function changes ──

pub around_trans : {a b c : List ℕ} → SameAround a b → SameAround b c → SameAround a c
around_trans x y = record {
  long = y.long ∙ x.long;
  front = y.front ∙ x.front;
  beyond = y.beyond ∙ x.beyond;
}

pub room_around : {a b : List ℕ} → SameAround a b → state_room ≤ length a → state_room ≤ length b
room_around x le = let n = x.long in omega (arith, n, le)
