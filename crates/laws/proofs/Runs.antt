-- A run of fields between others.
use mathlib.Core.Path.{◌≡◌, sym, ◌∙◌}
use mathlib.Core.List.{List, ◌++◌}
use Prim.Native.Nat.{ℕ, suc, ◌+◌, ◌≤◌, ◌<◌}
use native.Mathlib.Omega.{arith}
use lib.ListN.{length, take, drop, take-append-drop, length-drop}
use lib.Seq.{take-append_seam, drop-append_seam, drop-append-add, length-take-le}
use Rattle.rules.specs.Fields.{Field}
use Rattle.rules.specs.Edits.{run_length, run, remaining}

-- fields xs, a run gs from first to last, and fields ys
module _ (xs gs ys : List (Field ℕ)) (first last : ℕ) (start : length xs ≡ first) (end : suc last ≡ first + length gs)
  where
    before_run : take first (xs ++ (gs ++ ys)) ≡ xs
    before_run = rw (← start) (take-append_seam xs (gs ++ ys))

    from_run : drop first (xs ++ (gs ++ ys)) ≡ gs ++ ys
    from_run = rw (← start) (drop-append_seam xs (gs ++ ys))

    behind_run : drop (suc last) (xs ++ (gs ++ ys)) ≡ ys
    behind_run = rw (end, ← start) (drop-append-add xs (gs ++ ys) (length gs) ∙ drop-append_seam gs ys)

    size : run_length first last ≡ length gs
    size = omega (arith, end)

    pub remaining_between : remaining first last (xs ++ (gs ++ ys)) ≡ xs ++ ys
    remaining_between = rw (before_run, behind_run)

    pub run_between : run first last (xs ++ (gs ++ ys)) ≡ gs
    run_between = rw (from_run, size) (take-append_seam gs ys)

-- fields with a run in them are those before it, the run and those behind it
pub record Split (first last : ℕ) (fs : List (Field ℕ)) : Type 0 where
  pub xs : List (Field ℕ)
  pub gs : List (Field ℕ)
  pub ys : List (Field ℕ)
  pub whole : fs ≡ xs ++ (gs ++ ys)
  pub start : length xs ≡ first
  pub end : suc last ≡ first + length gs

pub split_run : (first last : ℕ) (fs : List (Field ℕ)) → first ≤ last → last < length fs → Split first last fs
split_run first last fs low high =
    let n = run_length first last in
    let l : first ≤ length fs = omega arith in
    let m : n ≤ length (drop first fs) = rw (length-drop first fs) (omega arith) in
    record {
      xs = take first fs;
      gs = take n (drop first fs);
      ys = drop n (drop first fs);
      whole = rw (take-append-drop n (drop first fs)) (sym (take-append-drop first fs));
      start = length-take-le first fs l;
      end = rw (length-take-le n (drop first fs) m) (omega arith);
    }
