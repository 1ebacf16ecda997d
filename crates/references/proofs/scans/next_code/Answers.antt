use mathlib.Core.Path.{◌≡◌, ap}
use Prim.Native.Nat.{ℕ, suc, ◌+◌}
use native.Mathlib.Omega.{arith}
use lib.ListN.{drop, get_or}
use Rattle.references.proofs.ScanLaws.{codes_next, codes_last, behind_number, behind_field, behind_other}
use Rattle.references.proofs.scans.next_code.Goals as goal

pub returns-then-left-lt5 : goal.returns-then-left-lt5
returns-then-left-lt5 c =
    let s = c.args.expression.now in
    let at = c.args.at in
    let b = behind_number (get_or s at 0) c.if-code-eq-NUMBER_CODE.true in
    (codes_last s at 4 (omega arith) b (omega arith), omega arith, omega arith)

pub returns-then-code-eq-NUMBER_CODE : goal.returns-then-code-eq-NUMBER_CODE
returns-then-code-eq-NUMBER_CODE c =
    let s = c.args.expression.now in
    let at = c.args.at in
    let b = behind_number (get_or s at 0) c.if-code-eq-NUMBER_CODE.true in
    let n : suc at + 4 ≡ at + 5 = omega arith in
    (codes_next s at 4 (at + 5) (omega arith) b (ap (λ (k : ℕ). drop k s) n), omega arith, omega arith)

pub returns-then-left-lt2 : goal.returns-then-left-lt2
returns-then-left-lt2 c =
    let s = c.args.expression.now in
    let at = c.args.at in
    let b = behind_field (get_or s at 0) c.if-code-eq-FIELD_CODE.true in
    (codes_last s at 1 (omega arith) b (omega arith), omega arith, omega arith)

pub returns-then-code-eq-FIELD_CODE : goal.returns-then-code-eq-FIELD_CODE
returns-then-code-eq-FIELD_CODE c =
    let s = c.args.expression.now in
    let at = c.args.at in
    let b = behind_field (get_or s at 0) c.if-code-eq-FIELD_CODE.true in
    let n : suc at + 1 ≡ at + 2 = omega arith in
    (codes_next s at 1 (at + 2) (omega arith) b (ap (λ (k : ℕ). drop k s) n), omega arith, omega arith)

pub returns : goal.returns
returns c =
    let s = c.args.expression.now in
    let at = c.args.at in
    let b = behind_other (get_or s at 0) c.if-code-eq-NUMBER_CODE.false c.if-code-eq-FIELD_CODE.false in
    let n : suc at + 0 ≡ at + 1 = omega arith in
    (codes_next s at 0 (at + 1) (omega arith) b (ap (λ (k : ℕ). drop k s) n), omega arith, omega arith)
