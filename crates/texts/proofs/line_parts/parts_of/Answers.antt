use mathlib.Core.Path.{◌≡◌, sym, ◌∙◌}
use Prim.Native.Nat.{◌+◌, ◌≤◌}
use native.Mathlib.Omega.{arith}
use lib.ListN.{length}
use Rattle.std.specs.Prelude.{None}
use Rattle.base.specs.Bytes.{bytes}
use Rattle.texts.proofs.FieldClauses.{clause_room}
use Rattle.texts.proofs.FieldParts.{label_as, label_within, short_as, short_within}
use Rattle.texts.proofs.PartSteps.{kept_all, parts_no_label, parts_no_short, parts_no_colon, parts_behind}
use borrow.Author.Rules.{rules}
use Rattle.texts.proofs.line_parts.parts_of.Goals as goal

pub returns-in_err-label : goal.returns-in_err-label
returns-in_err-label c =
    let gone : c.from_residual.result ≡ None = grind arith in record {
      kept = kept_all _ _;
      same = rw gone (parts_no_label c.args.s.now c.label_at.ensures.same c.in_err-label.was);
    }

pub short_at-requires : goal.short_at-requires
short_at-requires c =
    (label_within _ _ c.in_ok-label.was c.label_at.ensures.place).1

pub returns-in_err-short : goal.returns-in_err-short
returns-in_err-short c =
    let s = c.args.s.now in
    let gone : c.from_residual-in_err-short.result ≡ None = grind arith in
    let x = label_as s c.label_at.ensures.same c.in_ok-label.was in record {
      kept = kept_all _ _;
      same = rw gone (parts_no_short s x c.short_at.ensures.same c.in_err-short.was);
    }

pub starts_at-requires : goal.starts_at-requires
starts_at-requires c = (short_within _ _ c.in_ok-short.was c.short_at.ensures.place).2

pub overflow_add-next : goal.overflow_add-next
overflow_add-next c =
    let le = (short_within _ _ c.in_ok-short.was c.short_at.ensures.place).2 in
    let m = c.requires.0 in
    search (rules, le, m)

pub behind_names-requires : goal.behind_names-requires
behind_names-requires c =
    let s = c.args.s.now in
    let w = label_within _ _ c.in_ok-label.was c.label_at.ensures.place in
    let u = short_within _ _ c.in_ok-short.was c.short_at.ensures.place in
    let n = c.in_ok-short.next in
    let r : n + 2 ≤ length s =
    clause_room s n u.2 (bytes ": ") (sym c.starts_at.ensures ∙ c.if-starts_at.true) in (
      r,
      c.requires.0,
      c.requires.1,
      (w.1, omega (arith, u.1, u.2)),
      c.requires.2,
    )

pub returns-then-starts_at : goal.returns-then-starts_at
returns-then-starts_at c =
    let s = c.args.s.now in
    let u = short_within _ _ c.in_ok-short.was c.short_at.ensures.place in
    let x = label_as s c.label_at.ensures.same c.in_ok-label.was in
    let y = short_as s c.in_ok-label.label c.short_at.ensures.same c.in_ok-short.was in
    let b = c.behind_names in
    let d = sym c.starts_at.ensures ∙ c.if-starts_at.true in record {
      kept = b.ensures.kept;
      same = parts_behind s x y u.2 _ c.args.n _ b.result d b.ensures.same;
    }

pub returns : goal.returns
returns c =
    let s = c.args.s.now in
    let u = short_within _ _ c.in_ok-short.was c.short_at.ensures.place in
    let x = label_as s c.label_at.ensures.same c.in_ok-label.was in
    let y = short_as s c.in_ok-label.label c.short_at.ensures.same c.in_ok-short.was in
    let d = sym c.starts_at.ensures ∙ c.if-starts_at.false in record {
      kept = kept_all _ _;
      same = parts_no_colon s x y u.2 d;
    }
