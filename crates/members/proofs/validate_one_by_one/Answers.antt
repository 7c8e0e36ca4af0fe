-- `members::validate_one_by_one` meets its contract.
use mathlib.Core.Path.{◌≡◌, sym, ◌∙◌}
use borrow.Author.Rules.{rules}
use Rattle.std.specs.Prelude.{Err}
use Rattle.members.proofs.Members.{fields_read, fields_refused, body_no, body_refused}
use Rattle.members.proofs.validate_one_by_one.Goals as goal

pub returns-in_err-slots : goal.returns-in_err-slots
returns-in_err-slots c =
    let e : c.from_residual.result ≡ Err (c.in_err-slots.field-0.0) = search rules in
    let m = c.validate_fields.ensures.moved in
    record { same = m.same; reads = rw e (sym (body_no _ _ _ c.kind_of-kind.ensures _ _ _ (fields_refused _ _ _ m.reads _ c.in_err-slots.was))) }

pub returns-in_err-member_verdict : goal.returns-in_err-member_verdict
returns-in_err-member_verdict c =
    let e : c.from_residual-in_err-member_verdict.result ≡ Err (c.in_err-member_verdict.field-0.0) = search rules in
    let m = c.validate_fields.ensures.moved in
    record {
      same = m.same;
      reads = rw e (sym (body_refused _ _ _ c.kind_of-kind.ensures _ _ _ _ (fields_read _ _ _ m.reads _ c.in_ok-slots.was) _
          (sym c.member_verdict.ensures ∙ c.in_err-member_verdict.was)));
    }
