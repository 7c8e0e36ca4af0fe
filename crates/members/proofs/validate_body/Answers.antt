-- `members::validate_body` meets its contract.
use mathlib.Core.Path.{◌≡◌, sym, ◌∙◌}
use borrow.Author.Rules.{rules}
use Rattle.std.specs.Prelude.{Err}
use Rattle.field_validator.proofs.Taken.{end_got, taken_fields}
use Rattle.members.proofs.Members.{body_refused}
use Rattle.members.proofs.validate_body.Goals as goal

pub returns-in_err-member_verdict-in-Ok : goal.returns-in_err-member_verdict-in-Ok
returns-in_err-member_verdict-in-Ok c =
    let e : c.from_residual.result ≡ Err (c.in_err-member_verdict-in-Ok.field-0.0) = search rules in
    let m = c.take_fields.ensures.moved in
    record {
      same = m.same;
      reads = rw e (sym (body_refused _ _ _ c.kind_of-kind.ensures _ _ _ _
          (taken_fields _ _ _ _ _ (end_got _ _ _ _ m.reads c.in-Ok.is) (sym c.fields_hold.ensures ∙ c.if-fields_hold.true)) _
          (sym c.member_verdict.ensures ∙ c.in_err-member_verdict-in-Ok.was)));
    }
