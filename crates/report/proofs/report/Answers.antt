-- `report::report` meets its contract.
use Rattle.std.specs.Prelude.{Err}
use mathlib.Core.Path.{◌≡◌}
use borrow.Author.Rules.{rules}
use Rattle.report.proofs.ReportClaim.{refused, validated_no, validated_yes}
use Rattle.report.proofs.report.Goals as goal

pub returns-in_err-validate_schedule : goal.returns-in_err-validate_schedule
returns-in_err-validate_schedule c =
    let e : c.from_residual.result ≡ Err (c.in_err-validate_schedule.field-0.0) = search rules in
    rw e (refused _ _ _ (validated_no _ _ (rw c.in_err-validate_schedule.was at c.validate_schedule.ensures.answer)))

pub returns : goal.returns
returns c =
    let v = c.in_ok-validate_schedule in
    validated_yes _ _ _ _ _ _ v.ensures.answer v.ensures.first.1 (rw v.ensures.first.0 at c.print_report.ensures)
