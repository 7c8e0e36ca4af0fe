-- `writer::write_schedule` meets its contract.
use Rattle.std.specs.Prelude.{Err}
use mathlib.Core.Path.{◌≡◌, sym, ◌∙◌}
use borrow.Author.Rules.{rules}
use Rattle.report.proofs.ReportClaim.{validated_no}
use Rattle.writer.proofs.Written.{refused, validated_ready, validated_yes}
use Rattle.writer.proofs.write_schedule.Goals as goal

pub write_records-requires : goal.write_records-requires
write_records-requires c =
    validated_ready _ _ (sym c.in_ok-count.was ∙ c.validate_held.ensures)

pub returns-in_err-count : goal.returns-in_err-count
returns-in_err-count c =
    let e : c.from_residual.result ≡ Err (c.in_err-count.field-0.0) = search rules in
    rw e (refused _ _ _ (validated_no _ _ (sym c.in_err-count.was ∙ c.validate_held.ensures)))

pub returns : goal.returns
returns c =
    validated_yes _ _ (sym c.in_ok-count.was ∙ c.validate_held.ensures) c.write_records.ensures
