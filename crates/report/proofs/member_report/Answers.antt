-- `report::member_report` meets its contract.
use Rattle.report.proofs.ReportClaim.{member_reported, printed_member, member_refused}
use Rattle.report_text.proofs.Length.{line_fits}
use Rattle.report.proofs.member_report.Goals as goal

pub print_line-requires : goal.print_line-requires
print_line-requires c = line_fits c.in-Ok.member _ c.check_member.ensures

pub returns-in-Ok : goal.returns-in-Ok
returns-in-Ok c =
    let v = rw c.in-Ok.is at c.validate.ensures in
    member_reported c.args.x _ _ _ v.0 (printed_member c.args.x c.in-Ok.member _ v.1 c.check_member.ensures c.print_line.ensures)

pub returns-in-Err : goal.returns-in-Err
returns-in-Err c =
    rw c.at.ensures (member_refused c.args.x _ c.in-Err.q (rw c.in-Err.is at c.validate.ensures))
