-- `report_text::print_report` meets its contract.
use Rattle.std.proofs.Common.{rules, ◌+◌, ◌*◌}
use native.Mathlib.Omega.{arith}
use Rattle.report_text.proofs.Length.{report_fits}
use Rattle.report_text.proofs.print_report.Goals as goal

pub put_whole-requires : goal.put_whole-requires
put_whole-requires c κs within =
    let s = c.args.schedule in
    search (rules, report_fits s.count s.input.src.now s.input.at {n = 19 + 55 * s.count} (omega arith) (omega arith))
