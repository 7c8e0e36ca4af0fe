-- `program_output::print_schedule` meets its contract.
use native.Mathlib.Omega.{arith}
use borrow.Author.Rules.{rules}
use Rattle.text_answer.proofs.Printed.{put_from}
use Rattle.program_output.proofs.ProgramOutput.{was_written, was_refused}
use Rattle.program_output.proofs.print_schedule.Goals as goal

pub returns-in-Ok : goal.returns-in-Ok
returns-in-Ok c =
    was_written _ _ _ _ _ c.in-Ok.is (omega arith) c.report.ensures

pub returns-in-Err : goal.returns-in-Err
returns-in-Err c =
    was_refused _ _ _ _ _ _ _ _ c.in-Err.is (omega arith) (omega arith) c.from.ensures
    c.report.ensures
    (put_from c.put_refusal.ensures c.new-w.ensures.start c.new-w.ensures.held (search rules))
