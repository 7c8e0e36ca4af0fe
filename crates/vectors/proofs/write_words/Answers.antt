-- `vectors::write_words` meets its contract.
use native.Mathlib.Omega.{arith}
use borrow.Author.Rules.{rules}
use Rattle.text_answer.proofs.Printed.{put_from}
use Rattle.vectors.proofs.Words.{was_written, was_refused}
use Rattle.vectors.proofs.write_words.Goals as goal

pub returns-in-Ok : goal.returns-in-Ok
returns-in-Ok c =
    was_written _ _ _ _ (omega arith) c.write_schedule.ensures _ c.in-Ok.is

pub returns-in-Err : goal.returns-in-Err
returns-in-Err c =
    was_refused _ _ _ _ (omega arith) c.write_schedule.ensures _ _ _ _
    c.in-Err.is (omega arith) (omega arith) c.from.ensures
    (put_from c.put_refusal.ensures c.new-w.ensures.start c.new-w.ensures.held (search rules))
