-- The record of a refused utilization.
use lib.Ieee.{of_bits}
use Rattle.answer_record.proofs.UtilizationRecordFromResultUtilizationRefusal.from.Goals as goal

pub returns-in-Err : goal.returns-in-Err
unfolding of_bits
returns-in-Err c = rw (c.in-Err.is, c.into.ensures, c.together.ensures)
