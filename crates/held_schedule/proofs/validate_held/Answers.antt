-- `held_schedule::validate_held` meets its contract.
use mathlib.Core.Path.{sym, ap, ◌∙◌}
use Rattle.schedule.specs.Schedule.{schedule_answer}
use Rattle.held_schedule.proofs.Records.{too_many, few}
use Rattle.held_schedule.proofs.validate_held.Goals as goal

pub returns-then-count-gt500 : goal.returns-then-count-gt500
returns-then-count-gt500 c = rw c.at.ensures (sym (too_many _ c.if-count-gt500.true))

pub returns-else-count-gt500 : goal.returns-else-count-gt500
returns-else-count-gt500 c = c.validate_records.ensures ∙ sym (ap schedule_answer (few _ c.if-count-gt500.false))
