use Prim.Native.Nat.{◌+◌, ◌-◌, ◌*◌}
use mathlib.Core.Path.{◌≡◌}
use Rattle.schedule.specs.Schedule.{schedule_answer}
use Rattle.held_schedule.specs.HeldSchedule.{record_words, records_from, record_members}
use Rattle.held_schedule.proofs.Records.{answer_of}
use Rattle.held_schedule.proofs.validate_records.Given as goal

abbrev pub invariant-loop-i : goal.invariant-loop-i
invariant-loop-i l =
    (l.at ≡ l.i-counter * record_words)
    × (schedule_answer (record_members 0 1 (records_from l.count l.words 0)) ≡ answer_of l.count (record_members l.before (l.i-counter + 1) (records_from (l.count - l.i-counter) l.words l.at)))
