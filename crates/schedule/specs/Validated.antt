-- What the validator's result says, in the terms of the definitions.
use Rattle.std.specs.Prelude.{Err, Ok, Result}
use Rattle.question.specs.declared.Refusal.{Refusal}
use Rattle.schedule.specs.declared.valid.ValidSchedule.{ValidSchedule}
use Rattle.schedule.specs.Schedule.{ScheduleAnswer}

-- the number of members, or the refusal
abbrev pub count_of : Result ValidSchedule Refusal → ScheduleAnswer
count_of (Ok v) = Ok v.count
count_of (Err r) = Err r
