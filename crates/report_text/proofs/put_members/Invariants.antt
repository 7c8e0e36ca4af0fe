use Prim.Native.Nat.{◌-◌}
use mathlib.Core.Path.{◌≡◌}
use Rattle.text.proofs.Put.{Leaves}
use Rattle.members.specs.Accepted.{AcceptedFrom}
use Rattle.report_text.specs.ReportText.{lines_from}
use Rattle.report_text.proofs.put_members.Given as goal

abbrev pub invariant-loop : goal.invariant-loop
invariant-loop l =
    let s = l.initial.input.src in
    (l.input.src ≡ s)
    × AcceptedFrom (l.schedule.count - l.counter) s.now l.input.at
    × Leaves l.initial.w (lines_from l.schedule.count s.now l.initial.input.at) l.w (lines_from (l.schedule.count - l.counter) s.now l.input.at)
