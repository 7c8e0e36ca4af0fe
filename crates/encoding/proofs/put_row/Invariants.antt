use lib.ListN.{drop}
use Rattle.text.proofs.Put.{Leaves}
use Rattle.encoding.specs.ScheduleBytes.{bytes_of_all}
use Rattle.encoding.proofs.put_row.Given as goal

abbrev pub invariant-loop-n : goal.invariant-loop-n
invariant-loop-n l = Leaves l.initial.w (bytes_of_all l.n-items) l.w (bytes_of_all (drop l.n-index l.n-items))
