use lib.ListN.{take}
use Rattle.bars.specs.Sums.{TotalsOf}
use Rattle.bars.proofs.Groups.totals.Given as goal

abbrev pub invariant-loop-g : goal.invariant-loop-g
invariant-loop-g l = TotalsOf (take l.g-index l.g-items) l.t
