-- `bars::Groups::totals` meets its contract.
use native.Mathlib.Omega.{arith}
use lib.ListN.{length-take}
use Rattle.bars.proofs.Sums.{totals_none, totals_more, turn_requires}
use Rattle.bars.proofs.Groups.totals.Goals as goal

pub loop-g-init : goal.loop-g-init
loop-g-init c = totals_none

pub with_group-t-requires : goal.with_group-t-requires
with_group-t-requires c =
    let e = c.items-g-items.ensures in
    turn_requires _ c.loop-g.g-index _ c.loop-g.t (rw e c.requires) (rw e (simp length-take (omega arith))) c.loop-g-test.true c.loop-g.invariant

pub loop-g-preserved : goal.loop-g-preserved
loop-g-preserved c =
    rw c.with_group-t.ensures (totals_more c.items-g-items.result.now c.loop-g.g-index _ c.loop-g.t c.loop-g-test.true c.loop-g.invariant)
