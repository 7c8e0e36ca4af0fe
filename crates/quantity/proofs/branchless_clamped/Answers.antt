-- `quantity::branchless_clamped` meets its contract.
use Rattle.quantity.specs.Rounding.{clamp}
use Rattle.quantity.proofs.branchless_clamped.Goals as goal

pub returns : goal.returns
unfolding clamp
returns c = rw (c.branchless_smaller.ensures, c.branchless_larger.ensures)
