-- `quantity::clamped` meets its contract.
use Rattle.std.proofs.Common.{arith}
use Rattle.quantity.specs.Rounding.{clamp}
use Rattle.quantity.proofs.clamped.Goals as goal

pub returns : goal.returns
unfolding clamp
returns c = rw (c.min.ensures, c.max.ensures) (omega arith)
