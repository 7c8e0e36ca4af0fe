-- `quantity::div_down` meets its contract.
use mathlib.Core.Path.{refl}
use Rattle.quantity.specs.Rounding.{down}
use Rattle.quantity.proofs.div_down.Goals as goal

pub returns : goal.returns
unfolding down
returns c = refl
