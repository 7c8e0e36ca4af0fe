-- `quantity::div_up` meets its contract.
use Rattle.quantity.proofs.Rounding.{up_by_ceil}
use Rattle.quantity.proofs.div_up.Goals as goal

pub returns : goal.returns
returns c = rw c.div_ceil.ensures (up_by_ceil c.args.n c.args.d c.requires)
