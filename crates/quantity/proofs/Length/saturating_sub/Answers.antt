-- `quantity::Length::saturating_sub` meets its contract.
use mathlib.Core.Path.{ap}
use Rattle.quantity.specs.Unit.{millimetres}
use Rattle.quantity.proofs.Length.saturating_sub.Goals as goal

pub returns : goal.returns
returns c = ap millimetres c.saturating_sub.ensures
