-- `beam::check_section` meets its contract.
use mathlib.Core.Path.{sym, ◌∙◌}
use Rattle.bending.proofs.Tests.{least_steel_reflects}
use Rattle.beam.proofs.check_section.Goals as goal

pub invariant_of-from_depth : goal.invariant_of-from_depth
invariant_of-from_depth c =
    record { reinforced = ((least_steel_reflects _).holds (sym c.least_steel.ensures ∙ c.if-least_steel.true)).0 }
