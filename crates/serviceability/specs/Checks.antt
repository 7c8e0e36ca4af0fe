-- The checks of a beam under service loads, the last in document 01's order: 4.4.1, 4.4.2 and 4.5.1.
-- A figure is worked out when its check is reached.
use Rattle.std.specs.Prelude.{ℕ, leb, if◌then◌else◌}
use Rattle.outcome.specs.declared.Check.TheVariants.{Passed, ServiceStress, CrackWidth, Deflection}
use Rattle.outcome.specs.declared.Outcome.{Outcome}
use Rattle.outcome.specs.Outcome.{two_figures, three_figures, four_figures}
use Rattle.section.specs.declared.Section.{Section}
use Rattle.cracking.specs.Steps.{stress_holds, crack_width, width_limit}
use Rattle.deflection.specs.Steps.{deflection, deflection_holds}

-- Each check, from the last to the first, with the figures before it (moment, shear, width).

unfoldable pub from_deflection : Section → ℕ → ℕ → ℕ → Outcome
from_deflection x moment shear width =
    four_figures (if deflection_holds x then Passed else Deflection) moment shear width (deflection x)

unfoldable pub from_width : Section → ℕ → ℕ → Outcome
from_width x moment shear =
    if leb (crack_width x) (width_limit x.environment)
    then from_deflection x moment shear (crack_width x)
    else three_figures CrackWidth moment shear (crack_width x)

unfoldable pub from_stress : Section → ℕ → ℕ → Outcome
from_stress x moment shear =
    if stress_holds x
    then from_width x moment shear
    else two_figures ServiceStress moment shear
