-- The checks of a beam in document 01's order, with 6.3.1v where document 02, wish 6, puts it, up to the first that fails.
-- A figure is worked out when its check is reached.
use Rattle.std.specs.Prelude.{ℕ, leb, if◌then◌else◌}
use Rattle.outcome.specs.declared.Check.TheVariants.{LeastSteel, CompressionDepth, Bending, CoupleBending, WebCrushing, Shear, LinkSpacing, LeastLinks}
use Rattle.outcome.specs.declared.Outcome.{Outcome}
use Rattle.outcome.specs.Outcome.{no_figure, one_figure, two_figures}
use Rattle.member.specs.Member.{Beam}
use Rattle.section.specs.declared.Section.{Section}
use Rattle.section.specs.Section.{section_of, M}
use Rattle.bending.specs.Steps.{least_steel, compression_depth, compression_yields, bending_capacity}
use Rattle.shear.specs.declared.ShearResult.{ShearResult}
use Rattle.shear.specs.declared.ShearResult.TheVariants.{AboveWebLimit, AboveCapacity, WithinBoth}
use Rattle.shear.specs.Steps.{link_spacing, least_links}
use Rattle.shear.specs.ShearCheck.{shear_result}
use Rattle.serviceability.specs.Checks.{from_stress}

-- Each check, from the last to the first, with the figures before it (moment, shear).

unfoldable pub from_least_links : Section → ℕ → ℕ → Outcome
from_least_links x moment shear =
    if least_links x
    then from_stress x moment shear
    else two_figures LeastLinks moment shear

unfoldable pub from_spacing : Section → ℕ → ℕ → Outcome
from_spacing x moment shear =
    if link_spacing x
    then from_least_links x moment shear
    else two_figures LinkSpacing moment shear

-- the shear check: 6.3.1v, which has no figure, just before 4.3.3
abbrev pub after_shear : Section → ℕ → ShearResult → Outcome
after_shear x moment AboveWebLimit = one_figure WebCrushing moment
after_shear x moment (AboveCapacity shear) = two_figures Shear moment shear.0
after_shear x moment (WithinBoth shear) = from_spacing x moment shear.0

unfoldable pub from_shear : Section → ℕ → Outcome
from_shear x moment = after_shear x moment (shear_result x)

unfoldable pub from_bending : Section → Outcome
from_bending x =
    if leb (M x) (bending_capacity x)
    then from_shear x (bending_capacity x)
    else one_figure (if compression_yields x then Bending else CoupleBending) (bending_capacity x)

unfoldable pub from_depth : Section → Outcome
from_depth x = if compression_depth x then from_bending x else no_figure CompressionDepth

unfoldable pub section_outcome : Section → Outcome
section_outcome x = if least_steel x then from_depth x else no_figure LeastSteel

unfoldable pub beam_outcome : Beam → Outcome
beam_outcome x = section_outcome (section_of x)
