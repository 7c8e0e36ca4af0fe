-- The checks of a column in document 01's order, up to the first that fails (000, 5.6.1, 5.6.2 and 4.2.4).
use Rattle.std.specs.Prelude.{◌*◌, Bool, ◌&&◌, leb, if◌then◌else◌}
use Rattle.material.specs.declared.Concrete.{Concrete}
use Rattle.material.specs.declared.Steel.{Steel}
use Rattle.member.specs.Member.{Column}
use Rattle.bars.specs.Sums.{largest, smallest}
use Rattle.outcome.specs.Outcome.{no_figure, one_figure}
use Rattle.outcome.specs.declared.Outcome.{Outcome}
use Rattle.outcome.specs.declared.Check.TheVariants.{Passed, MostSteel, ColumnLinks, Slenderness, AxialForce}
use Rattle.axial.specs.Steps.{steel_fits, slenderness_fits, axial_capacity}

-- 5.6.2: link diameter at least a quarter of the largest bar; spacing at most 400, b and 15 of the smallest
unfoldable pub links_fit : Column → Bool
links_fit x =
    leb (largest x.groups) (4 * x.link)
    && (leb x.s 400 && (leb x.s x.b && leb x.s (15 * smallest x.groups)))

-- 4.2.4: the capacity is not below N
unfoldable pub axial_outcome : Column → Concrete → Steel → Outcome
axial_outcome x concrete steel =
    if leb x.N (axial_capacity x concrete steel)
    then one_figure Passed (axial_capacity x concrete steel)
    else one_figure AxialForce (axial_capacity x concrete steel)

-- the checks before it, in order
unfoldable pub slenderness_outcome : Column → Concrete → Steel → Outcome
slenderness_outcome x concrete steel = if slenderness_fits x then axial_outcome x concrete steel else no_figure Slenderness

unfoldable pub links_outcome : Column → Concrete → Steel → Outcome
links_outcome x concrete steel = if links_fit x then slenderness_outcome x concrete steel else no_figure ColumnLinks

unfoldable pub column_outcome : Column → Concrete → Steel → Outcome
column_outcome x concrete steel = if steel_fits x then links_outcome x concrete steel else no_figure MostSteel
