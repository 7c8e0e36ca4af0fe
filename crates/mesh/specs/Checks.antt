-- The checks of a mesh in document 01's order, up to the first that fails.
use Rattle.std.specs.Prelude.{leb, if◌then◌else◌}
use Rattle.member.specs.Member.{Mesh}
use Rattle.outcome.specs.Outcome.{one_figure, two_figures}
use Rattle.outcome.specs.declared.Outcome.{Outcome}
use Rattle.outcome.specs.declared.Check.TheVariants.{Passed, Anchorage, Lap}
use Rattle.anchorage.specs.Steps.{anchorage_length}
use Rattle.lap.specs.Steps.{lap_length}

-- 5.3.7: the lap is not above the given
unfoldable pub lap_outcome : Mesh → Outcome
lap_outcome x =
    if leb (lap_length x) x.lap
    then two_figures Passed (anchorage_length x) (lap_length x)
    else two_figures Lap (anchorage_length x) (lap_length x)

-- 5.2.5, first: the anchorage is not above the given
unfoldable pub mesh_outcome : Mesh → Outcome
mesh_outcome x =
    if leb (anchorage_length x) x.anchorage
    then lap_outcome x
    else one_figure Anchorage (anchorage_length x)
