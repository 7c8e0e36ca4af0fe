-- The ways out of the checks of a mesh: which figures stand, and what the check beside them says. The chain is walked here and
-- nowhere else: a law of the outcome goes by cases over its way out.
use mathlib.Core.Path.{refl}
use Rattle.quantity.proofs.Reflects.{settled_case}
use Rattle.quantity.proofs.Safe.{length_settles}
use Rattle.member.specs.Member.{Mesh}
use Rattle.outcome.specs.declared.Check.{Check}
use Rattle.outcome.specs.declared.Outcome.{Outcome}
use Rattle.outcome.specs.Outcome.{one_figure, two_figures}
use Rattle.outcome.proofs.Says.{Says, passed, failed}
use Rattle.anchorage.specs.Steps.{anchorage_length}
use Rattle.anchorage.proofs.Exact.{anchorage_safe}
use Rattle.lap.specs.Steps.{lap_length}
use Rattle.lap.proofs.Exact.{lap_safe}
use Rattle.mesh.specs.Checks.{lap_outcome, mesh_outcome}
use Rattle.mesh.specs.Exact.{MeshHolds, MayName, anchorage, lap}

module _ (x : Mesh) where
  abbrev pub MeshSays : Check → Type 0
  MeshSays = Says (MeshHolds x) (MayName x)

  -- the figures: the anchorage, or both
  pub data WayOut : Outcome → Type 0 where
    to_anchorage : {k : Check} → MeshSays k → WayOut (one_figure k (anchorage_length x))
    to_lap : {k : Check} → MeshSays k → WayOut (two_figures k (anchorage_length x) (lap_length x))

  -- a check to a line: what its test settles, the way out where it fails, a name for what holds
  pub way_out : WayOut (mesh_outcome x)
  unfolding mesh_outcome lap_outcome
  way_out =
      settled_case WayOut (length_settles x.anchorage (anchorage_safe x)) (λ n. to_anchorage (failed refl (anchorage n))) λ p-anchorage.
      settled_case WayOut (length_settles x.lap (lap_safe x)) (λ n. to_lap (failed refl (lap n))) λ p-lap.
      to_lap (passed (record { anchorage = p-anchorage; lap = p-lap }))
