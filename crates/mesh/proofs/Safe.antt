-- Demand 3 for every accepted mesh, by the ways out of its checks.
use Rattle.member.specs.Member.{Mesh}
use Rattle.member.specs.Accepted.{AcceptedMesh}
use Rattle.outcome.specs.declared.Outcome.{Outcome}
use Rattle.outcome.proofs.Says.{says_holds, says_named}
use Rattle.anchorage.proofs.Exact.{anchorage_safe}
use Rattle.lap.proofs.Exact.{lap_safe}
use Rattle.mesh.specs.Checks.{mesh_outcome}
use Rattle.mesh.specs.Exact.{none, SafeMesh}
use Rattle.mesh.proofs.Ways.{WayOut, to_anchorage, to_lap, way_out}

lengths_safe : {x : Mesh} {o : Outcome} → WayOut x o → SafeMesh x o
lengths_safe (to_anchorage s) =
    record { first = anchorage_safe _; second = tt; third = tt; fourth = tt; passed = says_holds s; named = says_named none s }
lengths_safe (to_lap s) =
    record { first = anchorage_safe _; second = lap_safe _; third = tt; fourth = tt; passed = says_holds s; named = says_named none s }

pub mesh_safe : (x : Mesh) → AcceptedMesh x → SafeMesh x (mesh_outcome x)
mesh_safe x ok = lengths_safe (way_out x)
