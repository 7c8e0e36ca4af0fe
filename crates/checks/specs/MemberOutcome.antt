-- What the checks of a member come to, by its kind.
use Rattle.std.specs.Prelude.{ℕ}
use Rattle.material.specs.Concrete.{concrete_of}
use Rattle.material.specs.Steel.{steel_of}
use Rattle.outcome.specs.declared.Outcome.{Outcome}
use Rattle.member.specs.Member.{Member, beam, column, mesh}
use Rattle.mesh.specs.Checks.{mesh_outcome}
use Rattle.column.specs.Checks.{column_outcome}
use Rattle.beam.specs.Checks.{beam_outcome}

abbrev pub mark_of : Member → ℕ
mark_of (beam mark x) = mark
mark_of (column mark x) = mark
mark_of (mesh mark x) = mark

abbrev pub outcome_of : Member → Outcome
outcome_of (beam mark x) = beam_outcome x
outcome_of (column mark x) = column_outcome x (concrete_of x.concrete) (steel_of x.steel)
outcome_of (mesh mark x) = mesh_outcome x
