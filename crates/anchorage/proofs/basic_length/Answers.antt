-- `anchorage::basic_length` meets its contract.
use Prim.Native.Nat.{◌*◌}
use mathlib.Core.Path.{◌≡◌}
use native.Mathlib.Nat.{max_comm}
use native.Mathlib.Omega.{arith}
use Rattle.member.specs.Member.{mesh_of}
use Rattle.anchorage.specs.Steps.{basic_length}
use Rattle.anchorage.proofs.Bounds.{basic_most_lem}
use Rattle.anchorage.proofs.basic_length.Goals as goal
use Rattle.anchorage.proofs.basic_length.Goals.{After-seismic_factor}

value : (c : After-seismic_factor) →
    c.max.result * c.seismic_factor.result ≡ basic_length c.args.cross c.args.apart (mesh_of c.args.x.mesh)
unfolding basic_length
value c =
    rw (c.seismic_factor.ensures, c.max.ensures, c.in_millimetres.ensures, c.apart_factor.ensures, c.paired_factor.ensures, c.multiple_of-multiple.ensures, max_comm _ 20000)

pub overflow_mul-result : goal.overflow_mul-result
overflow_mul-result c =
    let x = c.args.x in
    omega (arith, value (goal.at.overflow_mul-result c).After-seismic_factor, basic_most_lem (mesh_of x.mesh) x.accepted c.args.cross c.args.apart c.requires)

pub returns : goal.returns
returns c = value (goal.at.returns c).After-seismic_factor
