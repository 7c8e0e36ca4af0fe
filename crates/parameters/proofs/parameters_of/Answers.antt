-- `parameters::parameters_of` meets its contract.
use native.Mathlib.Omega.{arith}
use Rattle.material.proofs.Materials.{usable_steel, grade_between}
use Rattle.parameters.specs.Parameters.{stress_factor, web_factor, parameters_of}
use Rattle.parameters.proofs.parameters_of.Goals as goal

pub overflow_sub-result : goal.overflow_sub-result
overflow_sub-result c = omega (arith, grade_between c.args.grade c.requires.0)

pub overflow_sub-result-2 : goal.overflow_sub-result-2
overflow_sub-result-2 c = omega (arith, grade_between c.args.grade c.requires.0)

pub depth_limit-requires : goal.depth_limit-requires
depth_limit-requires c =
    ((grade_between c.args.grade c.requires.0).1, rw c.steel_of.ensures (usable_steel c.args.code c.requires.1))

pub returns : goal.returns
unfolding parameters_of stress_factor web_factor
returns c =
    rw (c.depth_limit.ensures, c.steel_of.ensures, c.above_c50-grades.ensures)
