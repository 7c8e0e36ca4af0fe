-- `parameters::depth_limit` meets its contract.
use Prim.Native.Nat.{◌-◌, ◌*◌, ◌/◌}
use native.Mathlib.Omega.{arith}
use Rattle.quantity.proofs.Product.{product_most}
use Rattle.parameters.specs.Parameters.{β₁, εcu}
use Rattle.parameters.proofs.Usable.{limit_to_c50, limit_above_c50}
use Rattle.parameters.proofs.depth_limit.Goals as goal

pub returns-then-grade-le50 : goal.returns-then-grade-le50
returns-then-grade-le50 c =
    let a = c.args in
    rw (limit_to_c50 a.grade a.steel (omega (arith, c.if-grade-le50.true)))

pub overflow_mul-result : goal.overflow_mul-result
overflow_mul-result c =
    let above = c.above_c50-above.result in
    omega (arith, product_most (80 - above / 5) (2 * (330 - above)) 80 660 (omega arith))

pub returns : goal.returns
unfolding β₁ εcu
returns c =
    let a = c.args in
    rw (limit_above_c50 a.grade a.steel (omega (arith, c.if-grade-le50.false)), c.in_units.ensures, c.above_c50-above.ensures)
