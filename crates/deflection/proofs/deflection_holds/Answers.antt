-- `deflection::deflection_holds` meets its contract.
use native.Mathlib.Omega.{arith}
use Rattle.quantity.proofs.Product.{product_most}
use Rattle.deflection.specs.Bounds.{deflection_most}
use Rattle.deflection.proofs.Bounds.{divisor_between}
use Rattle.deflection.proofs.deflection_holds.Goals as goal

pub overflow_mul-result : goal.overflow_mul-result
overflow_mul-result c =
    omega (
      arith,
      product_most c.args.figure c.span_divisor.result deflection_most 400
          (c.requires.1, rw c.span_divisor.ensures (divisor_between c.args.x.section.l0.0 c.args.x.section.strict).1),
    )
