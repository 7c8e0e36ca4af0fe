-- `deflection::curvature_of` meets its contract.
use Prim.Native.Nat.{◌+◌, ◌≤◌}
use native.Mathlib.Omega.{arith}
use Rattle.deflection.specs.Bounds.{curvature_most}
use Rattle.deflection.specs.Steps.{curvature}
use Rattle.deflection.proofs.Bounds.{curvature_most_lem}
use Rattle.deflection.proofs.curvature_of.Goals as goal

pub overflow_add-result : goal.overflow_add-result
unfolding curvature
overflow_add-result c =
    let a = c.args in
    let p = c.requires in
    let most : c.div_up.result + c.div_up-2.result ≤ curvature_most =
    rw (c.div_up.ensures, c.div_up-2.ensures) (curvature_most_lem a.mean a.z a.stress p.0 p.1 p.2) in
    omega (arith, most)
