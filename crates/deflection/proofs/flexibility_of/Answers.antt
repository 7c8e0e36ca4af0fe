-- `deflection::flexibility_of` meets its contract.
use Prim.Native.Nat.{◌+◌, ◌≤◌}
use native.Mathlib.Omega.{arith}
use Rattle.deflection.specs.Bounds.{flexibility_most}
use Rattle.deflection.specs.Steps.{flexibility}
use Rattle.deflection.proofs.Bounds.{flexibility_most_lem}
use Rattle.deflection.proofs.flexibility_of.Goals as goal

pub overflow_add-result : goal.overflow_add-result
unfolding flexibility
overflow_add-result c =
    let a = c.args in
    let p = c.requires in
    let most : 200000 + c.div_up.result ≤ flexibility_most =
    rw c.div_up.ensures (flexibility_most_lem a.s a.ec a.b a.h0 p.0 p.6 p.2) in
    omega (arith, most)
