-- `cracking::crack_spacing_of` meets its contract.
use Prim.Native.Nat.{◌+◌, ◌*◌, ◌≤◌}
use native.Mathlib.Omega.{arith}
use Rattle.cracking.specs.Bounds.{spacing_most}
use Rattle.cracking.specs.Steps.{crack_spacing}
use Rattle.cracking.proofs.Bounds.{spacing_most_lem}
use Rattle.cracking.proofs.crack_spacing_of.Goals as goal

pub overflow_add-result : goal.overflow_add-result
unfolding crack_spacing
overflow_add-result c =
    let a = c.args in
    let p = c.requires in
    let most : 190 * c.branchless_clamped.result + c.div_up.result ≤ spacing_most =
    rw (c.branchless_clamped.ensures, c.div_up.ensures) (spacing_most_lem a.c a.e a.w a.d a.s p.3 p.5 p.1 p.0) in
    omega (arith, most)
