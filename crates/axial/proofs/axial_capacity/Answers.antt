-- `axial::axial_capacity` meets its contract.
use native.Mathlib.Omega.{arith}
use Rattle.member.specs.Member.{column_of}
use Rattle.stability.proofs.Bounds.{stability_most}
use Rattle.axial.proofs.Tests.{slenderness_reflects}
use Rattle.axial.proofs.Bounds.{product_most}
use Rattle.axial.proofs.axial_capacity.Goals as goal

pub stability_of-stability-requires : goal.stability_of-stability-requires
stability_of-stability-requires c =
    let x = c.args.x.valid in
    omega (arith, (slenderness_reflects (column_of x.column)).holds c.requires.1)

pub overflow_mul-stability : goal.overflow_mul-stability
overflow_mul-stability c =
    omega (arith, stability_most c.in_millimetres.result c.in_millimetres-b.result)

pub overflow_mul-stability-2 : goal.overflow_mul-stability-2
overflow_mul-stability-2 c =
    let given = c.args.x.given in
    rw (c.squash_load.ensures, c.stability_of-stability.ensures, c.in_millimetres.ensures, c.in_millimetres-b.ensures)
    (omega (arith, product_most _ _ _ given, given.accepted.b_most))
