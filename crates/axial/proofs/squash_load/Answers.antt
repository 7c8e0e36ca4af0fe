-- `axial::squash_load` meets its contract.
use native.Mathlib.Omega.{arith}
use Rattle.member.specs.Member.{column_of}
use Rattle.axial.proofs.Tests.{steel_reflects}
use Rattle.axial.proofs.Bounds.{gross_most, concrete_load_most, steel_load_most}
use Rattle.axial.proofs.squash_load.Goals as goal

pub concrete_area-requires : goal.concrete_area-requires
concrete_area-requires c =
    let x = column_of c.args.x.valid.column in
    omega (arith, c.gross_area.ensures, c.bars_area-bars.ensures, gross_most x c.args.x.valid.accepted, (steel_reflects x).holds c.requires)

pub overflow_mul-result : goal.overflow_mul-result
overflow_mul-result c =
    rw (c.concrete_area.ensures, c.gross_area.ensures, c.in_tenths.ensures, c.bars_area-bars.ensures)
    (omega (arith, concrete_load_most _ _ _ c.args.x.given))

pub overflow_mul-result-3 : goal.overflow_mul-result-3
overflow_mul-result-3 c =
    rw (c.in_units.ensures, c.bars_area-bars.ensures) (omega (arith, steel_load_most _ _ _ c.args.x.given))

pub overflow_add-result : goal.overflow_add-result
overflow_add-result c =
    let given = c.args.x.given in
    rw (c.in_units.ensures, c.concrete_area.ensures, c.gross_area.ensures, c.in_tenths.ensures, c.bars_area-bars.ensures)
    (omega (arith, concrete_load_most _ _ _ given, steel_load_most _ _ _ given))
