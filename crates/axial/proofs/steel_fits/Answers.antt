-- `axial::steel_fits` meets its contract.
use native.Mathlib.Omega.{arith}
use Rattle.member.specs.Member.{column_of}
use Rattle.axial.proofs.Bounds.{steel_most}
use Rattle.axial.proofs.steel_fits.Goals as goal

pub overflow_mul-result : goal.overflow_mul-result
overflow_mul-result c = let x = c.args.x in omega (arith, steel_most (column_of x.column) x.accepted)
