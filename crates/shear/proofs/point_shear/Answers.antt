-- `shear::point_shear` meets its contract.
use native.Mathlib.Omega.{arith}
use Rattle.shear.proofs.Bounds.{sizes}
use Rattle.shear.proofs.point_shear.Goals as goal

pub overflow_mul-part-4 : goal.overflow_mul-part-4
overflow_mul-part-4 c =
    rw (c.in_hundredths.ensures, c.in_millimetres.ensures, c.in_millimetres-h0.ensures) (omega (arith, sizes c.args.x.bounded))
