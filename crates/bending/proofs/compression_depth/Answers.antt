-- `bending::compression_depth` meets its contract.
use native.Mathlib.Omega.{arith}
use Rattle.bending.proofs.Bounds.{sizes}
use Rattle.bending.proofs.compression_depth.Goals as goal

pub overflow_add-result : goal.overflow_add-result
overflow_add-result c =
    rw (c.compression_force.ensures, c.block_force_per_mm.ensures, c.in_millimetres.ensures)
    (omega (arith, sizes c.args.x.bounded))
