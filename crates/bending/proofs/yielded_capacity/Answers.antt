-- `bending::yielded_capacity` meets its contract: t²/(2k) rounded up is taken off before the one rounding down.
use mathlib.Core.Path.{sym}
use native.Mathlib.Omega.{arith}
use Rattle.quantity.proofs.Product.{product_most}
use Rattle.bending.proofs.Bounds.{sizes}
use Rattle.bending.proofs.Capacity.{rounded_within, yielded_value}
use Rattle.bending.proofs.yielded_capacity.Goals as goal

pub overflow_mul-t : goal.overflow_mul-t
overflow_mul-t c =
    let t = c.net_tension-t.result in
    omega (arith, product_most t t 480000000 480000000 (omega (arith, sizes c.args.x.bounded)))

pub overflow_mul-t-2 : goal.overflow_mul-t-2
overflow_mul-t-2 c =
    let t = c.net_tension-t.result in
    omega (arith, product_most t t 480000000 480000000 (omega (arith, sizes c.args.x.bounded)))

pub overflow_sub-steel_moment : goal.overflow_sub-steel_moment
overflow_sub-steel_moment c =
    rw (c.steel_moment.ensures, c.div_up-square.ensures, c.block_force_per_mm.ensures, c.net_tension-t.ensures)
    (rounded_within c.args.x.bounded c.requires.1)

pub returns : goal.returns
returns c =
    rw (c.div_down.ensures, c.steel_moment.ensures, c.div_up-square.ensures, c.block_force_per_mm.ensures, c.net_tension-t.ensures)
    (sym (yielded_value c.args.x.bounded c.requires.1))
