-- `quantity::branchless_saturating_sub` meets its contract.
use Prim.Native.Nat.{◌+◌, ◌-◌, ◌*◌, ◌/◌, ◌%◌}
use mathlib.Core.Path.{◌≡◌}
use native.Mathlib.Omega.{arith}
use Rattle.quantity.proofs.Carry.{carried}
use Rattle.quantity.proofs.branchless_saturating_sub.Goals as goal

value : (c : goal.Start) →
    let sum = 4294967296 + c.args.a - c.args.b in
    sum / 4294967296 * (sum % 4294967296) ≡ c.args.a - c.args.b
value c = carried 4294967296 c.args.a c.args.b (omega arith) (omega arith)

pub returns : goal.returns
returns c = value c

pub overflow_mul-result : goal.overflow_mul-result
overflow_mul-result c = omega (arith, value c)

pub overflow_cast-result : goal.overflow_cast-result
overflow_cast-result c = omega (arith, value c)
