-- `decimal::set_medium` meets its contract.
use Prim.Native.Nat.{◌/◌}
use native.Mathlib.Omega.{arith}
use Rattle.text.proofs.Put.{wrote_then}
use Rattle.text.proofs.Decimal.{decimal_short}
use Rattle.decimal.proofs.Put.{put_room}
use Rattle.decimal.proofs.Decimal.{decimal_hundred}
use Rattle.decimal.proofs.set_medium.Goals as goal

pub set_two-requires : goal.set_two-requires
set_two-requires c =
    let v = c.args.v in
    (omega arith, put_room 2 2 c.set_short-else-v-lt100.ensures.put (decimal_short 2 (v / 100) (omega arith) (omega arith)) (omega arith))

pub returns-else-v-lt100 : goal.returns-else-v-lt100
returns-else-v-lt100 c =
    rw (decimal_hundred c.args.v (omega arith)) (wrote_then c.set_short-else-v-lt100.ensures c.set_two.ensures)
