-- `decimal::set_long` meets its contract.
use Prim.Native.Nat.{◌/◌}
use native.Mathlib.Omega.{arith}
use Rattle.text.proofs.Put.{wrote_then}
use Rattle.text.proofs.Decimal.{decimal_short}
use Rattle.decimal.proofs.Put.{put_room}
use Rattle.decimal.proofs.Decimal.{decimal_10000}
use Rattle.decimal.proofs.set_long.Goals as goal

pub set_four-requires : goal.set_four-requires
set_four-requires c =
    let v = c.args.v in
    (omega arith, put_room 4 4 c.set_medium-else-v-lt10000.ensures.put (decimal_short 4 (v / 10000) (omega arith) (omega arith)) (omega arith))

pub returns-else-v-lt10000 : goal.returns-else-v-lt10000
returns-else-v-lt10000 c =
    rw (decimal_10000 c.args.v (omega arith)) (wrote_then c.set_medium-else-v-lt10000.ensures c.set_four.ensures)
