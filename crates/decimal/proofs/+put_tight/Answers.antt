-- `decimal::put_tight` meets its contract: eight digits copied from an array, behind those before them.
use borrow.Author.Rules.{rules}
use native.Mathlib.Omega.{arith}
use Prim.Native.Nat.{ℕ}
use mathlib.Core.Path.{refl}
use lib.ListN.{length-take}
use Rattle.text.proofs.Put.{wrote_then}
use Rattle.text.proofs.Decimal.{decimal_short}
use Rattle.decimal.proofs.Put.{wrote_copied, wrote_whole}
use Rattle.decimal.proofs.Decimal.{decimal_eight}
use Rattle.decimal.proofs.+put_tight.Goals as goal

pub slice_bounds-digits-end : goal.slice_bounds-digits-end
slice_bounds-digits-end t c =
    omega (arith, decimal_short 8 c.args.v (omega arith) (omega arith))

pub slice_bounds-put-end : goal.slice_bounds-put-end
slice_bounds-put-end t c =
    let h = decimal_short 8 c.args.v (omega arith) (omega arith) in
    omega (arith, length-take {A = ℕ})

pub returns-then-v-lt100000000 : goal.returns-then-v-lt100000000
returns-then-v-lt100000000 t c =
    wrote_copied c.set_long.ensures (search rules) (rw c.new-last.ensures.held (decimal_short 8 c.args.v (omega arith) (omega arith))) c.put.ensures (search rules)

pub returns-else-v-lt100000000 : goal.returns-else-v-lt100000000
returns-else-v-lt100000000 t c =
    rw (decimal_eight c.args.v c.if-v-lt100000000.false)
    (wrote_then c.put_tight.ensures (wrote_whole (wrote_then c.set_four.ensures c.set_four-else-v-lt100000000.ensures) (search rules) (rw c.new-last-else-v-lt100000000.ensures.held refl) c.put-else-v-lt100000000.ensures (search rules)))
