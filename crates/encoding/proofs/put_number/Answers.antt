-- `encoding::put_number` meets its contract.
use Prim.Native.Nat.{◌+◌, ◌%◌}
use mathlib.Core.List.{[], ◌∷◌}
use native.Mathlib.Omega.{arith}
use Rattle.text.proofs.Put.{leaves_all, leaves_more}
use Rattle.encoding.proofs.Septets.{next_septet, last_septet}
use Rattle.encoding.proofs.put_number.Goals as goal

pub loop-rest-init : goal.loop-rest-init
loop-rest-init c = (omega arith, leaves_all _ _ (omega arith))

pub loop-rest-preserved : goal.loop-rest-preserved
loop-rest-preserved c =
    let l = c.loop-rest in
    (omega arith, leaves_more ((l.rest % 128 + 128) ∷ []) _ (rw (next_septet l.rest (omega arith) c.loop-rest-test.true) at l.invariant.1) c.put_byte.ensures)

pub returns : goal.returns
returns c =
    c.loop-rest.invariant.1.whole _ (rw (last_septet c.loop-rest.rest c.loop-rest-test.false) c.put_byte-2.ensures)
