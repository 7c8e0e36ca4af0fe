-- `encoding::put_row` meets its contract.
use Prim.Native.Nat.{◌-◌}
use native.Mathlib.Omega.{arith}
use Rattle.text.proofs.Put.{leaves_all, leaves_more, leaves_none}
use Rattle.field_layout.proofs.Part.{part_slice}
use Rattle.encoding.proofs.Rows.{row_more, row_none}
use Rattle.encoding.proofs.put_row.Goals as goal

pub loop-n-init : goal.loop-n-init
loop-n-init c = leaves_all _ _ (omega arith)

pub loop-n-preserved : goal.loop-n-preserved
loop-n-preserved c =
    leaves_more _ _ (rw (row_more _ c.loop-n.n-index c.loop-n-test.true) at c.loop-n.invariant) c.put_number.ensures

pub returns : goal.returns
returns c =
    rw (part_slice c.args.v.now c.args.from (c.args.end - c.args.from) (omega arith))
    (leaves_none (rw (row_none _ c.loop-n.n-index c.loop-n-test.false) at c.loop-n.invariant))
