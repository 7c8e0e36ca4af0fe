-- `text::Writer::put_each` meets its contract: after i turns the first i bytes are put.
use Prim.Native.Nat.{◌<◌}
use native.Mathlib.Numerals.{add-one}
use native.Mathlib.Omega.{arith}
use lib.ListN.{length}
use lib.Seq.{take-suc}
use Rattle.text.proofs.Put.{wrote_then}
use Rattle.text.proofs.Writer.put_each.Goals as goal

pub loop-b-preserved : goal.loop-b-preserved
loop-b-preserved c =
    let s = c.args.s.now in
    let i = c.loop-b.b-index in
    let h : i < length s = omega arith in
    rw (add-one, take-suc s i 0 h) (wrote_then c.loop-b.invariant c.put_byte.ensures)
