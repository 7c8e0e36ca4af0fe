-- `text_answer::put_whole` meets its contract.
use native.Mathlib.Omega.{arith}
use Rattle.text_answer.proofs.Printed.{printed, printed_whole}
use Rattle.text_answer.proofs.put_whole.Goals.{else-out-most-via-then-out-most+else-out-put_alone, else-out-most-via-else-out-most}
use Rattle.text_answer.proofs.put_whole.Goals as goal

pub returns : goal.returns
returns g c =
    elim c.else-out-most.branch [
      | else-out-most-via-then-out-most+else-out-put_alone w ↦ printed _ _ _ _ _ _ w.put_alone.ensures (omega arith) (omega (arith, w.if-out-put_alone.false)) c.put_alone-2.ensures
      | else-out-most-via-else-out-most w ↦ printed_whole _ _ _ (omega (arith, c.requires.1.1.0, w.if-out-most.false)) c.put_alone-2.ensures
    ]
