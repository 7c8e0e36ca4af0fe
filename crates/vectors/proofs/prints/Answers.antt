-- `vectors::prints` meets its contract.
use Prim.Native.Nat.{◌≤◌}
use mathlib.Core.Path.{◌≡◌, ◌∙◌}
use native.Mathlib.Omega.{arith}
use lib.ListN.{length, take}
use Rattle.program_output.proofs.ProgramOutput.{within}
use Rattle.vectors.proofs.Bytes.{output}
use Rattle.vectors.proofs.prints.Goals as goal
use Rattle.vectors.proofs.prints.Goals.{After-print_schedule-n}

-- what is printed stands within the buffer
printed : (c : After-print_schedule-n) →
    let n = c.print_schedule-n.result in
    let out = c.print_schedule-n.new.out in
    (n ≤ length out) × (n ≡ length (take n out))
printed c = within _ _ _ _ c.print_schedule-n.ensures (omega arith)

pub slice_bounds-out-end : goal.slice_bounds-out-end
slice_bounds-out-end c = (printed (goal.at.slice_bounds-out-end c).After-print_schedule-n).0

pub slice_bounds-same-end : goal.slice_bounds-same-end
slice_bounds-same-end c = (printed (goal.at.slice_bounds-same-end c).After-print_schedule-n).1

pub returns : goal.returns
returns c =
    let e = output _ _ _ _ c.print_schedule-n.ensures (omega arith) in
    c.same.ensures ∙ rw e
