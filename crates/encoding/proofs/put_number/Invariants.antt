use Prim.Native.Nat.{◌≤◌}
use Rattle.text.proofs.Put.{Leaves}
use Rattle.varint.specs.Encoding.{bytes_of}
use Rattle.encoding.proofs.put_number.Given as goal

abbrev pub invariant-loop-rest : goal.invariant-loop-rest
invariant-loop-rest l = (l.rest ≤ l.v) × Leaves l.initial.w (bytes_of l.v) l.w (bytes_of l.rest)

abbrev pub decreases-loop-rest : goal.decreases-loop-rest
decreases-loop-rest l = l.rest
