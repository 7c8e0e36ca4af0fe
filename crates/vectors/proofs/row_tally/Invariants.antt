use Prim.Native.Nat.{◌+◌, ◌-◌, ◌≤◌}
use mathlib.Core.Path.{◌≡◌}
use lib.ListN.{length}
use Rattle.vectors.specs.Vectors.{starts, equal_of}
use Rattle.vectors.proofs.Walk.{left}
use Rattle.vectors.proofs.row_tally.Given as goal

abbrev pub invariant-loop-p : goal.invariant-loop-p
invariant-loop-p l =
    (l.vectors ≤ l.p) × (l.vectors ≤ length l.src) × (l.equal ≤ l.vectors)
    × (length (starts l.src) ≡ l.vectors + length (left l.src l.vectors l.p))
    × (equal_of l.src (starts l.src) ≡ l.equal + equal_of l.src (left l.src l.vectors l.p))

abbrev pub decreases-loop-p : goal.decreases-loop-p
decreases-loop-p l = length l.src - l.p
