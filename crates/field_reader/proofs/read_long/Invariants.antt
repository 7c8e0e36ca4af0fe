use mathlib.Core.Path.{◌≡◌}
use Prim.Native.Nat.{suc, ◌+◌, ◌-◌, ◌^◌, ◌≤◌, ◌<◌}
use lib.ListN.{get_or}
use Rattle.varint.specs.Varint.{septets_at}
use Rattle.field_reader.proofs.read_long.Given as goal

abbrev pub invariant-loop-b : goal.invariant-loop-b
invariant-loop-b l =
    (l.p ≤ l.at + 2) × (l.at ≤ l.p) × (l.w ≡ 128 ^ (l.p - l.at + 2)) × (l.v < l.w) × (l.b < 256) × (l.b ≡ get_or l.src l.p 0)
    × (septets_at 3 l.src l.at 16384 l.low ≡ septets_at (suc (l.at + 2 - l.p)) l.src l.p l.w l.v)

abbrev pub decreases-loop-b : goal.decreases-loop-b
decreases-loop-b l = l.at + 3 - l.p
