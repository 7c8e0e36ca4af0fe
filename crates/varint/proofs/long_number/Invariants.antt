use mathlib.Core.Path.{◌≡◌}
use Prim.Native.Nat.{◌+◌, ◌-◌, ◌^◌, ◌≤◌, ◌<◌}
use Rattle.varint.specs.Varint.{septets_at}
use Rattle.varint.proofs.long_number.Given as goal

abbrev pub invariant-loop-p : goal.invariant-loop-p
invariant-loop-p l =
    let left = l.at + 3 - l.p in
    (left ≤ 3) × (l.w ≡ 128 ^ (5 - left)) × (l.v < l.w) × (1 < l.w) × (septets_at 3 l.src l.at 16384 l.low ≡ septets_at left l.src l.p l.w l.v)
