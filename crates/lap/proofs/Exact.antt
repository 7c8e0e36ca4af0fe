-- The clause's length is that of the steps before it is rounded.
use Prim.Native.Nat.{ℕ, ◌+◌, ◌*◌, ◌<◌}
use native.Mathlib.Omega.{arith}
use lib.Dec.{leb, eqb}
use Rattle.std.specs.Prelude.{if◌then◌else◌}
use Rattle.quantity.specs.Fraction.{Frac, ◌//◌, whole, ◌⊕◌}
use Rattle.quantity.proofs.Rounding.{expand}
use Rattle.quantity.proofs.Fraction.{Same, same_refl, same_sym, same_trans, same_sum, level}
use Rattle.member.specs.Member.{Mesh}
use Rattle.lap.specs.Steps.{lap_length, lap_row, lap_least, tension_lap, required_lap}
use Rattle.lap.specs.Exact.{exact_tension, exact_lap}
use Rattle.quantity.specs.Safe.{NotBelow}
use Rattle.quantity.proofs.Safe.{up_not_below, same_not_below}
use Rattle.anchorage.proofs.Exact.{choice_same, least_same, product_same, numeral_same, basic_same}

-- ---- A fraction that is n / k: plus w, and over a larger denominator.

plus_same : (w : ℕ) {a : Frac} {n k : ℕ} → Same a (n // k) → Same (a ⊕ whole w) ((n + k * w) // k)
unfolding ◌⊕◌
plus_same w {a} {n} {k} s =
    same_trans (same_sum s (same_refl (whole w) (omega arith)))
    (record { pos = omega (arith, s.pos'); pos' = s.pos'; same = simp level (omega arith) })

finer_same : (w : ℕ) {a : Frac} {n k : ℕ} → 0 < w * k → Same a (n // k) → Same a ((w * n) // (w * k))
finer_same w {a} {n} {k} p s =
    same_trans s (record { pos = s.pos'; pos' = p; same = simp expand (omega arith) })

-- ---- The length.

pub tension_same : (x : Mesh) → Same (exact_tension x) (tension_lap x // 100000)
unfolding exact_tension tension_lap
tension_same x =
    plus_same (if leb 12 x.d then 5 * x.d else 0)
    (least_same (lap_least x.lapping) (product_same (numeral_same 13 10 13 10 (omega arith)) (basic_same (lap_row x.lapping) 0 x)))

pub lap_same : (x : Mesh) → Same (exact_lap x) (required_lap x // 1000000)
unfolding exact_lap required_lap
lap_same x =
    choice_same (eqb x.compression 1)
    (least_same 150 (product_same (numeral_same 7 10 7 10 (omega arith)) (tension_same x)))
    (finer_same 10 (omega arith) (tension_same x))

-- ---- The figure is on the safe side, at less than 1 mm.

pub lap_safe : (x : Mesh) → NotBelow (lap_length x) (whole 1) (exact_lap x)
unfolding lap_length
lap_safe x = same_not_below (omega arith) (same_sym (lap_same x)) (up_not_below (required_lap x) 1000000 (omega arith))
