-- The exact φ is that of the steps, over 200·b.
use Prim.Native.Nat.{ℕ, ◌+◌, ◌-◌, ◌*◌, ◌<◌}
use mathlib.Core.Bool.{Bool, true, false}
use native.Mathlib.Omega.{arith}
use lib.Dec.{leb}
use Rattle.std.specs.Prelude.{if◌then◌else◌}
use Rattle.quantity.specs.Fraction.{◌//◌, whole, ◌⊖◌, ◌⊗◌, ◌⊘◌}
use Rattle.quantity.proofs.Rounding.{expand}
use Rattle.quantity.proofs.Fraction.{level, Same, same_refl, same_trans, same_difference, same_product}
use Rattle.code_tables.specs.Slenderness.{point}
use Rattle.stability.specs.Steps.{interval, interpolated, stability}
use Rattle.stability.specs.Exact.{exact_interpolated, exact_stability}
use Rattle.stability.proofs.Interval.{interval_found}

offset_same : (l b k : ℕ) → 0 < b → Same ((l // b ⊖ whole k) ⊘ whole 2) ((l - k * b) // (2 * b))
unfolding ◌⊖◌ ◌⊘◌
offset_same l b k p = record { pos = omega arith; pos' = omega arith; same = simp level (omega arith) }

drop_same : (q y b : ℕ) → 0 < b → Same (q // 100 ⊗ y // (2 * b)) ((q * y) // (200 * b))
unfolding ◌⊗◌
drop_same q y b p = record { pos = omega arith; pos' = omega arith; same = simp expand (omega arith) }

rest_same : (p z b : ℕ) → 0 < b → Same (p // 100 ⊖ z // (200 * b)) ((p * (2 * b) - z) // (200 * b))
unfolding ◌⊖◌
rest_same p z b u = record { pos = omega arith; pos' = omega arith; same = simp level (omega arith) }

between_same : (i l b : ℕ) → 0 < b → Same (exact_interpolated i l b) (interpolated i l b // (200 * b))
unfolding exact_interpolated interpolated
between_same i l b p =
    let q = point i - point (i + 1) in
    let y = l - (8 + 2 * i) * b in
    let drop = same_trans (same_product (same_refl (q // 100) (omega arith)) (offset_same l b (8 + 2 * i) p)) (drop_same q y b p) in
    same_trans (same_difference (same_refl (point i // 100) (omega arith)) drop) (rest_same (point i) (q * y) b p)

pub stability_same : (l b : ℕ) → 0 < b → Same (exact_stability l b) (stability l b // (200 * b))
unfolding exact_stability stability
stability_same l b p = rw (interval_found l b p) (go (leb l (8 * b)))
  where
    go : (t : Bool) → Same (if t then whole 1 else exact_interpolated (interval l b) l b) ((if t then 200 * b else interpolated (interval l b) l b) // (200 * b))
    go true = record { pos = omega arith; pos' = omega arith; same = omega arith }
    go false = between_same (interval l b) l b p
