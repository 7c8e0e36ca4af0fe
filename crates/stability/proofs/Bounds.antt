-- The size of the stability factor: at most 1.
use Prim.Native.Nat.{ℕ, ◌*◌, ◌≤◌}
use native.Mathlib.Nat.{mul-le-mul_right}
use native.Mathlib.Omega.{arith}
use lib.Dec.{leb}
use Rattle.quantity.proofs.Choice.{choice_most}
use Rattle.code_tables.proofs.Slenderness.{point_falls}
use Rattle.stability.specs.Steps.{interval, interpolated, stability}

between_most : (i l b : ℕ) → i ≤ 20 → interpolated i l b ≤ 200 * b
unfolding interpolated
between_most i l b h = omega (arith, mul-le-mul_right (2 * b) (point_falls i (omega arith)).0)

pub stability_most : (l b : ℕ) → stability l b ≤ 200 * b
unfolding stability interval
stability_most l b = omega (arith, choice_most (leb l (8 * b)) (200 * b) (interpolated (interval l b) l b), between_most (interval l b) l b (omega arith))
