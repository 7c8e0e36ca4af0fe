-- A point load near the support leaves what a uniform load leaves: 1.75/(1.5 + 1) is 0.7.
use Prim.Native.Nat.{ℕ, ◌+◌, ◌*◌, ◌≤◌, ◌<◌}
use mathlib.Core.Path.{◌≡◌}
use native.Mathlib.Nat.{mul-pos, mul-le-mul_right, mul-lt-mul_of_pos_right}
use native.Mathlib.Omega.{arith}
use Rattle.quantity.specs.declared.Length.{Length}
use Rattle.quantity.specs.Rounding.{down, clamp}
use Rattle.quantity.proofs.Rounding.{expand, down_below, down_above, down_is}
use Rattle.member.specs.declared.Load.TheVariants.{Uniform, Point}
use Rattle.section.specs.declared.Section.{Section}
use Rattle.section.specs.Section.{b, h₀, ft}
use Rattle.shear.specs.Steps.{concrete_part, clamped_ratio, concrete_under}

-- a factor above and below
down_scaled : (n d k : ℕ) → 0 < d → 0 < k → down (n * k) (d * k) ≡ down n d
down_scaled n d k p q =
    down_is (mul-pos p q)
    (simp expand (omega (arith, simp expand at (mul-le-mul_right k (down_below n d)))))
    (simp expand (omega (arith, simp expand at (mul-lt-mul_of_pos_right (down_above n p) q))))

pub near_support_same : (x : Section) (a : Length) → 1 ≤ h₀ x → 2 * a.0 ≤ 3 * h₀ x → concrete_under (Point a) x ≡ concrete_under Uniform x
unfolding clamp
near_support_same x a p h =
    let e : 10000 * (clamped_ratio x a + 2 * h₀ x) ≡ 1000 * (50 * h₀ x) = omega arith in
    let f : 175 * ft x * b x * h₀ x * (2 * h₀ x) ≡ concrete_part x * (50 * h₀ x) = simp expand (omega arith) in
    rw (e, f) (down_scaled (concrete_part x) 1000 (50 * h₀ x) (omega arith) (omega arith))
