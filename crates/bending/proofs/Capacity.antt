-- The moment capacity: how the code works it out, and how large it is.
use Prim.Native.Nat.{ℕ, ◌+◌, ◌-◌, ◌*◌, ◌≤◌, ◌<◌}
use mathlib.Core.Path.{◌≡◌}
use mathlib.Core.Bool.{true}
use native.Mathlib.Nat.{mul-le-mul_left, mul-le-mul_right, le_of_mul-le-mul_right}
use native.Mathlib.Decide.{dec_le}
use native.Mathlib.Omega.{arith}
use Rattle.quantity.proofs.Product.{product_most}
use Rattle.quantity.specs.Rounding.{up, down}
use Rattle.quantity.proofs.Choice.{if_case}
use Rattle.quantity.proofs.Rounding.{expand, up_le, down_le, down_minus_up}
use Rattle.section.specs.declared.Section.{Section}
use Rattle.section.specs.Section.{h₀, a', ξb}
use Rattle.section.specs.Bounded.{Bounded}
use Rattle.bending.specs.Steps.{tension_force, compression_force, t, k, steel_moment, compression_depth, compression_yields, yielded_capacity, couple_capacity, bending_capacity}
use Rattle.bending.proofs.Bounds.{sizes}
use Rattle.bending.proofs.Tests.{depth_compared, yields_tension}

-- On plain numbers: p and q are the forces of the tension and compression steel, t their difference, n/d the depth limit, g = h0 - a'.
depth_scaled : (q t k h n d : ℕ) → n ≤ d → 100 * d * (q + t) ≤ n * h * k + 100 * d * q → 100 * t * d ≤ h * k * d
depth_scaled q t k h n d a b = simp expand (omega (arith, simp expand at b, simp expand at (mul-le-mul_right (h * k) a)))

depth_core : (p q k h n d : ℕ) → n < d → 100 * d * p ≤ n * h * k + 100 * d * q → 100 * (p - q) ≤ h * k
depth_core p q k h n d a b = go (dec_le q p)
  where
    go : Dec (q ≤ p) → 100 * (p - q) ≤ h * k
    go (yes l) =
        let e : p ≡ q + (p - q) = omega arith in
        le_of_mul-le-mul_right (depth_scaled q (p - q) k h n d (omega arith) (rw (← e) b)) (omega arith)
    go (no l) = omega arith

square_core : (t k h y : ℕ) → 100 * t ≤ h * k → 50 * (t * t) ≤ (t * h + y) * k
square_core t k h y a = simp expand (omega (arith, simp expand at (mul-le-mul_left t a)))

steel_core : (p q h g : ℕ) → q ≤ p → g ≤ h → p ≤ 480000000 → h ≤ 2000 → (p - q) * h + q * g ≤ 960000000000
steel_core p q h g a b u v =
    let t = p - q in
    let f : (t + q) * h ≤ 480000000 * 2000 = product_most (t + q) h 480000000 2000 (omega arith) in
    simp expand (omega (arith, simp expand at f, mul-le-mul_left q b))

module _ {x : Section} (p : Bounded x) (d : compression_depth x ≡ true) where
  -- Nothing is cut off at 0 where t²/(2k) is taken off, also where it is rounded up first.
  pub square_within : 50 * (t x * t x) ≤ steel_moment x * k x
  square_within =
      square_core (t x) (k x) (h₀ x) (compression_force x * (h₀ x - a' x))
      (depth_core (tension_force x) (compression_force x) (k x) (h₀ x) (ξb x).num (ξb x).den p.parameters.depth_below (depth_compared x d))

  pub rounded_within : up (50 * (t x * t x)) (k x) ≤ steel_moment x
  rounded_within = up_le (omega (arith, sizes p)) square_within

  pub yielded_value : yielded_capacity x ≡ down (steel_moment x - up (50 * (t x * t x)) (k x)) 10000
  unfolding yielded_capacity
  yielded_value = down_minus_up (steel_moment x) (50 * (t x * t x)) (omega (arith, sizes p)) (omega arith) square_within

module _ {x : Section} (p : Bounded x) where
  pub steel_most : compression_yields x ≡ true → steel_moment x ≤ 960000000000
  steel_most s =
      steel_core (tension_force x) (compression_force x) (h₀ x) (h₀ x - a' x) (yields_tension p s) (omega arith) (sizes p).tension p.h₀_most

  -- A moment capacity has at most eight digits.
  pub capacity_most : bending_capacity x ≤ 96000000
  unfolding bending_capacity yielded_capacity couple_capacity
  capacity_most =
      if_case (λ (n : ℕ). n ≤ 96000000) (compression_yields x) _ _
      (λ s. down_le (omega (arith, sizes p)) (omega (arith, mul-le-mul_right (k x) (steel_most s))))
      (λ s. down_le (omega arith) (sizes p).couple)
