-- How far each rounded step lies from the same step without rounding (the starred definitions), in thousandths, and its bound.
use Prim.Native.Nat.{ℕ, ◌-◌, ◌*◌, ◌^◌, ◌<◌, ◌≤◌, min}
use mathlib.Core.Bool.{Bool, true, false}
use native.Mathlib.Nat.{mul-pos, mul-le-mul, mul-le-mul_right, mul_assoc}
use native.Mathlib.Omega.{arith}
use Rattle.std.specs.Prelude.{if◌then◌else◌}
use Rattle.quantity.specs.Rounding.{down}
use Rattle.quantity.specs.Fraction.{Frac, ◌//◌, whole, ◌⊕◌, ◌⊖◌, ◌⊗◌}
use Rattle.quantity.proofs.Near.{Near, times, over, near_whole, near_up_frac, near_down_frac, near_weaken, near_times, near_up, near_up_ratio, near_sum, near_difference, near_product}
use Rattle.cracking.specs.Bounds.{stress_most}
use Rattle.deflection.specs.Bounds.{flexibility_most, curvature_most, short_term_most, long_term_most, deflection_most}
use Rattle.deflection.specs.Steps.{flexibility, curvature, short_term, long_term, deflection_of}

unfoldable pub flexibility* : ℕ → ℕ → ℕ → ℕ → Frac
flexibility* S Ec b h₀ = whole 200000 ⊕ ((12 * 10 ^ 10 * S) // (Ec * b * h₀))

unfoldable pub curvature* : Frac → Frac → Frac → Frac
curvature* q z σ = over (times 115 q) 100 ⊕ over (z ⊗ σ) (10 ^ 6)

unfoldable pub short* : ℕ → ℕ → Frac → Frac
short* l₀ h₀ r = over (times (29 * (l₀ * l₀)) r) (6400 * h₀)

unfoldable pub creep* : ℕ → ℕ → Frac
creep* S S' = whole (2 * 10 ^ 6) ⊖ ((400000 * min S S') // S)

unfoldable pub long* : ℕ → ℕ → Bool → Frac
long* S S' flanged = if flanged then over (times 6 (creep* S S')) 5 else creep* S S'

unfoldable pub deflection* : Frac → Frac → Frac
deflection* u θ = over (u ⊗ θ) (10 ^ 12)

pub near_flexibility : (S Ec b h₀ : ℕ) → 0 < S → 5 * S ≤ 2 * b * h₀ → 25500 ≤ Ec →
    Near 1000 (flexibility S Ec b h₀) (flexibility* S Ec b h₀) 0 1000 flexibility_most
unfolding flexibility flexibility*
near_flexibility S Ec b h₀ p steel stiff =
    let area : 5 * S ≤ 2 * (b * h₀) = simp mul_assoc at steel in
    let d-pos : 0 < Ec * b * h₀ = simp mul_assoc (mul-pos (omega arith) (omega arith)) in
    near_sum (near_whole 1000 200000 200000 (omega arith))
    (near_up_frac 1000 (12 * 10 ^ 10 * S) (Ec * b * h₀) 1882353 d-pos (simp mul_assoc (omega (arith, mul-le-mul_right (b * h₀) stiff))))

pub near_curvature : {q z σ : ℕ} {a b c : Frac} → Near 1000 q a 0 3100 stress_most → Near 1000 z b 0 1000 flexibility_most →
    Near 1000 σ c 0 1000 stress_most → Near 1000 (curvature q z σ) (curvature* a b c) 0 13648 curvature_most
unfolding curvature curvature*
near_curvature n m k = near_sum (near_up (omega arith) (near_times 115 n)) (near_up (omega arith) (near_product m k))

pub near_short : {r : ℕ} {a : Frac} (l₀ h₀ : ℕ) → 0 < h₀ → l₀ ≤ 30 * h₀ → l₀ ≤ 12000 →
    Near 1000 r a 0 13648 curvature_most → Near 1000 (short_term l₀ h₀ r) (short* l₀ h₀ a) 0 22264300 short_term_most
unfolding short_term short*
near_short l₀ h₀ p u v n = near_up_ratio (29 * (l₀ * l₀)) 163125 100 (omega (arith, mul-le-mul v u)) n

near_creep : (S S' : ℕ) → 0 < S →
    Near 1000 (2 * 10 ^ 6 - down (400000 * min S S') S) (creep* S S') 0 1000 2000000
unfolding creep*
near_creep S S' p =
    near_difference (near_whole 1000 (2 * 10 ^ 6) 2000000 (omega arith)) (near_down_frac 1000 (400000 * min S S') S 400000 p (omega arith))

pub near_long : (S S' : ℕ) (flanged : Bool) → 0 < S → Near 1000 (long_term S S' flanged) (long* S S' flanged) 0 2200 long_term_most
unfolding long_term long*
near_long S S' true p = near_up (omega arith) (near_times 6 (near_creep S S' p))
near_long S S' false p = near_weaken (near_creep S S' p) (omega arith)

pub near_deflection : {u θ : ℕ} {a b : Frac} → Near 1000 u a 0 22264300 short_term_most → Near 1000 θ b 0 2200 long_term_most →
    Near 1000 (deflection_of u θ) (deflection* a b) 0 1124 deflection_most
unfolding deflection_of deflection*
near_deflection n m = near_up (omega arith) (near_product n m)
