-- How far each rounded step lies from the same step without rounding (the starred definitions), in thousandths, and its bound.
use Prim.Native.Nat.{ℕ, ◌*◌, ◌^◌, ◌<◌, ◌≤◌}
use native.Mathlib.Nat.{mul-pos, mul-le-mul, le-mul_of_pos_right}
use native.Mathlib.Omega.{arith}
use Rattle.quantity.specs.Rounding.{clamp}
use Rattle.quantity.specs.Fraction.{Frac, ◌//◌, whole, ◌⊕◌, ◌⊖◌, ◌⊗◌, smaller, larger}
use Rattle.quantity.proofs.Rounding.{expand, of_up_le}
use Rattle.quantity.proofs.Near.{Near, times, over, near_whole, near_up_frac, near_down_frac, near_times, near_up, near_sum, near_difference, near_smaller, near_larger, near_product}
use Rattle.cracking.specs.Bounds.{stress_most, spacing_most}
use Rattle.cracking.specs.Steps.{steel_stress, stiffening, mean_stress, crack_spacing, width_of}

-- 12.104 mm, in 0.001 mm
abbrev pub width_most : ℕ
width_most = 12104

unfoldable pub stress* : ℕ → ℕ → ℕ → Frac
stress* Mq h₀ S = (10 ^ 10 * Mq) // (87 * h₀ * S)

unfoldable pub stiffening* : ℕ → ℕ → ℕ → Frac
stiffening* ftk W S = (325 * ftk * W) // S

unfoldable pub mean* : Frac → Frac → Frac
mean* σ g = smaller σ (larger (over σ 5) (over (times 11 σ) 10 ⊖ g))

unfoldable pub spacing* : ℕ → ℕ → ℕ → ℕ → ℕ → Frac
spacing* c E W D S = whole (190 * clamp 20 65 c) ⊕ ((40 * E * W) // (D * S))

unfoldable pub width* : Frac → Frac → Frac
width* q K = over (times 19 q ⊗ K) (2 * 10 ^ 9)

pub near_stress : (Mq h₀ S : ℕ) → 0 < h₀ → 0 < S → steel_stress Mq h₀ S ≤ stress_most →
    Near 1000 (steel_stress Mq h₀ S) (stress* Mq h₀ S) 0 1000 stress_most
unfolding steel_stress stress*
near_stress Mq h₀ S p q u =
    let d-pos : 0 < 87 * h₀ * S = mul-pos (mul-pos (omega arith) p) q in
    near_up_frac 1000 (10 ^ 10 * Mq) (87 * h₀ * S) stress_most d-pos (of_up_le (10 ^ 10 * Mq) d-pos u)

pub near_stiffening : (ftk W S : ℕ) → 0 < S → Near 1000 (stiffening ftk W S) (stiffening* ftk W S) 1000 0 (325 * ftk * W)
unfolding stiffening stiffening*
near_stiffening ftk W S p = near_down_frac 1000 (325 * ftk * W) S (325 * ftk * W) p (le-mul_of_pos_right (325 * ftk * W) p)

pub near_mean : {σ g Y : ℕ} {a b : Frac} → Near 1000 σ a 0 1000 stress_most → Near 1000 g b 1000 0 Y →
    Near 1000 (mean_stress σ g) (mean* a b) 0 3100 stress_most
unfolding mean_stress mean*
near_mean n m =
    near_smaller n (near_larger (near_up (omega arith) n) (near_difference (near_up (omega arith) (near_times 11 n)) m))

pub clamp_most : (c : ℕ) → clamp 20 65 c ≤ 65
unfolding clamp
clamp_most c = omega arith

pub near_spacing : (c E W D S : ℕ) → 0 < D → 0 < S → W ≤ 100 * S → E ≤ 50 * D →
    Near 1000 (crack_spacing c E W D S) (spacing* c E W D S) 0 1000 spacing_most
unfolding crack_spacing spacing*
near_spacing c E W D S p q v w =
    near_sum (near_whole 1000 (190 * clamp 20 65 c) 12350 (omega (arith, clamp_most c)))
    (near_up_frac 1000 (40 * E * W) (D * S) 200000 (mul-pos p q) (simp expand (omega (arith, simp expand at (mul-le-mul w v)))))

pub near_width : {q K : ℕ} {a b : Frac} → Near 1000 q a 0 3100 stress_most → Near 1000 K b 0 1000 spacing_most →
    Near 1000 (width_of q K) (width* a b) 0 1064 width_most
unfolding width_of width*
near_width n m = near_up (omega arith) (near_product (near_times 19 n) m)
