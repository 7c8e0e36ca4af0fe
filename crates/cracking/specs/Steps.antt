-- Document 01's steps for the cracking of a beam under service loads: 4.4.1 and 4.4.2.
use Rattle.std.specs.Prelude.{ℕ, ◌+◌, ◌-◌, ◌*◌, ◌^◌, min, max, Bool, leb, eqb, if◌then◌else◌}
use Rattle.quantity.specs.Rounding.{up, down, clamp}
use Rattle.section.specs.declared.Section.{Section}
use Rattle.section.specs.Section.{h₀, c, W, S, E, D, Mq, ftk, fyk}

-- 4.4.1: 10^6·Mq ≤ 87·fyk·h0·S
unfoldable pub stress_holds : Section → Bool
stress_holds x = leb (10 ^ 6 * Mq x) (87 * fyk x * h₀ x * S x)

-- ---- 4.4.2

-- σ: stress of the tension steel in service, 0.0001 N/mm²
unfoldable pub steel_stress : ℕ → ℕ → ℕ → ℕ
steel_stress Mq h₀ S = up (10 ^ 10 * Mq) (87 * h₀ * S)

-- g: what the concrete between the cracks takes off
unfoldable pub stiffening : ℕ → ℕ → ℕ → ℕ
stiffening ftk W S = down (325 * ftk * W) S

-- q: σ times ψ, the non-uniformity factor of the strain, held to 0.2 to 1
unfoldable pub mean_stress : ℕ → ℕ → ℕ
mean_stress σ g = min σ (max (up σ 5) (up (11 * σ) 10 - g))

-- K: the spacing of the cracks, 0.01 mm
unfoldable pub crack_spacing : ℕ → ℕ → ℕ → ℕ → ℕ → ℕ
crack_spacing c E W D S = 190 * clamp 20 65 c + up (40 * E * W) (D * S)

-- the crack width from q and K, 0.001 mm
unfoldable pub width_of : ℕ → ℕ → ℕ
width_of q K = up (19 * q * K) (2 * 10 ^ 9)

-- σ and q of a section
unfoldable pub σ : Section → ℕ
σ x = steel_stress (Mq x) (h₀ x) (S x)

unfoldable pub q : Section → ℕ
q x = mean_stress (σ x) (stiffening (ftk x) (W x) (S x))

-- crack width, 0.001 mm, and its limit in an environment
unfoldable pub crack_width : Section → ℕ
crack_width x = width_of (q x) (crack_spacing (c x) (E x) (W x) (D x) (S x))

unfoldable pub width_limit : ℕ → ℕ
width_limit environment = if eqb environment 1 then 300 else 200
