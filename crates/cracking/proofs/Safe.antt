-- The crack width is safe, and what the checks of stress and width say of the exact inequalities; the sizes of the stresses.
use Prim.Native.Nat.{ℕ, ◌*◌, ◌^◌, ◌<◌, ◌≤◌}
use mathlib.Core.Path.{◌≡◌}
use mathlib.Core.Bool.{Bool, true, false}
use native.Mathlib.Nat.{mul-pos, mul-le-mul_right}
use native.Mathlib.Omega.{arith}
use lib.Dec.{leb, eqb}
use Rattle.std.specs.Prelude.{if◌then◌else◌}
use Rattle.quantity.proofs.Choice.{if_case}
use Rattle.quantity.specs.Fraction.{Frac, ◌//◌, whole, Proper, ◌⊖◌, ◌⊗◌, ◌≼◌, ◌≺◌}
use Rattle.quantity.specs.Safe.{NotBelow}
use Rattle.quantity.proofs.Reflects.{Settles, Reflects, settles_as, compared, reflects_le}
use Rattle.quantity.proofs.Rounding.{expand, up_le}
use Rattle.quantity.proofs.Fraction.{same_sym, scale-≼}
use Rattle.quantity.proofs.Near.{Near, near_same, near_not_below}
use Rattle.quantity.proofs.Safe.{limit_settles}
use Rattle.section.specs.declared.Section.{Section}
use Rattle.section.specs.Section.{h, h₀, c, G, W, S, E, D, Mq, ftk, fyk}
use Rattle.section.specs.Bounded.{Bounded}
use Rattle.cracking.specs.Bounds.{stress_most, spacing_most}
use Rattle.cracking.specs.Steps.{stress_holds, steel_stress, stiffening, crack_spacing, σ, q, crack_width, width_limit}
use Rattle.cracking.specs.Exact.{exact_width, exact_width_limit, in_thousandths, StressHolds, WidthHolds}
use Rattle.cracking.proofs.Rounded.{width_most, stress*, stiffening*, mean*, spacing*, near_stress, near_stiffening, near_mean, near_spacing, near_width}
use Rattle.cracking.proofs.Bounds.{mean_most}
use Rattle.cracking.proofs.Clause.{width_same}

-- ---- What the checks before give: 4.4.1 bounds the stress for any fyk up to 600, and 6.3.1 the steel ratio.

pub stress_reflects : (x : Section) → Reflects (stress_holds x) (StressHolds x)
unfolding stress_holds
stress_reflects x = reflects_le _ _

stress_core : (m k d s : ℕ) → 0 < d → 0 < s → k ≤ 600 → 10 ^ 6 * m ≤ 87 * k * d * s → 10 ^ 10 * m ≤ stress_most * (87 * d * s)
stress_core m k d s p q u v = simp expand (omega (arith, simp expand at v, mul-le-mul_right (d * s) u))

pub σ_most : (x : Section) → Bounded x → stress_holds x ≡ true → σ x ≤ stress_most
unfolding σ steel_stress
σ_most x a e =
    let d : 0 < 87 * h₀ x * S x = mul-pos (mul-pos (omega arith) a.h₀_least) a.S_least in
    up_le d (stress_core (Mq x) (fyk x) (h₀ x) (S x) a.h₀_least a.S_least a.steel.fyk.most ((stress_reflects x).holds e))

pub q_most : (x : Section) → Bounded x → stress_holds x ≡ true → q x ≤ stress_most
unfolding q
q_most x a e = omega (arith, mean_most (σ x) (stiffening (ftk x) (W x) (S x)), σ_most x a e)

pub ruleset stress_sizes = (σ_most, q_most)

web_most : (x : Section) → G x ≤ 50 * S x → W x ≤ 100 * S x
web_most x h = omega arith

-- ---- Each step near its unrounded one.

module _ (x : Section) (a : Bounded x) (e : stress_holds x ≡ true) where
  pub near_σ : Near 1000 (σ x) (stress* (Mq x) (h₀ x) (S x)) 0 1000 stress_most
  unfolding σ
  near_σ = near_stress (Mq x) (h₀ x) (S x) a.h₀_least a.S_least (σ_most x a e)

  pub near_q : Near 1000 (q x) (mean* (stress* (Mq x) (h₀ x) (S x)) (stiffening* (ftk x) (W x) (S x))) 0 3100 stress_most
  unfolding q
  near_q = near_mean near_σ (near_stiffening (ftk x) (W x) (S x) a.S_least)

  module _ (g : G x ≤ 50 * S x) where
    near_K : Near 1000 (crack_spacing (c x) (E x) (W x) (D x) (S x)) (spacing* (c x) (E x) (W x) (D x) (S x)) 0 1000 spacing_most
    near_K = near_spacing (c x) (E x) (W x) (D x) (S x) a.D_least a.S_least (web_most x g) a.E_most

    pub width_most_lem : crack_width x ≤ width_most
    unfolding crack_width
    width_most_lem = (near_width near_q near_K).most

    pub width_safe : NotBelow (crack_width x) (11 // 10) (whole 1000 ⊗ exact_width x)
    unfolding crack_width
    width_safe =
        near_not_below (11 // 10) (omega arith)
        (near_same (same_sym (width_same x a.Mq_least a.h₀_least a.S_least a.D_least)) (near_width near_q near_K))

-- ---- Verdicts.

width_limit_proper : (x : Section) → Proper (whole 1000 ⊗ exact_width_limit x)
unfolding ◌⊗◌ exact_width_limit
width_limit_proper x = if_case (λ (a : Frac). Proper (whole 1000 ⊗ a)) (eqb x.environment 1) (3 // 10) (2 // 10) (λ e. omega arith) (λ e. omega arith)

width_limit_lem : (x : Section) (v : ℕ) →
    Settles (leb v (width_limit x.environment)) (whole v ≼ whole 1000 ⊗ exact_width_limit x) (whole 1000 ⊗ exact_width_limit x ≺ whole v)
unfolding ◌⊗◌ exact_width_limit width_limit
width_limit_lem x v = go (eqb x.environment 1)
  where
    go : (t : Bool) →
        Settles (leb v (if t then 300 else 200)) (whole v ≼ whole 1000 ⊗ (if t then 3 // 10 else 2 // 10))
        (whole 1000 ⊗ (if t then 3 // 10 else 2 // 10) ≺ whole v)
    go true = settles_as (λ h. omega arith) (λ h. omega arith) (compared v 300)
    go false = settles_as (λ h. omega arith) (λ h. omega arith) (compared v 200)

pub width_settles : (x : Section) → Bounded x → stress_holds x ≡ true → G x ≤ 50 * S x →
    Settles (leb (crack_width x) (width_limit x.environment)) (WidthHolds x) (in_thousandths (exact_width_limit x) ⊖ in_thousandths (exact_width x) ≺ 11 // 10)
width_settles x a e g =
    settles_as (scale-≼ 1000 (exact_width x) (exact_width_limit x) (omega arith)) (λ h. h)
    (limit_settles (whole 1000 ⊗ exact_width_limit x) (width_limit_proper x) (width_safe x a e g) (width_limit_lem x (crack_width x)))
