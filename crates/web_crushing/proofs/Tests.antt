-- The test of the web reflects its exact inequality: one formula for the three cases of β.
use Prim.Native.Nat.{ℕ, ◌-◌, ◌*◌, ◌≤◌, ◌<◌}
use mathlib.Core.Path.{◌≡◌}
use native.Mathlib.Omega.{arith}
use Rattle.quantity.specs.Rounding.{clamp}
use Rattle.quantity.specs.Fraction.{Frac, ◌//◌, whole, ◌⊖◌, ◌⊗◌, ◌⊘◌}
use Rattle.quantity.proofs.Fraction.{Same, same_refl, same_sym, same_trans, same_product, ≼-same}
use Rattle.quantity.proofs.Reflects.{Reflects, compared, settled_case, reflects_le, settles_as}
use Rattle.quantity.proofs.Rounding.{expand}
use Rattle.quantity.proofs.Unit.{exact_tenths}
use Rattle.section.specs.declared.Section.{Section}
use Rattle.section.specs.Section.{b, h₀, Vd, fc, βc}
use Rattle.section.specs.Bounded.{Bounded}
use Rattle.web_crushing.specs.Steps.{scaled_width, web_holds}
use Rattle.web_crushing.specs.Exact.{β, exact_web_limit, WebHolds}

-- 0.25 - 0.05·(h/b - 4)/2 is (14·b - h)/(40·b)
line_core : (b h : ℕ) → 0 < b → 4 * b < h → h < 6 * b →
    Same ((25 * (100 * (b * 1 * 2)) - 100 * (5 * ((h * 1 - b * 4) * 1))) // (100 * (100 * (b * 1 * 2)))) ((14 * b - h) // (40 * b))
line_core b h p u v =
    let n : 25 * (100 * (b * 1 * 2)) - 100 * (5 * ((h * 1 - b * 4) * 1)) ≡ 500 * (14 * b - h) = omega arith in
    let d : 100 * (100 * (b * 1 * 2)) ≡ 500 * (40 * b) = omega arith in
    rw (n, d) (record { pos = omega arith; pos' = omega arith; same = simp expand })

module _ (x : Section) (p : 0 < b x) where
  -- the factor β, as 40·β·b over 40·b
  IsFactor : Frac → Type 0
  IsFactor f = Same f (scaled_width x // (40 * b x))

  stocky : h₀ x ≤ 4 * b x → IsFactor (25 // 100)
  unfolding IsFactor clamp
  stocky u =
      let e : scaled_width x ≡ 10 * b x = omega arith in
      rw e (record { pos = omega arith; pos' = omega arith; same = omega arith })

  slender : 6 * b x ≤ h₀ x → IsFactor (20 // 100)
  unfolding IsFactor clamp
  slender u =
      let e : scaled_width x ≡ 8 * b x = omega arith in
      rw e (record { pos = omega arith; pos' = omega arith; same = omega arith })

  between : 4 * b x < h₀ x → h₀ x < 6 * b x → IsFactor (25 // 100 ⊖ 5 // 100 ⊗ ((h₀ x // b x ⊖ whole 4) ⊘ whole 2))
  unfolding IsFactor clamp ◌⊖◌ ◌⊗◌ ◌⊘◌
  between u v =
      let e : scaled_width x ≡ 14 * b x - h₀ x = omega arith in
      rw e (line_core (b x) (h₀ x) p u v)

  β_same : IsFactor (β x)
  unfolding β
  β_same =
      settled_case IsFactor (compared _ _) (λ u. settled_case IsFactor (compared _ _) (λ v. between u v) slender) stocky

-- w/(40·b)·(c/30)·(g/10)·b·h is w·c·g·h/12000
limit_core : (w c g b h : ℕ) → 0 < b → Same (w // (40 * b) ⊗ (c // 30) ⊗ (g // 10) ⊗ whole b ⊗ whole h) ((w * c * g * h) // 12000)
unfolding ◌⊗◌
limit_core w c g b h p = record { pos = omega arith; pos' = omega arith; same = simp expand (omega arith) }

module _ {x : Section} (p : Bounded x) where
  limit_same : Same (exact_web_limit x) ((scaled_width x * βc x * fc x * h₀ x) // 12000)
  unfolding exact_web_limit IsFactor
  limit_same =
      let q : 0 < b x = omega (arith, p.b_least) in
      same_trans
      (same_product (same_product (same_product (same_product (β_same x q) (same_refl (βc x // 30) (omega arith)))
      (exact_tenths x.concrete.fc p.concrete.fc_exact)) (same_refl (whole (b x)) (omega arith))) (same_refl (whole (h₀ x)) (omega arith)))
      (limit_core (scaled_width x) (βc x) (fc x) (b x) (h₀ x) q)

  pub web_reflects : Reflects (web_holds x) (WebHolds x)
  unfolding web_holds
  web_reflects =
      settles_as
      (λ h. ≼-same (whole (Vd x)) (same_sym limit_same) (omega arith))
      (λ n h. n (omega (arith, ≼-same (whole (Vd x)) limit_same h)))
      (reflects_le (12000 * Vd x) (scaled_width x * βc x * fc x * h₀ x))
