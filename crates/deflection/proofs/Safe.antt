-- The deflection is safe, and what its check says of the exact inequality.
use Prim.Native.Nat.{ℕ, ◌*◌}
use mathlib.Core.Path.{◌≡◌, refl}
use mathlib.Core.Bool.{Bool, true, false}
use native.Mathlib.Nat.{mul-pos}
use native.Mathlib.Omega.{arith}
use lib.Dec.{leb, ltb, eqb}
use Rattle.std.specs.Prelude.{if◌then◌else◌}
use Rattle.quantity.specs.Fraction.{◌//◌, whole, Proper, ◌⊖◌, ◌⊗◌, ◌≼◌, ◌≺◌}
use Rattle.quantity.specs.Safe.{NotBelow}
use Rattle.quantity.proofs.Reflects.{Settles, settles_as, compared}
use Rattle.quantity.proofs.Fraction.{same_sym, scale-≼}
use Rattle.quantity.proofs.Near.{Near, near_same, near_not_below}
use Rattle.quantity.proofs.Safe.{limit_settles}
use Rattle.section.specs.declared.Section.{Section}
use Rattle.section.specs.Section.{b, h₀, l₀, W, S, S', Mq, ftk, Ec}
use Rattle.section.specs.Bounded.{Bounded}
use Rattle.cracking.specs.Steps.{stress_holds, σ, q}
use Rattle.cracking.proofs.Rounded.{stress*, stiffening*, mean*}
use Rattle.cracking.proofs.Safe.{near_σ, near_q}
use Rattle.deflection.specs.Bounds.{flexibility_most, curvature_most}
use Rattle.deflection.specs.Steps.{flexibility, curvature, deflection, span_divisor, deflection_holds}
use Rattle.deflection.specs.Exact.{exact_deflection, exact_deflection_limit, in_hundredths_of_mm, DeflectionHolds}
use Rattle.deflection.proofs.Rounded.{flexibility*, curvature*, near_flexibility, near_curvature, near_short, near_long, near_deflection}
use Rattle.deflection.proofs.Bounds.{divisor_between}
use Rattle.deflection.proofs.Clause.{deflection-same}

-- ---- Each step near its unrounded one.

module _ (x : Section) (a : Bounded x) (e : stress_holds x ≡ true) where
  near_z : Near 1000 (flexibility (S x) (Ec x) (b x) (h₀ x)) (flexibility* (S x) (Ec x) (b x) (h₀ x)) 0 1000 flexibility_most
  near_z = near_flexibility (S x) (Ec x) (b x) (h₀ x) a.S_least a.ratio a.concrete.ec_least

  near_r : Near 1000 (curvature (q x) (flexibility (S x) (Ec x) (b x) (h₀ x)) (σ x))
      (curvature* (mean* (stress* (Mq x) (h₀ x) (S x)) (stiffening* (ftk x) (W x) (S x))) (flexibility* (S x) (Ec x) (b x) (h₀ x)) (stress* (Mq x) (h₀ x) (S x)))
      0 13648 curvature_most
  near_r = near_curvature (near_q x a e) near_z (near_σ x a e)

  pub deflection_safe : NotBelow (deflection x) (12 // 10) (whole 100 ⊗ exact_deflection x)
  unfolding deflection
  deflection_safe =
      near_not_below (12 // 10) (omega arith)
      (near_same (same_sym (deflection-same x a.Mq_least a.h₀_least a.S_least (mul-pos (omega arith) a.h₀_least) (omega arith) a.concrete.ec.exact))
      (near_deflection (near_short (l₀ x) (h₀ x) a.h₀_least a.slender a.l₀_most near_r) (near_long (S x) (S' x) x.flanged a.S_least)))

-- ---- Verdicts.

deflection_limit : (x : Section) → exact_deflection_limit x ≡ l₀ x // span_divisor (l₀ x) x.strict
unfolding exact_deflection_limit span_divisor
deflection_limit x = go (eqb x.strict 1) (ltb (l₀ x) 7000) (leb (l₀ x) 9000)
  where
    go : (s t u : Bool) →
        (if t then l₀ x // (if s then 250 else 200) else (if u then l₀ x // (if s then 300 else 250) else l₀ x // (if s then 400 else 300)))
        ≡ l₀ x // (if s then (if t then 250 else (if u then 300 else 400)) else (if t then 200 else (if u then 250 else 300)))
    go true true u = refl
    go true false true = refl
    go true false false = refl
    go false true u = refl
    go false false true = refl
    go false false false = refl

span_core : (v l n : ℕ) → Settles (leb (v * n) (100 * l)) (whole v ≼ whole 100 ⊗ (l // n)) (whole 100 ⊗ (l // n) ≺ whole v)
unfolding ◌⊗◌
span_core v l n = settles_as (λ h. omega arith) (λ h. omega arith) (compared (v * n) (100 * l))

span_proper : (l s : ℕ) → Proper (whole 100 ⊗ (l // span_divisor l s))
unfolding ◌⊗◌
span_proper l s = omega (arith, (divisor_between l s).0)

pub deflection_settles : (x : Section) → Bounded x → stress_holds x ≡ true →
    Settles (deflection_holds x) (DeflectionHolds x) (in_hundredths_of_mm (exact_deflection_limit x) ⊖ in_hundredths_of_mm (exact_deflection x) ≺ 12 // 10)
unfolding deflection_holds
deflection_settles x a e =
    let n = span_divisor (l₀ x) x.strict in
    rw (deflection_limit x) (settles_as (scale-≼ 100 (exact_deflection x) (l₀ x // n) (omega arith)) (λ h. h)
    (limit_settles (whole 100 ⊗ (l₀ x // n)) (span_proper (l₀ x) x.strict) (deflection_safe x a e) (span_core (deflection x) (l₀ x) n)))
