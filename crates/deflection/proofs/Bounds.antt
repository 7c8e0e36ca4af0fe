-- Sizes of the steps of the deflection: each follows from how its step is rounded, of whole numbers within their bounds.
use Prim.Native.Nat.{ℕ, ◌*◌, ◌≤◌, ◌<◌}
use mathlib.Core.Bool.{Bool}
use native.Mathlib.Omega.{arith}
use lib.Dec.{leb, ltb, eqb}
use Rattle.quantity.proofs.Choice.{if_case}
use Rattle.quantity.specs.Fraction.{whole}
use Rattle.quantity.proofs.Near.{Near, near_whole, near_weaken}
use Rattle.section.specs.declared.Section.{Section}
use Rattle.section.specs.Section.{b, h₀, l₀, S, S', Ec}
use Rattle.section.specs.Bounded.{Bounded}
use Rattle.cracking.specs.Bounds.{stress_most}
use Rattle.cracking.specs.Steps.{σ, q}
use Rattle.deflection.specs.Bounds.{flexibility_most, curvature_most, short_term_most, long_term_most, deflection_most}
use Rattle.deflection.specs.Steps.{flexibility, curvature, short_term, long_term, deflection, by_span, span_divisor}
use Rattle.deflection.proofs.Rounded.{near_flexibility, near_curvature, near_short, near_long, near_deflection}

-- a whole number within its bound
within : (n h k : ℕ) → n ≤ k → Near 1000 n (whole n) 0 h k
within n h k p = near_weaken (near_whole 1000 n k p) (omega arith)

pub flexibility_most_lem : (S Ec b h₀ : ℕ) → 1 ≤ S → 5 * S ≤ 2 * b * h₀ → 25500 ≤ Ec → flexibility S Ec b h₀ ≤ flexibility_most
flexibility_most_lem S Ec b h₀ p steel stiff = (near_flexibility S Ec b h₀ p steel stiff).most

pub curvature_most_lem : (q z σ : ℕ) → q ≤ stress_most → z ≤ flexibility_most → σ ≤ stress_most → curvature q z σ ≤ curvature_most
curvature_most_lem q z σ p u v = (near_curvature (within q _ _ p) (within z _ _ u) (within σ _ _ v)).most

pub short_most : (l₀ h₀ r : ℕ) → 1 ≤ h₀ → l₀ ≤ 30 * h₀ → l₀ ≤ 12000 → r ≤ curvature_most → short_term l₀ h₀ r ≤ short_term_most
short_most l₀ h₀ r p u v w = (near_short l₀ h₀ p u v (within r _ _ w)).most

pub long_most : (S S' : ℕ) (flanged : Bool) → 1 ≤ S → long_term S S' flanged ≤ long_term_most
long_most S S' flanged p = (near_long S S' flanged p).most

module _ (x : Section) (a : Bounded x) where
  pub section_flexibility_most : flexibility (S x) (Ec x) (b x) (h₀ x) ≤ flexibility_most
  section_flexibility_most = flexibility_most_lem (S x) (Ec x) (b x) (h₀ x) a.S_least a.ratio a.concrete.ec_least

  pub section_curvature_most : (q σ : ℕ) → q ≤ stress_most → σ ≤ stress_most → curvature q (flexibility (S x) (Ec x) (b x) (h₀ x)) σ ≤ curvature_most
  section_curvature_most q σ p u = curvature_most_lem q (flexibility (S x) (Ec x) (b x) (h₀ x)) σ p section_flexibility_most u

  pub deflection_most_lem : σ x ≤ stress_most → q x ≤ stress_most → deflection x ≤ deflection_most
  unfolding deflection
  deflection_most_lem p u =
      (near_deflection
      (within _ _ _ (short_most (l₀ x) (h₀ x) _ a.h₀_least a.slender a.l₀_most (section_curvature_most (q x) (σ x) u p)))
      (within _ _ _ (long_most (S x) (S' x) x.flanged a.S_least))
      ).most

pub divisor_between : (l s : ℕ) → (0 < span_divisor l s) × (span_divisor l s ≤ 400)
unfolding span_divisor
divisor_between l s =
    if_case (λ (n : ℕ). (0 < n) × (n ≤ 400)) (eqb s 1) _ _ (λ _. by_span_lem 250 300 400 (omega arith)) (λ _. by_span_lem 200 250 300 (omega arith))
  where
    by_span_lem : (a b c : ℕ) → (0 < a) × (0 < b) × (0 < c) × (a ≤ 400) × (b ≤ 400) × (c ≤ 400) → (0 < by_span l a b c) × (by_span l a b c ≤ 400)
    by_span_lem a b c p =
        if_case (λ (n : ℕ). (0 < n) × (n ≤ 400)) (ltb l 7000) a _ (λ _. omega arith)
        (λ _. if_case (λ (n : ℕ). (0 < n) × (n ≤ 400)) (leb l 9000) b c (λ _. omega arith) (λ _. omega arith))
