-- The forces of the clauses in N are those of the steps in tenths and thousandths of N.
use Prim.Native.Nat.{ℕ, ◌+◌, ◌*◌, ◌<◌}
use mathlib.Core.Path.{◌≡◌}
use native.Mathlib.Nat.{le_of_mul-le-mul_right, mul-le-mul_right}
use native.Mathlib.Omega.{arith}
use lib.Dec.{leb}
use Rattle.quantity.specs.Fraction.{Frac, ◌//◌, whole, ◌⊕◌, ◌⊗◌}
use Rattle.quantity.proofs.Fraction.{Same, same_refl, same_sym, same_trans, same_sum, same_product, same-≼, ≼-same}
use Rattle.quantity.proofs.Unit.{exact_units, exact_tenths}
use Rattle.quantity.proofs.Reflects.{same_le}
use Rattle.quantity.proofs.Rounding.{expand}
use Rattle.section.specs.declared.Section.{Section}
use Rattle.section.specs.Section.{b, h₀, S, S', α₁, ξb}
use Rattle.section.specs.Bounded.{Bounded}
use Rattle.bending.specs.Steps.{tension_force, compression_force, k}
use Rattle.bending.specs.Exact.{T, C, K, at_most}

-- ---- On plain numbers.

tenths_over : (p d : ℕ) → 0 < d → Same (p // 10) ((100 * d * p) // (1000 * d))
tenths_over p d h = record { pos = omega arith; pos' = omega arith; same = simp expand (omega arith) }

depth_over : (n d h k q : ℕ) → 0 < d → Same (n // d ⊗ whole h ⊗ (k // 1000) ⊕ q // 10) ((n * h * k + 100 * d * q) // (1000 * d))
unfolding ◌⊕◌ ◌⊗◌
depth_over n d h k q p = record { pos = omega arith; pos' = omega arith; same = simp expand (omega arith) }

-- A comparison of two fractions by their numerators over one denominator.
pub at_most_same : {a b : Frac} (p q d : ℕ) → Same a (p // d) → Same b (q // d) → at_most a b ≡ leb p q
at_most_same {a} {b} p q d u v =
    same_le (a.num * b.den) (b.num * a.den) p q
    (λ h. le_of_mul-le-mul_right (≼-same (p // d) v (same-≼ b u h)) u.pos')
    (λ h. ≼-same a (same_sym v) (same-≼ (q // d) (same_sym u) (mul-le-mul_right d h)))

-- ---- Of a section.

module _ {x : Section} (p : Bounded x) where
  pub T_same : Same (T x) (tension_force x // 10)
  unfolding T ◌⊗◌
  T_same = same_product (exact_units x.steel.fy p.steel.fy.exact) (same_refl (S x // 10) (omega arith))

  pub C_same : Same (C x) (compression_force x // 10)
  unfolding C ◌⊗◌
  C_same = same_product (exact_units x.steel.fyc p.steel.fyc.exact) (same_refl (S' x // 10) (omega arith))

  pub K_same : Same (K x) (k x // 1000)
  unfolding K ◌⊗◌
  K_same =
      same_product (same_product (same_refl (α₁ x // 100) (omega arith)) (exact_tenths x.concrete.fc p.concrete.fc_exact))
      (same_refl (whole (b x)) (omega arith))

  pub tension_over : (d : ℕ) → 0 < d → Same (T x) ((100 * d * tension_force x) // (1000 * d))
  tension_over d h = same_trans T_same (tenths_over (tension_force x) d h)

  pub limit_over : Same (ξb x ⊗ whole (h₀ x) ⊗ K x ⊕ C x) (((ξb x).num * h₀ x * k x + 100 * (ξb x).den * compression_force x) // (1000 * (ξb x).den))
  unfolding ◌⊗◌
  limit_over =
      let d : 0 < (ξb x).den = omega (arith, p.parameters) in
      same_trans (same_sum (same_product (same_refl (ξb x ⊗ whole (h₀ x)) (omega arith)) K_same) C_same)
      (depth_over (ξb x).num (ξb x).den (h₀ x) (k x) (compression_force x) d)
