-- The printed moment capacity is on the safe side of the clause's exact one, less than 1 N·m below it.
use Prim.Native.Nat.{ℕ, ◌+◌, ◌-◌, ◌*◌, ◌<◌}
use mathlib.Core.Path.{◌≡◌, sym, ap, ◌∙◌}
use mathlib.Core.Bool.{Bool, true, false, ◌||◌}
use native.Mathlib.Nat.{mul-pos, mul-le-mul_right}
use native.Mathlib.Omega.{arith}
use lib.Dec.{eqb}
use Rattle.std.specs.Prelude.{if◌then◌else◌}
use Rattle.quantity.specs.Fraction.{◌//◌, whole, ◌⊕◌, ◌⊖◌, ◌⊗◌, ◌⊘◌, ◌≼◌}
use Rattle.quantity.specs.Safe.{NotAbove}
use Rattle.quantity.specs.Unit.{exact_stress}
use Rattle.quantity.proofs.Fraction.{level, Same, same_refl, same_sym, same_trans, same_sum, same_difference, same_product, same_quotient, same-≼, ≼-same}
use Rattle.quantity.proofs.Rounding.{expand}
use Rattle.quantity.proofs.Safe.{down_not_above, same_not_above}
use Rattle.section.specs.declared.Section.{Section}
use Rattle.section.specs.Section.{h₀, a', S'}
use Rattle.section.specs.Bounded.{Bounded}
use Rattle.bending.specs.Steps.{tension_force, compression_force, t, k, steel_moment, compression_depth, compression_yields, yielded_capacity, couple_capacity, bending_capacity}
use Rattle.bending.specs.Exact.{T, C, K, yields, yielded_moment, couple_moment, exact_moment}
use Rattle.bending.proofs.Bounds.{sizes}
use Rattle.bending.proofs.Forces.{at_most_same, T_same, C_same, K_same, tension_over}
use Rattle.bending.proofs.Tests.{yields_tension}
use Rattle.bending.proofs.Capacity.{square_within}

-- ---- Forces in tenths of N, k in thousandths: their differences, sums and products.

difference_tenths : (p q : ℕ) → Same (p // 10 ⊖ q // 10) ((p - q) // 10)
unfolding ◌⊖◌
difference_tenths p q = record { pos = omega arith; pos' = omega arith; same = omega arith }

sum_tenths : (q n k : ℕ) → Same (q // 10 ⊕ whole n ⊗ (k // 1000)) ((100 * q + n * k) // 1000)
unfolding ◌⊕◌ ◌⊗◌
sum_tenths q n k = record { pos = omega arith; pos' = omega arith; same = omega arith }

moment_tenths : (t h q g : ℕ) → Same (t // 10 ⊗ whole h ⊕ q // 10 ⊗ whole g) ((t * h + q * g) // 10)
unfolding ◌⊕◌ ◌⊗◌
moment_tenths t h q g = record { pos = omega arith; pos' = omega arith; same = omega arith }

square_tenths : (t k : ℕ) → 0 < k → Same (t // 10 ⊗ (t // 10) ⊘ (whole 2 ⊗ (k // 1000))) ((50 * (t * t)) // (10 * k))
unfolding ◌⊗◌ ◌⊘◌
square_tenths t k p = record { pos = omega arith; pos' = omega arith; same = simp expand (omega arith) }

yielded_tenths : (m y k : ℕ) → 0 < k → Same ((m // 10 ⊖ y // (10 * k)) ⊘ whole 1000) ((m * k - y) // (k * 10000))
unfolding ◌⊖◌ ◌⊘◌
yielded_tenths m y k p = record { pos = omega arith; pos' = omega arith; same = simp level (omega arith) }

couple_tenths : (p g : ℕ) → Same (p // 10 ⊗ whole g ⊘ whole 1000) ((p * g) // 10000)
unfolding ◌⊗◌ ◌⊘◌
couple_tenths p g = record { pos = omega arith; pos' = omega arith; same = omega arith }

module _ {x : Section} (p : Bounded x) where
  t_same : Same (T x ⊖ C x) (t x // 10)
  t_same = same_trans (same_difference (T_same p) (C_same p)) (difference_tenths (tension_force x) (compression_force x))

  -- Both definitions pick the same case.
  pub yields_is : yields x ≡ compression_yields x
  unfolding yields compression_yields
  yields_is =
      ap (λ (c : Bool). eqb (S' x) 0 || c) (at_most_same (100 * compression_force x + 2 * a' x * k x) (100 * tension_force x) 1000
      (same_trans (same_sum (C_same p) (same_product (same_refl (whole (2 * a' x)) (omega arith)) (K_same p))) (sum_tenths (compression_force x) (2 * a' x) (k x)))
      (tension_over p 1 (omega arith)))

  moment_same : Same ((T x ⊖ C x) ⊗ whole (h₀ x) ⊕ C x ⊗ whole (h₀ x - a' x)) (steel_moment x // 10)
  moment_same =
      same_trans
      (same_sum
      (same_product t_same (same_refl (whole (h₀ x)) (omega arith)))
      (same_product (C_same p) (same_refl (whole (h₀ x - a' x)) (omega arith))))
      (moment_tenths (t x) (h₀ x) (compression_force x) (h₀ x - a' x))

  doubled : 0 < (whole 2 ⊗ K x).num
  unfolding ◌⊗◌ K exact_stress
  doubled = mul-pos (omega arith) (mul-pos (mul-pos p.parameters.stress_least (omega (arith, p.concrete))) (omega arith))

  square_same : Same ((T x ⊖ C x) ⊗ (T x ⊖ C x) ⊘ (whole 2 ⊗ K x)) ((50 * (t x * t x)) // (10 * k x))
  unfolding ◌⊗◌
  square_same =
      same_trans
      (same_quotient (same_product t_same t_same) (same_product (same_refl (whole 2) (omega arith)) (K_same p)) (doubled, omega (arith, sizes p)))
      (square_tenths (t x) (k x) (sizes p).block_least)

  yielded_same : Same (yielded_moment x) ((steel_moment x * k x - 50 * (t x * t x)) // (k x * 10000))
  unfolding yielded_moment
  yielded_same =
      same_trans
      (same_quotient (same_difference moment_same square_same) (same_refl (whole 1000) (omega arith)) (omega arith))
      (yielded_tenths (steel_moment x) (50 * (t x * t x)) (k x) (sizes p).block_least)

  couple_same : Same (couple_moment x) ((tension_force x * (h₀ x - a' x)) // 10000)
  unfolding couple_moment
  couple_same =
      same_trans
      (same_quotient (same_product (T_same p) (same_refl (whole (h₀ x - a' x)) (omega arith))) (same_refl (whole 1000) (omega arith)) (omega arith))
      (couple_tenths (tension_force x) (h₀ x - a' x))

  yielded_safe : NotAbove (yielded_capacity x) (whole 1) (yielded_moment x)
  unfolding yielded_capacity
  yielded_safe = same_not_above (omega arith) (same_sym yielded_same) (down_not_above _ (k x * 10000) (omega (arith, sizes p)))

  couple_safe : NotAbove (couple_capacity x) (whole 1) (couple_moment x)
  unfolding couple_capacity
  couple_safe = same_not_above (omega arith) (same_sym couple_same) (down_not_above _ 10000 (omega arith))

  pub moment_safe : NotAbove (bending_capacity x) (whole 1) (exact_moment x)
  unfolding bending_capacity exact_moment
  moment_safe = rw yields_is (go (compression_yields x))
    where
      go : (c : Bool) → NotAbove (if c then yielded_capacity x else couple_capacity x) (whole 1) (if c then yielded_moment x else couple_moment x)
      go true = yielded_safe
      go false = couple_safe

  -- Where 4.2.2 applies, the exact figure's differences cut nothing off at 0.
  pub forces_ordered : yields x ≡ true → C x ≼ T x
  forces_ordered d =
      ≼-same (C x) (same_sym (T_same p)) (same-≼ (tension_force x // 10) (same_sym (C_same p)) (mul-le-mul_right 10 (yields_tension p (sym yields_is ∙ d))))

  pub exact_square_within : compression_depth x ≡ true →
      (T x ⊖ C x) ⊗ (T x ⊖ C x) ⊘ (whole 2 ⊗ K x) ≼ (T x ⊖ C x) ⊗ whole (h₀ x) ⊕ C x ⊗ whole (h₀ x - a' x)
  exact_square_within d =
      ≼-same _ (same_sym moment_same) (same-≼ (steel_moment x // 10) (same_sym square_same)
      (omega (arith, square_within p d)))
