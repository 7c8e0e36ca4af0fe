-- The parameters of every listed grade are the codes' own over fractions.
use Prim.Native.Nat.{ℕ, ◌-◌, ◌*◌, ◌/◌, ◌≤◌, ◌<◌}
use mathlib.Core.Path.{◌≡◌}
use mathlib.Core.Bool.{true}
use native.Mathlib.Omega.{arith}
use Rattle.quantity.specs.Fraction.{Frac, ◌//◌, whole, ◌⊕◌, ◌⊖◌, ◌⊗◌}
use Rattle.quantity.proofs.Fraction.{Same, same_refl, same_sum, same_quotient}
use Rattle.quantity.proofs.Unit.{exact_units}
use Rattle.table.specs.Table.{listed}
use Rattle.material.specs.declared.Steel.{Steel}
use Rattle.material.specs.Concrete.{concretes}
use Rattle.material.specs.Steel.{Es}
use Rattle.material.specs.Bounds.{UsableSteel}
use Rattle.material.proofs.Materials.{grade_between, grade_multiple}
use Rattle.parameters.specs.Parameters.{stress_factor, web_factor, β₁, εcu, balanced_depth}
use Rattle.parameters.specs.Clauses.{straight, exactα₁, exactβc, exactβ₁, exactεcu, exact_balanced_depth}

more_positive : (a : Frac) → 0 < a.den → 0 < (whole 1 ⊕ a).num
unfolding ◌⊕◌
more_positive a p = omega arith

-- grade - 50 is a whole number of grades
module _ (grade : ℕ) (e : listed grade concretes ≡ true) where
  steps : (grade - 50 ≡ 5 * ((grade - 50) / 5)) × ((grade - 50) / 5 ≤ 10)
  steps = omega (arith, grade_between grade e, grade_multiple grade e)

  pub stress_factor_clause : Same (exactα₁ grade) (stress_factor grade // 100)
  unfolding straight stress_factor ◌⊖◌ ◌⊗◌
  stress_factor_clause = record { pos = omega arith; pos' = omega arith; same = omega (arith, steps) }

  pub web_factor_clause : Same (exactβc grade) (web_factor grade // 30)
  unfolding straight web_factor ◌⊖◌ ◌⊗◌
  web_factor_clause = record { pos = omega arith; pos' = omega arith; same = omega (arith, steps) }

  β₁_clause : Same (exactβ₁ grade) (β₁ grade // 100)
  unfolding straight β₁ ◌⊖◌ ◌⊗◌
  β₁_clause = record { pos = omega arith; pos' = omega arith; same = omega (arith, steps) }

  strain_clause : Same (whole Es ⊗ exactεcu grade) (whole (Es * εcu grade / 100000))
  unfolding εcu ◌⊖◌ ◌⊗◌
  strain_clause = record { pos = omega arith; pos' = omega arith; same = omega (arith, steps) }

  strain_positive : (0 < (whole Es ⊗ exactεcu grade).num) × (0 < Es * εcu grade / 100000)
  unfolding εcu ◌⊖◌ ◌⊗◌
  strain_positive = omega (arith, steps)

  pub depth_clause : (s : Steel) → UsableSteel s → Same (exact_balanced_depth grade s) (balanced_depth grade s)
  unfolding balanced_depth
  depth_clause s u =
      let ratio = same_quotient (exact_units s.fy u.fy.exact) strain_clause strain_positive in
      same_quotient β₁_clause (same_sum (same_refl (whole 1) (omega arith)) ratio)
      (more_positive _ ratio.pos, more_positive _ ratio.pos')
