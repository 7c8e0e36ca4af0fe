-- The clause's axial capacity is that of the steps before it is rounded, for any usable concrete and steel.
use Prim.Native.Nat.{ℕ, ◌+◌, ◌-◌, ◌*◌, ◌<◌}
use mathlib.Core.Bool.{Bool, true, false}
use native.Mathlib.Omega.{arith}
use lib.Dec.{ltb}
use Rattle.std.specs.Prelude.{if◌then◌else◌}
use Rattle.quantity.specs.Fraction.{◌//◌, whole, ◌⊕◌, ◌⊖◌, ◌⊗◌}
use Rattle.quantity.specs.Unit.{in_units, in_tenths, exact_stress}
use Rattle.quantity.proofs.Rounding.{expand}
use Rattle.quantity.proofs.Unit.{exact_units, exact_tenths}
use Rattle.quantity.proofs.Fraction.{Same, same_refl, same_sym, same_trans, same_sum, same_product}
use Rattle.material.specs.declared.Concrete.{Concrete}
use Rattle.material.specs.declared.Steel.{Steel}
use Rattle.material.specs.Bounds.{UsableConcrete, UsableSteel}
use Rattle.member.specs.Member.{Column}
use Rattle.axial.specs.Steps.{gross_area, steel_area, concrete_area, squash_load, axial_capacity}
use Rattle.stability.specs.Steps.{stability}
use Rattle.axial.specs.Exact.{exact_steel_area, exact_concrete_area, exact_axial}
use Rattle.stability.proofs.Exact.{stability_same}
use Rattle.quantity.specs.Safe.{NotAbove}
use Rattle.quantity.proofs.Safe.{down_not_above, same_not_above}
use Rattle.axial.specs.Given.{Given}

-- ---- The squash load.

concrete_same : (x : Column) → Same (exact_concrete_area x) (concrete_area (gross_area x) (steel_area x) // 10)
unfolding exact_concrete_area exact_steel_area concrete_area ◌⊖◌
concrete_same x = go (ltb (3 * gross_area x) (10 * steel_area x))
  where
    go : (t : Bool) → Same (if t then whole (gross_area x) ⊖ exact_steel_area x else whole (gross_area x)) ((if t then 10 * gross_area x - steel_area x else 10 * gross_area x) // 10)
    go true = record { pos = omega arith; pos' = omega arith; same = omega arith }
    go false = record { pos = omega arith; pos' = omega arith; same = omega arith }

parts_same : (fc fy s g : ℕ) → Same (fc // 10 ⊗ g // 10 ⊕ whole fy ⊗ s // 10) ((fc * g + 10 * fy * s) // 100)
unfolding ◌⊕◌ ◌⊗◌
parts_same fc fy s g = record { pos = omega arith; pos' = omega arith; same = simp expand (omega arith) }

squash_same : (x : Column) (concrete : Concrete) (steel : Steel) → UsableConcrete concrete → UsableSteel steel →
    Same (exact_stress concrete.fc ⊗ exact_concrete_area x ⊕ exact_stress steel.axial ⊗ exact_steel_area x) (squash_load x concrete steel // 100)
unfolding squash_load exact_steel_area
squash_same x concrete steel c s =
    same_trans
    (same_sum (same_product (exact_tenths concrete.fc c.fc_exact) (concrete_same x))
    (same_product (exact_units steel.axial s.axial.exact) (same_refl (steel_area x // 10) (omega arith))))
    (parts_same (in_tenths concrete.fc) (in_units steel.axial) (steel_area x) (concrete_area (gross_area x) (steel_area x)))

-- ---- The capacity.

product_same : (f n b : ℕ) → 0 < b → Same (9 // 10 ⊗ f // (200 * b) ⊗ n // 100) ((9 * f * n) // (200000 * b))
unfolding ◌⊗◌
product_same f n b p = record { pos = omega arith; pos' = omega arith; same = simp expand (omega arith) }

axial_same : (x : Column) (concrete : Concrete) (steel : Steel) → 0 < x.b → UsableConcrete concrete → UsableSteel steel →
    Same (exact_axial x concrete steel) ((9 * stability x.l₀ x.b * squash_load x concrete steel) // (200000 * x.b))
unfolding exact_axial
axial_same x concrete steel p c s =
    same_trans
    (same_product (same_product (same_refl (9 // 10) (omega arith)) (stability_same x.l₀ x.b p)) (squash_same x concrete steel c s))
    (product_same (stability x.l₀ x.b) (squash_load x concrete steel) x.b p)

-- the figure is on the safe side, at less than 1 N
pub axial_safe : (x : Column) (concrete : Concrete) (steel : Steel) → Given x concrete steel →
    NotAbove (axial_capacity x concrete steel) (whole 1) (exact_axial x concrete steel)
unfolding axial_capacity
axial_safe x concrete steel given =
    let p : 0 < x.b = omega (arith, given.accepted.b_least) in
    same_not_above (omega arith) (same_sym (axial_same x concrete steel p given.usable_concrete given.usable_steel))
    (down_not_above (9 * stability x.l₀ x.b * squash_load x concrete steel) (200000 * x.b) (omega arith))
