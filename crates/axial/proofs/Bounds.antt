-- Sizes of a column's axial capacity and of the steps to it, for any usable concrete and steel.
use Prim.Native.Nat.{ℕ, ◌-◌, ◌*◌, ◌≤◌}
use native.Mathlib.Nat.{mul-le-mul, mul-le-mul_left}
use native.Mathlib.Omega.{arith}
use lib.Dec.{ltb}
use Rattle.quantity.specs.Unit.{in_units, in_tenths}
use Rattle.quantity.proofs.Choice.{choice_most}
use Rattle.quantity.proofs.Rounding.{down_le}
use Rattle.material.specs.declared.Concrete.{Concrete}
use Rattle.material.specs.declared.Steel.{Steel}
use Rattle.stability.specs.Steps.{stability}
use Rattle.stability.proofs.Bounds.{stability_most}
use Rattle.member.specs.Member.{Column}
use Rattle.member.specs.Accepted.{AcceptedColumn}
use Rattle.bars.proofs.Sums.{sums}
use Rattle.axial.specs.Given.{Given}
use Rattle.axial.specs.Steps.{gross_area, steel_area, concrete_area, squash_load, axial_capacity}

pub gross_most : (x : Column) → AcceptedColumn x → gross_area x ≤ 2250000
gross_most x a = mul-le-mul a.b_most a.h_most

pub steel_most : (x : Column) → AcceptedColumn x → steel_area x ≤ 785400
steel_most x a = (sums x.groups a.groups a.bars).S_most

concrete_most : (a s : ℕ) → concrete_area a s ≤ 10 * a
unfolding concrete_area
concrete_most a s = omega (arith, choice_most (ltb (3 * a) (10 * s)) (10 * a - s) (10 * a))

module _ (x : Column) (concrete : Concrete) (steel : Steel) (given : Given x concrete steel) where
  -- the concrete's part of the squash load, and the steel's, in hundredths of N
  pub concrete_load_most : in_tenths concrete.fc * concrete_area (gross_area x) (steel_area x) ≤ 9000000000
  concrete_load_most =
      let area : concrete_area (gross_area x) (steel_area x) ≤ 22500000 =
      omega (arith, concrete_most (gross_area x) (steel_area x), gross_most x given.accepted) in
      mul-le-mul given.usable_concrete.fc_most area

  pub steel_load_most : 10 * in_units steel.axial * steel_area x ≤ 4712400000
  steel_load_most = mul-le-mul (mul-le-mul_left 10 given.usable_steel.axial.most) (steel_most x given.accepted)

  pub squash_most : squash_load x concrete steel ≤ 13712400000
  unfolding squash_load
  squash_most = omega (arith, concrete_load_most, steel_load_most)

  -- before it is rounded
  pub product_most : 9 * stability x.l₀ x.b * squash_load x concrete steel ≤ 9 * (200 * x.b) * 13712400000
  product_most = mul-le-mul (mul-le-mul_left 9 (stability_most x.l₀ x.b)) squash_most

  pub axial_most : axial_capacity x concrete steel ≤ 123411600
  unfolding axial_capacity
  axial_most = down_le (omega (arith, given.accepted.b_least)) (omega (arith, product_most))
