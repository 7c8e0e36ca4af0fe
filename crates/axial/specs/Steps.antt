-- The axial capacity of a tied rectangular column (document 01, "Column."; 000, 4.2.4), and the checks that it rests on: 5.6.1 and 4.2.4s.
use Rattle.std.specs.Prelude.{ℕ, ◌+◌, ◌-◌, ◌*◌, Bool, leb, ltb, if◌then◌else◌}
use Rattle.quantity.specs.Rounding.{down}
use Rattle.quantity.specs.Unit.{in_units, in_tenths}
use Rattle.material.specs.declared.Concrete.{Concrete}
use Rattle.material.specs.declared.Steel.{Steel}
use Rattle.stability.specs.Steps.{stability}
use Rattle.member.specs.Member.{Column}
use Rattle.bars.specs.Sums.{area}

-- A, mm²; S, tenths of mm²
abbrev pub gross_area : Column → ℕ
gross_area x = x.b * x.h

abbrev pub steel_area : Column → ℕ
steel_area x = area x.groups

-- 5.6.1: 2·S ≤ A
unfoldable pub steel_fits : Column → Bool
steel_fits x = leb (2 * steel_area x) (gross_area x)

-- 4.2.4s: l0 ≤ 50b
unfoldable pub slenderness_fits : Column → Bool
slenderness_fits x = leb x.l₀ (50 * x.b)

-- area of the concrete, tenths of mm²: A - S/10 if 10·S > 3·A, else A
unfoldable pub concrete_area : ℕ → ℕ → ℕ
concrete_area a s = if ltb (3 * a) (10 * s) then 10 * a - s else 10 * a

-- fc·A + fy'·S, hundredths of N
unfoldable pub squash_load : Column → Concrete → Steel → ℕ
squash_load x concrete steel = in_tenths concrete.fc * concrete_area (gross_area x) (steel_area x) + 10 * in_units steel.axial * steel_area x

-- 4.2.4: down(0.9·φ·(fc·A + fy'·S)), N
unfoldable pub axial_capacity : Column → Concrete → Steel → ℕ
axial_capacity x concrete steel = down (9 * stability x.l₀ x.b * squash_load x concrete steel) (200000 * x.b)
