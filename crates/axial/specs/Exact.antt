-- The axial capacity of a column without rounding: 000, 4.2.4. An exact fraction of N.
use Rattle.std.specs.Prelude.{◌*◌, ltb, if◌then◌else◌}
use Rattle.quantity.specs.Fraction.{Frac, ◌//◌, whole, ◌⊕◌, ◌⊖◌, ◌⊗◌}
use Rattle.quantity.specs.Unit.{exact_stress}
use Rattle.material.specs.declared.Concrete.{Concrete}
use Rattle.material.specs.declared.Steel.{Steel}
use Rattle.stability.specs.Exact.{exact_stability}
use Rattle.member.specs.Member.{Column}
use Rattle.bars.specs.Sums.{area}

-- area of the bars and of the concrete, mm²: without the bars' above 3 percent
unfoldable pub exact_steel_area : Column → Frac
exact_steel_area x = area x.groups // 10

unfoldable pub exact_concrete_area : Column → Frac
exact_concrete_area x =
    if ltb (3 * (x.b * x.h)) (10 * area x.groups)
    then whole (x.b * x.h) ⊖ exact_steel_area x
    else whole (x.b * x.h)

-- 4.2.4: 0.9·φ·(fc·A + fy'·As), N
unfoldable pub exact_axial : Column → Concrete → Steel → Frac
exact_axial x concrete steel =
    9 // 10 ⊗ exact_stability x.l₀ x.b
    ⊗ (exact_stress concrete.fc ⊗ exact_concrete_area x ⊕ exact_stress steel.axial ⊗ exact_steel_area x)
