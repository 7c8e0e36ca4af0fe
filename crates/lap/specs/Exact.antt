-- The lap of a mesh without rounding: 000, 5.3.7.
-- Lengths are exact fractions of a millimetre.
use Rattle.std.specs.Prelude.{◌*◌, leb, eqb, if◌then◌else◌}
use Rattle.quantity.specs.Fraction.{Frac, ◌//◌, whole, ◌⊕◌, ◌⊗◌, larger}
use Rattle.member.specs.Member.{Mesh}
use Rattle.anchorage.specs.Exact.{exact_basic}

-- 5.3.7: stacked or nested laps (1) take the row with cross bar and at least 200 mm, flat ones the row without and 300 mm; none takes 0.8
unfoldable pub exact_tension : Mesh → Frac
exact_tension x =
    larger (whole (if eqb x.lapping 1 then 200 else 300)) (13 // 10 ⊗ exact_basic (if eqb x.lapping 1 then 1 else 0) 0 x)
    ⊕ whole (if leb 12 x.d then 5 * x.d else 0)

unfoldable pub exact_lap : Mesh → Frac
exact_lap x = if eqb x.compression 1 then larger (whole 150) (7 // 10 ⊗ exact_tension x) else exact_tension x
