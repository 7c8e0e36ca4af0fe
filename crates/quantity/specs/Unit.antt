-- The codes' separate units as whole numbers.
-- Newtons, millimetres, and hundredths of a newton per square millimetre.
use Rattle.std.specs.Prelude.{ℕ, ◌*◌}
use Rattle.quantity.specs.declared.Force.{Force}
use Rattle.quantity.specs.declared.Length.{Length}
use Rattle.quantity.specs.declared.Stress.{Stress}
use Rattle.quantity.specs.Rounding.{down}
use Rattle.quantity.specs.Fraction.{Frac, ◌//◌}

abbrev pub newtons : ℕ → Force
newtons n = record { 0 = n }

abbrev pub millimetres : ℕ → Length
millimetres n = record { 0 = n }

-- a stress of n N/mm², of n tenths and of n hundredths of one
abbrev pub stress_of : ℕ → Stress
stress_of n = record { 0 = 100 * n }

abbrev pub stress_of_tenths : ℕ → Stress
stress_of_tenths n = record { 0 = 10 * n }

abbrev pub stress_of_hundredths : ℕ → Stress
stress_of_hundredths n = record { 0 = n }

-- a stress in whole N/mm² and in tenths of one, rounded down; the tables' values leave no rest
abbrev pub in_units : Stress → ℕ
in_units s = down s.0 100

abbrev pub in_tenths : Stress → ℕ
in_tenths s = down s.0 10

abbrev pub in_hundredths : Stress → ℕ
in_hundredths s = s.0

-- a stress as an exact fraction of N/mm²
unfoldable pub exact_stress : Stress → Frac
exact_stress s = s.0 // 100
