-- The parameter record of document 02, wish 7: what the checks of a beam use of its concrete and its steel together.
-- Up to C50 grade - 50 is 0.
use Rattle.std.specs.Prelude.{ℕ, ◌-◌, ◌*◌, ◌/◌, leb, if◌then◌else◌}
use Rattle.quantity.specs.Fraction.{Frac, ◌//◌, whole, ◌⊕◌, ◌⊘◌}
use Rattle.quantity.specs.Unit.{in_units}
use Rattle.material.specs.declared.Steel.{Steel}
use Rattle.material.specs.Steel.{Es}
use Rattle.parameters.specs.declared.DepthLimit.{DepthLimit}
use Rattle.parameters.specs.declared.Parameters.{Parameters}

-- stress factor α1 (000, 4.2.2), hundredths: 1.00 to C50, 0.01 less each grade
unfoldable pub stress_factor : ℕ → ℕ
stress_factor grade = 100 - (grade - 50) / 5

-- web factor βc (000, 4.3.1), thirtieths: 1 to C50, straight to 0.8 at C80
unfoldable pub web_factor : ℕ → ℕ
web_factor grade = 30 - (grade - 50) / 5

-- β1 (GB 6.2.6), hundredths: 0.80 to C50, straight to 0.74 at C80
unfoldable pub β₁ : ℕ → ℕ
β₁ grade = 80 - (grade - 50) / 5

-- εcu (GB 6.2.1), hundred-thousandths: 0.0033 - (grade - 50)/100000
unfoldable pub εcu : ℕ → ℕ
εcu grade = 330 - (grade - 50)

-- GB 6.2.7: β1/(1 + fy/(Es·εcu)), stresses in N/mm²; Es·εcu is a whole number of them
unfoldable pub balanced_depth : ℕ → Steel → Frac
balanced_depth grade s = β₁ grade // 100 ⊘ (whole 1 ⊕ whole (in_units s.fy) ⊘ whole (Es * εcu grade / 100000))

-- depth limit ξb of 4.2.2-3: the steel's e to C50, GB 6.2.7 above it
unfoldable pub depth_limit : ℕ → Steel → Frac
depth_limit grade s = if leb grade 50 then s.depthLimit // 100 else balanced_depth grade s

-- a fraction's two numbers as a depth limit
abbrev pub limit_of : Frac → DepthLimit
limit_of a = record { num = a.num; den = a.den }

unfoldable pub parameters_of : ℕ → Steel → Parameters
parameters_of grade s =
    record {
      stressFactor = stress_factor grade;
      webFactor = web_factor grade;
      depthLimit = limit_of (depth_limit grade s);
    }
