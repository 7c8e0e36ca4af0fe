-- Steel of the bars (000, 3.2; GB 50010, 4.2) and of the links.
use Rattle.std.specs.Prelude.{ℕ, List, [], ◌∷◌}
use Rattle.quantity.specs.Unit.{stress_of}
use Rattle.quantity.specs.declared.Stress.{Stress}
use Rattle.material.specs.declared.Steel.{Steel}
use Rattle.table.specs.Table.{cell}

-- modulus of elasticity of every steel, N/mm²
abbrev pub Es : ℕ
Es = 200000

-- code, fyk, fy, fy', fy' under axial load (N/mm²), depth limit e up to C50 (hundredths); 1 is HRB400, 2 is HRB500
abbrev pub steels : List (List ℕ)
steels = (1 ∷ 400 ∷ 360 ∷ 360 ∷ 360 ∷ 52 ∷ []) ∷ (2 ∷ 500 ∷ 435 ∷ 435 ∷ 400 ∷ 48 ∷ []) ∷ []

-- the values of a steel; all 0 where its code is not listed
unfoldable pub steel_of : ℕ → Steel
steel_of code =
    record {
      fyk = stress_of (cell code 1 steels);
      fy = stress_of (cell code 2 steels);
      fyc = stress_of (cell code 3 steels);
      axial = stress_of (cell code 4 steels);
      depthLimit = cell code 5 steels;
    }

-- code, fyv (N/mm²); 1 is HPB300, 2 is HRB400
abbrev pub link_steels : List (List ℕ)
link_steels = (1 ∷ 270 ∷ []) ∷ (2 ∷ 360 ∷ []) ∷ []

unfoldable pub fyv_of : ℕ → Stress
fyv_of code = stress_of (cell code 1 link_steels)
