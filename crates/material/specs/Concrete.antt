-- Concrete: fc and ft by 002, table 1-1; ftk and Ec by GB 50010, 4.1.3 and 4.1.5, as documents 01 and 02 (wish 7) list them.
use Rattle.std.specs.Prelude.{ℕ, List, [], ◌∷◌}
use Rattle.quantity.specs.Unit.{stress_of, stress_of_tenths, stress_of_hundredths}
use Rattle.material.specs.declared.Concrete.{Concrete}
use Rattle.table.specs.Table.{cell}

-- grade, fc (tenths of N/mm²), ft, ftk (hundredths), Ec
abbrev pub concretes : List (List ℕ)
concretes =
    (20 ∷ 96 ∷ 110 ∷ 154 ∷ 25500 ∷ [])
    ∷ (25 ∷ 119 ∷ 127 ∷ 178 ∷ 28000 ∷ [])
    ∷ (30 ∷ 143 ∷ 143 ∷ 201 ∷ 30000 ∷ [])
    ∷ (35 ∷ 167 ∷ 157 ∷ 220 ∷ 31500 ∷ [])
    ∷ (40 ∷ 191 ∷ 171 ∷ 239 ∷ 32500 ∷ [])
    ∷ (45 ∷ 211 ∷ 180 ∷ 251 ∷ 33500 ∷ [])
    ∷ (50 ∷ 231 ∷ 189 ∷ 264 ∷ 34500 ∷ [])
    ∷ (55 ∷ 253 ∷ 196 ∷ 274 ∷ 35500 ∷ [])
    ∷ (60 ∷ 275 ∷ 204 ∷ 285 ∷ 36000 ∷ [])
    ∷ (65 ∷ 297 ∷ 209 ∷ 293 ∷ 36500 ∷ [])
    ∷ (70 ∷ 318 ∷ 214 ∷ 299 ∷ 37000 ∷ [])
    ∷ (75 ∷ 338 ∷ 218 ∷ 305 ∷ 37500 ∷ [])
    ∷ (80 ∷ 359 ∷ 222 ∷ 311 ∷ 38000 ∷ [])
    ∷ []

-- the values of a grade; all 0 where it is not listed
unfoldable pub concrete_of : ℕ → Concrete
concrete_of grade =
    record {
      fc = stress_of_tenths (cell grade 1 concretes);
      ft = stress_of_hundredths (cell grade 2 concretes);
      ftk = stress_of_hundredths (cell grade 3 concretes);
      ec = stress_of (cell grade 4 concretes);
    }
