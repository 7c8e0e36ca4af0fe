-- Areas of bars: 000, table 3.2.3.
use Rattle.std.specs.Prelude.{ℕ, List, [], ◌∷◌}
use Rattle.table.specs.Table.{cell}

-- diameter (mm), area (tenths of mm²)
abbrev pub bars : List (List ℕ)
bars =
    (5 ∷ 196 ∷ [])
    ∷ (6 ∷ 283 ∷ [])
    ∷ (8 ∷ 503 ∷ [])
    ∷ (10 ∷ 785 ∷ [])
    ∷ (12 ∷ 1131 ∷ [])
    ∷ (14 ∷ 1539 ∷ [])
    ∷ (16 ∷ 2011 ∷ [])
    ∷ (18 ∷ 2545 ∷ [])
    ∷ (20 ∷ 3142 ∷ [])
    ∷ (22 ∷ 3801 ∷ [])
    ∷ (25 ∷ 4909 ∷ [])
    ∷ (28 ∷ 6158 ∷ [])
    ∷ (32 ∷ 8042 ∷ [])
    ∷ (36 ∷ 10179 ∷ [])
    ∷ (40 ∷ 12566 ∷ [])
    ∷ (50 ∷ 19635 ∷ [])
    ∷ []

-- area of one bar of diameter d; 0 where d is not listed
unfoldable pub area_of : ℕ → ℕ
area_of d = cell d 1 bars
