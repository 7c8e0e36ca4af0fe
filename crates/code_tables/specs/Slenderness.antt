-- Stability factor φ of axially loaded columns: 000, table 4.2.4.
use Rattle.std.specs.Prelude.{ℕ, List, [], ◌∷◌, get_or}

-- φ (hundredths) at l0/b 8, 10, 12 .. 50
abbrev pub points : List ℕ
points =
    100 ∷ 98 ∷ 95 ∷ 92 ∷ 87 ∷ 81 ∷ 75 ∷ 70 ∷ 65 ∷ 60 ∷ 56 ∷ 52 ∷ 48 ∷ 44 ∷ 40 ∷ 36 ∷ 32 ∷ 29 ∷ 26 ∷ 23 ∷ 21 ∷ 19 ∷ []

-- φ at l0/b = 8 + 2·i; 0 past the table
unfoldable pub point : ℕ → ℕ
point i = get_or points i 0
