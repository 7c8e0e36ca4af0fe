-- The stability factor φ as an exact fraction: 000, table 4.2.4, straight between its points.
use Rattle.std.specs.Prelude.{ℕ, zero, suc, ◌+◌, ◌-◌, ◌*◌, leb, ltb, if◌then◌else◌}
use Rattle.quantity.specs.Fraction.{Frac, ◌//◌, whole, ◌⊖◌, ◌⊗◌, ◌⊘◌}
use Rattle.code_tables.specs.Slenderness.{point}

-- the first of n intervals of table 4.2.4 from i on whose end is above l0/b, and the one after them where there is none;
-- interval i goes from 8 + 2·i to 10 + 2·i
abbrev pub interval_from : ℕ → ℕ → ℕ → ℕ → ℕ
interval_from zero i l₀ b = i
interval_from (suc n) i l₀ b = if ltb l₀ ((10 + 2 * i) * b) then i else interval_from n (suc i) l₀ b

-- φ straight between the points of interval i
unfoldable pub exact_interpolated : ℕ → ℕ → ℕ → Frac
exact_interpolated i l₀ b =
    point i // 100 ⊖ (point i - point (i + 1)) // 100 ⊗ ((l₀ // b ⊖ whole (8 + 2 * i)) ⊘ whole 2)

-- φ: 1 up to 8, straight between the points above
unfoldable pub exact_stability : ℕ → ℕ → Frac
exact_stability l₀ b = if leb l₀ (8 * b) then whole 1 else exact_interpolated (interval_from 20 0 l₀ b) l₀ b
