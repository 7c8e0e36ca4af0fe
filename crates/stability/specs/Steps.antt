-- The stability factor φ by document 01's scaled steps: 4.2.4.
use Rattle.std.specs.Prelude.{ℕ, ◌+◌, ◌-◌, ◌*◌, min, leb, if◌then◌else◌}
use Rattle.quantity.specs.Rounding.{down}
use Rattle.code_tables.specs.Slenderness.{point}

-- 4.2.4: which interval of the table l0/b lies in: 8 to 10 is 0, 48 to 50 is 20
unfoldable pub interval : ℕ → ℕ → ℕ
interval l₀ b = min 20 (down (l₀ - 8 * b) (2 * b))

-- φ straight between the points of interval i; here and below 200·b stands for φ = 1
unfoldable pub interpolated : ℕ → ℕ → ℕ → ℕ
interpolated i l₀ b = point i * (2 * b) - (point i - point (i + 1)) * (l₀ - (8 + 2 * i) * b)

-- φ: 1 up to 8, straight between the points above
unfoldable pub stability : ℕ → ℕ → ℕ
stability l₀ b = if leb l₀ (8 * b) then 200 * b else interpolated (interval l₀ b) l₀ b
