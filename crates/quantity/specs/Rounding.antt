-- Whole-number arithmetic: document 01's "down" and "up", and a number held between two bounds.
use Rattle.std.specs.Prelude.{ℕ, ◌+◌, ◌-◌, ◌/◌, min, max}

-- n / d rounded down to a whole number
unfoldable pub down : ℕ → ℕ → ℕ
down n d = n / d

-- n / d rounded up to a whole number, for d above 0
unfoldable pub up : ℕ → ℕ → ℕ
up n d = (n + (d - 1)) / d

-- x held to lo .. hi (clamp)
unfoldable pub clamp : ℕ → ℕ → ℕ → ℕ
clamp lo hi x = min hi (max lo x)
