-- The sizes that the steps of cracking and deflection are proved for.
use Rattle.std.specs.Prelude.{ℕ}

-- σ and q: 600 N/mm², in 0.0001 N/mm²
abbrev pub stress_most : ℕ
stress_most = 6000000

-- K: 2123.5 mm, in 0.01 mm
abbrev pub spacing_most : ℕ
spacing_most = 212350
