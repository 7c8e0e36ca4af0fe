-- The sizes that the steps of the deflection are proved for.
use Rattle.std.specs.Prelude.{ℕ}

-- z, in millionths
abbrev pub flexibility_most : ℕ
flexibility_most = 2082353

-- r, 0.0001 N/mm²
abbrev pub curvature_most : ℕ
curvature_most = 19394118

-- u: 317 mm, in 10^-8 mm
abbrev pub short_term_most : ℕ
short_term_most = 31636654988

-- θ: 2.4, in millionths
abbrev pub long_term_most : ℕ
long_term_most = 2400000

-- the deflection: 759.28 mm, in 0.01 mm
abbrev pub deflection_most : ℕ
deflection_most = 75928
