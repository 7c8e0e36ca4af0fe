-- The parameters in the codes' own words, over fractions: 000, 4.2.2 and 4.3.1; GB 50010, 6.2.1, 6.2.6 and 6.2.7.
-- No contract cites them: they are what the record's numbers are held against.
use Rattle.std.specs.Prelude.{ℕ, ◌-◌}
use Rattle.quantity.specs.Fraction.{Frac, ◌//◌, whole, ◌⊕◌, ◌⊖◌, ◌⊗◌, ◌⊘◌}
use Rattle.quantity.specs.Unit.{exact_stress}
use Rattle.material.specs.declared.Steel.{Steel}
use Rattle.material.specs.Steel.{Es}

-- p to C50, q at C80, straight between; p is the larger one
unfoldable pub straight : Frac → Frac → ℕ → Frac
straight p q grade = p ⊖ (p ⊖ q) ⊗ ((grade - 50) // 30)

-- α1 (000, 4.2.2)
abbrev pub exactα₁ : ℕ → Frac
exactα₁ = straight (whole 1) (94 // 100)

-- βc (000, 4.3.1)
abbrev pub exactβc : ℕ → Frac
exactβc = straight (whole 1) (80 // 100)

-- β1 (GB 6.2.6)
abbrev pub exactβ₁ : ℕ → Frac
exactβ₁ = straight (80 // 100) (74 // 100)

-- εcu (GB 6.2.1)
abbrev pub exactεcu : ℕ → Frac
exactεcu grade = 33 // 10000 ⊖ (grade - 50) // 100000

-- ξb above C50 (GB 6.2.7)
abbrev pub exact_balanced_depth : ℕ → Steel → Frac
exact_balanced_depth grade s = exactβ₁ grade ⊘ (whole 1 ⊕ exact_stress s.fy ⊘ (whole Es ⊗ exactεcu grade))
