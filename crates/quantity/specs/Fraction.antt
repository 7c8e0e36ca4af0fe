-- Exact fractions, compared by cross-multiplying.
-- Pairs of whole numbers, the lower one above 0 (`Proper`).
use Rattle.std.specs.Prelude.{ℕ, ◌+◌, ◌-◌, ◌*◌, ◌<◌, ◌≤◌, min, max}

infixl 80 ◌//◌
infixl 70 ◌⊗◌
infixl 70 ◌⊘◌
infixl 65 ◌⊕◌
infixl 65 ◌⊖◌
infix 50 ◌≼◌
infix 50 ◌≺◌
pub record Frac : Type 0 where
  pub num : ℕ
  pub den : ℕ

-- n / d, and a whole number
abbrev pub ◌//◌ : ℕ → ℕ → Frac
n // d = record { num = n; den = d }

abbrev pub whole : ℕ → Frac
whole n = n // 1

abbrev pub Proper : Frac → Type 0
Proper a = 0 < a.den

-- sum, difference (0 where b is the larger one), product and quotient (for b above 0)
unfoldable pub ◌⊕◌ : Frac → Frac → Frac
a ⊕ b = (a.num * b.den + a.den * b.num) // (a.den * b.den)

unfoldable pub ◌⊖◌ : Frac → Frac → Frac
a ⊖ b = (a.num * b.den - a.den * b.num) // (a.den * b.den)

unfoldable pub ◌⊗◌ : Frac → Frac → Frac
a ⊗ b = (a.num * b.num) // (a.den * b.den)

unfoldable pub ◌⊘◌ : Frac → Frac → Frac
a ⊘ b = (a.num * b.den) // (a.den * b.num)

-- the smaller and the larger of two, and a held to lo .. hi
unfoldable pub smaller : Frac → Frac → Frac
smaller a b = min (a.num * b.den) (a.den * b.num) // (a.den * b.den)

unfoldable pub larger : Frac → Frac → Frac
larger a b = max (a.num * b.den) (a.den * b.num) // (a.den * b.den)

unfoldable pub clamp_frac : Frac → Frac → Frac → Frac
clamp_frac lo hi a = smaller hi (larger lo a)

-- at most, below
abbrev pub ◌≼◌ : Frac → Frac → Type 0
a ≼ b = a.num * b.den ≤ b.num * a.den

abbrev pub ◌≺◌ : Frac → Frac → Type 0
a ≺ b = a.num * b.den < b.num * a.den

-- how far two lie apart
unfoldable pub distance : Frac → Frac → Frac
distance a b = (a ⊖ b) ⊕ (b ⊖ a)
