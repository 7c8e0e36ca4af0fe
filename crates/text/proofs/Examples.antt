-- Worked examples: decimal numbers.
use mathlib.Core.Path.{◌≡◌, refl}
use mathlib.Core.List.{[], ◌∷◌}
use Rattle.text.specs.Text.{digits, decimal, value_from, value_of}

-- the numbers 0, 10 and the largest one of 64 bits
smallest : decimal 0 ≡ 48 ∷ []
unfolding decimal
smallest = refl

ten : decimal 10 ≡ 49 ∷ 48 ∷ []
unfolding decimal digits
ten = refl

largest : value_of (decimal 18446744073709551615) ≡ 18446744073709551615
unfolding decimal digits value_of value_from
largest = refl
