-- Demand 3, of one figure: the whole number v on the safe side of its exact fraction a, at a distance below e.
use Rattle.std.specs.Prelude.{ℕ}
use Rattle.quantity.specs.Fraction.{Frac, whole, Proper, ◌≼◌, ◌≺◌, distance}

-- a capacity is not above its exact fraction
pub record NotAbove (v : ℕ) (e a : Frac) : Type 0 where
  pub proper : Proper a
  pub safe : whole v ≼ a
  pub close : distance (whole v) a ≺ e

-- a width, a deflection or a length is not below its exact fraction
pub record NotBelow (v : ℕ) (e a : Frac) : Type 0 where
  pub proper : Proper a
  pub safe : a ≼ whole v
  pub close : distance (whole v) a ≺ e
