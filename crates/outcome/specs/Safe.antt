-- Demand 3 for the figures of one line: each printed figure against its clause's exact fraction.
use Rattle.std.specs.Prelude.{None, Some}
use Rattle.quantity.specs.Fraction.{Frac}
use Rattle.quantity.specs.Safe.{NotAbove, NotBelow}
use Rattle.outcome.specs.Outcome.{Figure}

-- what belongs at one of the four places of a line: nothing, a capacity, or a width, deflection or length;
-- with the distance it keeps below, and its exact fraction in the figure's unit
pub data Place : Type 0 where
  empty : Place
  capacity : Frac → Frac → Place
  extent : Frac → Frac → Place

-- P where the figure was reached
abbrev pub WhereReached : Figure → Type 0 → Type 0
WhereReached None P = Unit {0}
WhereReached (Some v) P = P

abbrev pub Safe : Figure → Place → Type 0
Safe None place = Unit {0}
Safe (Some v) empty = ⊥
Safe (Some v) (capacity e a) = NotAbove v e a
Safe (Some v) (extent e a) = NotBelow v e a
