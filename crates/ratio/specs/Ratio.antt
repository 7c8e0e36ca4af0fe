-- One utilization as a double: demand over figure, or figure over limit; the four of a member in one record.
-- Document 01, "Shares for the viewer", calls a utilization a share.
use Rattle.std.specs.Prelude.{ℕ, ◌^◌, ◌<◌, ◌≡◌, Bool, true, false, eqb, pos, Float, if◌then◌else◌, None, Some, Option}
use Rattle.std.specs.Float.{nan, inf, fin, binary64}
use Rattle.std.specs.Float.Ieee.{of_int, div, round, le}
use Rattle.outcome.specs.Outcome.{Figure}
use Rattle.outcome.specs.declared.Outcome.{Outcome}
use Rattle.ratio.specs.declared.Utilization.{Utilization}

-- ---- Doubles.

-- 0.0 and 1.0
abbrev pub nought : Float
nought = fin false 0 (pos 0)

abbrev pub one : Float
one = fin false 1 (pos 0)

-- "Whole numbers below 2^53 cast without loss, one f64 division": the quotient that the code forms
unfoldable pub quotient : ℕ → ℕ → Float
quotient a b = div binary64 (of_int binary64 (pos a)) (of_int binary64 (pos b))

-- "the double nearest to" a/b, "rounded once" (ties to even)
unfoldable pub nearest : ℕ → ℕ → Float
nearest a b = round binary64 false a b

-- a double that is finite and not negative
abbrev pub finite_nonneg : Float → Bool
finite_nonneg nan = false
finite_nonneg (inf s) = false
finite_nonneg (fin true m e) = false
finite_nonneg (fin false m e) = true

-- ---- One utilization, by either of the two.

-- a double, 0.0 where none was reached or the divisor is 0, and the mark that says whether
pub record Ratio : Type 0 where
  pub value : Float
  pub reached : Bool

-- "a mark where none was reached or the divisor is 0"
abbrev pub no_ratio : Ratio
no_ratio = record { value = nought; reached = false }

-- the same of an option
abbrev pub as_ratio : Option Float → Ratio
as_ratio None = no_ratio
as_ratio (Some x) = record { value = x; reached = true }

unfoldable pub ratio : (ℕ → ℕ → Float) → ℕ → ℕ → Ratio
ratio over a b = if eqb b 0 then no_ratio else record { value = over a b; reached = true }

-- "demand over figure": of a capacity
unfoldable pub over_figure : (ℕ → ℕ → Float) → ℕ → Figure → Ratio
over_figure over demand (Some figure) = ratio over demand figure
over_figure over demand None = no_ratio

-- "figure over limit": of a width, a deflection or a length
unfoldable pub over_limit : (ℕ → ℕ → Float) → Figure → ℕ → Ratio
over_limit over (Some figure) limit = ratio over figure limit
over_limit over None limit = no_ratio

-- ---- The four of a member.

abbrev pub four_ratios : Ratio → Ratio → Ratio → Ratio → Utilization
four_ratios a b c d =
    record {
      first = a.value;
      second = b.value;
      third = c.value;
      fourth = d.value;
      firstReached = a.reached;
      secondReached = b.reached;
      thirdReached = c.reached;
      fourthReached = d.reached;
    }

-- ---- Where casts lose nothing.

abbrev pub ExactFigure : Figure → Type 0
ExactFigure (Some v) = v < 2 ^ 53
ExactFigure None = Unit {0}

pub record ExactFigures (o : Outcome) : Type 0 where
  pub first : ExactFigure o.first
  pub second : ExactFigure o.second
  pub third : ExactFigure o.third
  pub fourth : ExactFigure o.fourth

-- ---- What it says of its check.

-- a utilization that was reached is at most 1.0 exactly where its check holds
abbrev pub Decides : Bool → Float → Bool → Type 0
Decides reached value holds = reached ≡ true → le value one ≡ holds
