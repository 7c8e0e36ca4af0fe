-- Sums over groups of bars.
use Rattle.std.specs.Prelude.{ℕ, ◌+◌, ◌*◌, ◌^◌, ◌<◌, min, max, ◌≡◌, List, [], ◌∷◌}
use Rattle.code_tables.specs.Bars.{area_of}
use Rattle.bars.specs.declared.Group.{Group}
use Rattle.bars.specs.declared.Totals.{Totals}

abbrev pub sum_over : (Group → ℕ) → List Group → ℕ
sum_over f [] = 0
sum_over f (g ∷ gs) = f g + sum_over f gs

-- of one group: its bars, their area (tenths of mm²), n·d and n·d²
abbrev pub bars_of : Group → ℕ
bars_of g = g.bars

unfoldable pub group_area : Group → ℕ
group_area g = g.bars * area_of g.diameter

unfoldable pub group_diameters : Group → ℕ
group_diameters g = g.bars * g.diameter

unfoldable pub group_squares : Group → ℕ
group_squares g = g.bars * (g.diameter * g.diameter)

-- number of bars; S or S'; D; E
unfoldable pub bar_count : List Group → ℕ
bar_count gs = sum_over bars_of gs

unfoldable pub area : List Group → ℕ
area gs = sum_over group_area gs

unfoldable pub sum_d : List Group → ℕ
sum_d gs = sum_over group_diameters gs

unfoldable pub sum_e : List Group → ℕ
sum_e gs = sum_over group_squares gs

-- the largest diameter, and the smallest up to a bound (an empty list has neither)
abbrev pub largest : List Group → ℕ
largest [] = 0
largest (g ∷ gs) = max g.diameter (largest gs)

abbrev pub smallest_up_to : ℕ → List Group → ℕ
smallest_up_to n [] = n
smallest_up_to n (g ∷ gs) = min g.diameter (smallest_up_to n gs)

-- no bar is thicker than 50 mm
abbrev pub smallest : List Group → ℕ
smallest gs = smallest_up_to 50 gs

-- The totals of a list of groups.
pub record TotalsOf (gs : List Group) (t : Totals) : Type 0 where
  pub n : t.bars ≡ bar_count gs
  pub S : t.area ≡ area gs
  pub D : t.diameters ≡ sum_d gs
  pub E : t.squares ≡ sum_e gs
  pub largest_is : t.largest ≡ largest gs
  pub smallest_is : t.smallest ≡ smallest gs

-- The totals with one group more.
abbrev pub added : Totals → Group → Totals
added t g =
    record {
      bars = t.bars + g.bars;
      area = t.area + group_area g;
      diameters = t.diameters + group_diameters g;
      squares = t.squares + group_squares g;
      largest = max t.largest g.diameter;
      smallest = min t.smallest g.diameter;
    }

-- Room in 64 bits for one group more.
pub record TotalsFit (t : Totals) : Type 0 where
  pub n : t.bars < 2 ^ 32
  pub S : t.area < 2 ^ 32
  pub D : t.diameters < 2 ^ 32
  pub E : t.squares < 2 ^ 32
