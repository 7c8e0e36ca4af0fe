-- Laws of the sums over groups: one group more at the end, and bounds over accepted groups.
use Prim.Native.Nat.{ℕ, ◌+◌, ◌*◌, ◌≤◌, ◌<◌, min, max}
use mathlib.Core.Path.{◌≡◌, refl, sym}
use mathlib.Core.List.{List, [], ◌∷◌, ◌++◌}
use native.Mathlib.Nat.{mul-add, mul_comm, mul_assoc, mul-le-mul_left}
use native.Mathlib.Numerals.{add-one}
use native.Mathlib.Omega.{arith}
use lib.ListN.{length, take, get_or, length-take}
use lib.Seq.{take-suc}
use Rattle.quantity.proofs.All.{all_take, all_at}
use Rattle.code_tables.proofs.Bars.{area_most}
use Rattle.bars.specs.declared.Group.{Group}
use Rattle.bars.specs.declared.Totals.{Totals}
use Rattle.bars.specs.Sums.{sum_over, bars_of, group_area, group_diameters, group_squares, bar_count, area, sum_d, sum_e, largest, smallest, smallest_up_to, added, TotalsOf, TotalsFit}
use Rattle.bars.specs.Accepted.{AcceptedGroup, AcceptedGroups}

-- ---- One group more, at the end.

sum_last : (f : Group → ℕ) (gs : List Group) (g : Group) → sum_over f (gs ++ (g ∷ [])) ≡ sum_over f gs + f g
sum_last f [] g = omega arith
sum_last f (h ∷ gs) g = rw (sum_last f gs g) (omega arith)

largest_last : (gs : List Group) (g : Group) → largest (gs ++ (g ∷ [])) ≡ max (largest gs) g.diameter
largest_last [] g = omega arith
largest_last (h ∷ gs) g = rw (largest_last gs g) (omega arith)

smallest_last : (n : ℕ) (gs : List Group) (g : Group) → smallest_up_to n (gs ++ (g ∷ [])) ≡ min (smallest_up_to n gs) g.diameter
smallest_last n [] g = omega arith
smallest_last n (h ∷ gs) g = rw (smallest_last n gs g) (omega arith)

totals_last : (gs : List Group) (g : Group) (t : Totals) → TotalsOf gs t → TotalsOf (gs ++ (g ∷ [])) (added t g)
unfolding bar_count area sum_d sum_e
totals_last gs g t e =
    record {
      n = omega (arith, e.n, sum_last bars_of gs g);
      S = omega (arith, e.S, sum_last group_area gs g);
      D = omega (arith, e.D, sum_last group_diameters gs g);
      E = omega (arith, e.E, sum_last group_squares gs g);
      largest_is = rw e.largest_is (sym (largest_last gs g));
      smallest_is = rw e.smallest_is (sym (smallest_last 50 gs g));
    }

-- ---- Of one group.

by_bars : (n : ℕ) {d k : ℕ} → d ≤ k → n * d ≤ k * n
by_bars n {d} {k} h = rw (mul_comm k n) (mul-le-mul_left n h)

some_by_bars : (n : ℕ) {d k : ℕ} → k ≤ d → k * n ≤ n * d
some_by_bars n {d} {k} h = rw (mul_comm k n) (mul-le-mul_left n h)

pub area_by_bars : (g : Group) → group_area g ≤ 19635 * g.bars
unfolding group_area
area_by_bars g = by_bars g.bars (area_most g.diameter)

module _ (g : Group) (a : AcceptedGroup g) where
  pub diameters_by_bars : group_diameters g ≤ 50 * g.bars
  unfolding group_diameters
  diameters_by_bars = by_bars g.bars a.diameter.most

  pub squares_by_diameters : group_squares g ≤ 50 * group_diameters g
  unfolding group_squares group_diameters
  squares_by_diameters = rw (← mul_assoc g.bars g.diameter g.diameter) (by_bars (g.bars * g.diameter) a.diameter.most)

  pub bars_by_diameters : 6 * g.bars ≤ group_diameters g
  unfolding group_diameters
  bars_by_diameters = some_by_bars g.bars a.diameter.least

  pub bars_by_area : 1 * g.bars ≤ group_area g
  unfolding group_area
  bars_by_area = some_by_bars g.bars a.diameter.listed

-- ---- Bounds of sums over accepted groups.

-- a bound of each group is one of the sums
sum_by : (k : ℕ) (f h : Group → ℕ) → ((g : Group) → AcceptedGroup g → f g ≤ k * h g) → (gs : List Group) → AcceptedGroups gs
    → sum_over f gs ≤ k * sum_over h gs
sum_by k f h b [] a = omega arith
sum_by k f h b (g ∷ gs) a = simp mul-add (omega (arith, b g a.0, sum_by k f h b gs a.1))

by_sum : (k : ℕ) (f h : Group → ℕ) → ((g : Group) → AcceptedGroup g → k * h g ≤ f g) → (gs : List Group) → AcceptedGroups gs
    → k * sum_over h gs ≤ sum_over f gs
by_sum k f h b [] a = omega arith
by_sum k f h b (g ∷ gs) a = simp mul-add (omega (arith, b g a.0, by_sum k f h b gs a.1))

-- Each is settled by the number of bars; E by D.
module _ (gs : List Group) (a : AcceptedGroups gs) where
  pub area_most_by_bars : area gs ≤ 19635 * bar_count gs
  unfolding area bar_count
  area_most_by_bars = sum_by 19635 group_area bars_of (λ g _. area_by_bars g) gs a

  pub area_least_by_bars : bar_count gs ≤ area gs
  unfolding area bar_count
  area_least_by_bars = omega (arith, by_sum 1 group_area bars_of bars_by_area gs a)

  pub D_most_by_bars : sum_d gs ≤ 50 * bar_count gs
  unfolding sum_d bar_count
  D_most_by_bars = sum_by 50 group_diameters bars_of diameters_by_bars gs a

  pub D_least_by_bars : 6 * bar_count gs ≤ sum_d gs
  unfolding sum_d bar_count
  D_least_by_bars = by_sum 6 group_diameters bars_of bars_by_diameters gs a

  pub E_most_by_D : sum_e gs ≤ 50 * sum_d gs
  unfolding sum_e sum_d
  E_most_by_D = sum_by 50 group_squares group_diameters squares_by_diameters gs a

-- at least a bar and at most 20 bars a group
pub bars_least : (gs : List Group) → AcceptedGroups gs → length gs ≤ bar_count gs
unfolding bar_count
bars_least [] a = omega arith
bars_least (g ∷ gs) a = omega (arith, a.0.some, bars_least gs a.1)

pub bars_most : (gs : List Group) → AcceptedGroups gs → bar_count gs ≤ 20 * length gs
unfolding bar_count
bars_most [] a = omega arith
bars_most (g ∷ gs) a = omega (arith, a.0.most, bars_most gs a.1)

pub smallest_most : (gs : List Group) → smallest gs ≤ 50
smallest_most [] = omega arith
smallest_most (g ∷ gs) = omega (arith, smallest_most gs)

-- What the checks use of a face or a column with at most 40 bars.
pub record Sums (gs : List Group) : Type 0 where
  pub S_most : area gs ≤ 785400
  pub D_most : sum_d gs ≤ 2000
  pub E_most : sum_e gs ≤ 50 * sum_d gs

pub sums : (gs : List Group) → AcceptedGroups gs → bar_count gs ≤ 40 → Sums gs
sums gs a h =
    record {
      S_most = omega (arith, area_most_by_bars gs a);
      D_most = omega (arith, D_most_by_bars gs a);
      E_most = E_most_by_D gs a;
    }

-- ... and where there is a group
pub record SomeBars (gs : List Group) : Type 0 where
  pub S_least : 0 < area gs
  pub D_least : 0 < sum_d gs

pub some_bars : (gs : List Group) → AcceptedGroups gs → 1 ≤ length gs → SomeBars gs
some_bars gs a h =
    record {
      S_least = omega (arith, area_least_by_bars gs a, bars_least gs a);
      D_least = omega (arith, D_least_by_bars gs a, bars_least gs a);
    }

-- ---- The loop over the groups.

-- at most four groups leave room for one more
pub totals_fit : (gs : List Group) (t : Totals) → AcceptedGroups gs → length gs ≤ 4 → TotalsOf gs t → TotalsFit t
totals_fit gs t a l e =
    record {
      n = omega (arith, e.n, bars_most gs a);
      S = omega (arith, e.S, bars_most gs a, area_most_by_bars gs a);
      D = omega (arith, e.D, bars_most gs a, D_most_by_bars gs a);
      E = omega (arith, e.E, bars_most gs a, D_most_by_bars gs a, E_most_by_D gs a);
    }

pub totals_none : TotalsOf [] (record { bars = 0; area = 0; diameters = 0; squares = 0; largest = 0; smallest = 50 })
unfolding bar_count area sum_d sum_e
totals_none = record { n = refl; S = refl; D = refl; E = refl; largest_is = refl; smallest_is = refl }

pub totals_more : (gs : List Group) (i : ℕ) (d : Group) (t : Totals) → i < length gs → TotalsOf (take i gs) t
    → TotalsOf (take (i + 1) gs) (added t (get_or gs i d))
totals_more gs i d t l e = rw (add-one, take-suc gs i d l) (totals_last (take i gs) (get_or gs i d) t e)

-- a turn of the loop: the groups up to i are summed, and there is one more
pub turn_requires : (gs : List Group) (i : ℕ) (d : Group) (t : Totals) → AcceptedGroups gs → length gs ≤ 4 → i < length gs → TotalsOf (take i gs) t
    → TotalsFit t × AcceptedGroup (get_or gs i d)
turn_requires gs i d t a four l e = (
  totals_fit (take i gs) t (all_take AcceptedGroup i gs a) (simp length-take (omega arith)) e,
  all_at AcceptedGroup gs a i d (λ k. absurd (omega arith)),
)
