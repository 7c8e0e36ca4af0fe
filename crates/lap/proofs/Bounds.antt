-- Sizes of a mesh's lap and of the steps to it.
use Prim.Native.Nat.{ℕ, ◌*◌, ◌≤◌, max}
use native.Mathlib.Omega.{arith}
use lib.Dec.{leb, eqb}
use Rattle.std.specs.Prelude.{if◌then◌else◌}
use Rattle.quantity.proofs.Choice.{choice_most}
use Rattle.quantity.proofs.Rounding.{up_le}
use Rattle.member.specs.Member.{Mesh}
use Rattle.member.specs.Accepted.{AcceptedMesh}
use Rattle.anchorage.specs.Steps.{basic_length}
use Rattle.anchorage.proofs.Bounds.{basic_most, basic_most_lem}
use Rattle.lap.specs.Steps.{lap_row, lap_least, tension_lap, required_lap, lap_length}

pub row_most : (lapping : ℕ) → lap_row lapping ≤ 1
row_most lapping = choice_most (eqb lapping 1) 1 0

-- 2089.28 mm, in hundred-thousandths
abbrev pub most_tension : ℕ
most_tension = 208928000

module _ (x : Mesh) (a : AcceptedMesh x) where
  -- the parts of 5.3.7 in tension
  pub record Parts : Type 0 where
    pub least : lap_least x.lapping ≤ 300
    pub basic : basic_length (lap_row x.lapping) 0 x ≤ basic_most
    pub thick : (if leb 12 x.d then 5 * x.d else 0) ≤ 80

  pub parts : Parts
  parts = record {
    least = choice_most (eqb x.lapping 1) 200 300;
    basic = basic_most_lem x a (lap_row x.lapping) 0 (row_most x.lapping);
    thick = omega (arith, choice_most (leb 12 x.d) (5 * x.d) 0, a.d.most);
  }

  pub tension_most : tension_lap x ≤ most_tension
  unfolding tension_lap
  tension_most = omega (arith, parts)

  pub lap_most : lap_length x ≤ 2090
  unfolding lap_length required_lap
  lap_most =
      up_le (omega arith)
      (omega (arith, choice_most (eqb x.compression 1) (max 150000000 (7 * tension_lap x)) (10 * tension_lap x), tension_most))
