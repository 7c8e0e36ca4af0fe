-- Sizes of a mesh's anchorage and of the steps to it.
use Prim.Native.Nat.{ℕ, ◌≤◌}
use mathlib.Core.Bool.{◌||◌}
use native.Mathlib.Nat.{mul-le-mul, max-le}
use native.Mathlib.Omega.{arith}
use lib.Dec.{eqb}
use Rattle.std.specs.Prelude.{if◌then◌else◌}
use Rattle.quantity.proofs.Choice.{choice_most}
use Rattle.quantity.proofs.Rounding.{up_le}
use Rattle.code_tables.proofs.Mesh.{multiple_between}
use Rattle.member.specs.Member.{Mesh}
use Rattle.member.specs.Accepted.{AcceptedMesh}
use Rattle.anchorage.specs.Steps.{seismic_hundredths, basic_length, anchorage_length}

seismic_most : (s : ℕ) → seismic_hundredths s ≤ 115
seismic_most s = omega (arith, choice_most (eqb s 1 || eqb s 2) 115 (if eqb s 3 then 105 else 100), choice_most (eqb s 3) 105 100)

-- 1545.6 mm, in ten-thousandths
abbrev pub basic_most : ℕ
basic_most = 15456000

module _ (x : Mesh) (a : AcceptedMesh x) where
  pub basic_most_lem : (cross apart : ℕ) → cross ≤ 1 → basic_length cross apart x ≤ basic_most
  unfolding basic_length
  basic_most_lem cross apart h =
      let two = mul-le-mul (multiple_between x.family cross x.concrete (a.family_least, a.family_most, h)).1 a.d.most in
      let three = mul-le-mul two (choice_most (eqb x.paired 1) 14 10) in
      let four = mul-le-mul three (choice_most (eqb apart 1) 8 10) in
      mul-le-mul (max-le (omega arith) four) (seismic_most x.seismic)

  pub anchorage_most : anchorage_length x ≤ 1546
  unfolding anchorage_length
  anchorage_most = up_le (omega arith) (omega (arith, basic_most_lem x.cross x.apart a.cross))
