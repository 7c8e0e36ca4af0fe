-- What the checks ask of the values of any concrete and steel.
-- An added row of the tables within these bounds moves no proof of a check.
use Rattle.std.specs.Prelude.{ℕ, ◌*◌, ◌≤◌, ◌≡◌}
use Rattle.quantity.specs.declared.Stress.{Stress}
use Rattle.quantity.specs.Unit.{in_units, in_tenths, in_hundredths}
use Rattle.material.specs.declared.Concrete.{Concrete}
use Rattle.material.specs.declared.Steel.{Steel}

-- a stress of whole N/mm², at most n
pub record WholeUpTo (n : ℕ) (s : Stress) : Type 0 where
  pub most : in_units s ≤ n
  pub exact : s.0 ≡ 100 * in_units s

pub record UsableConcrete (m : Concrete) : Type 0 where
  pub fc_least : 1 ≤ in_tenths m.fc
  pub fc_most : in_tenths m.fc ≤ 400
  pub fc_exact : m.fc.0 ≡ 10 * in_tenths m.fc
  pub ft_most : in_hundredths m.ft ≤ 400
  pub ftk_most : in_hundredths m.ftk ≤ 400
  pub ec_least : 25500 ≤ in_units m.ec
  pub ec : WholeUpTo 40000 m.ec

pub record UsableSteel (s : Steel) : Type 0 where
  pub fyk : WholeUpTo 600 s.fyk
  pub fy : WholeUpTo 600 s.fy
  pub fyc : WholeUpTo 600 s.fyc
  pub axial : WholeUpTo 600 s.axial
  pub depth_least : 1 ≤ s.depthLimit
  pub depth_most : s.depthLimit ≤ 99
