-- What the checks are put to: an accepted column, and the values of any usable concrete and steel.
use Rattle.material.specs.declared.Concrete.{Concrete}
use Rattle.material.specs.declared.Steel.{Steel}
use Rattle.material.specs.Bounds.{UsableConcrete, UsableSteel}
use Rattle.member.specs.Member.{Column}
use Rattle.member.specs.Accepted.{AcceptedColumn}

pub record Given (x : Column) (concrete : Concrete) (steel : Steel) : Type 0 where
  pub accepted : AcceptedColumn x
  pub usable_concrete : UsableConcrete concrete
  pub usable_steel : UsableSteel steel
