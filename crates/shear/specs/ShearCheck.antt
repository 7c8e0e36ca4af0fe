-- The shear check of a beam: 6.3.1v, then 4.3.3 (document 02, wish 6).
-- The capacity is worked out only where 6.3.1v holds.
use Rattle.std.specs.Prelude.{◌≡◌, leb, if◌then◌else◌}
use Rattle.quantity.specs.Unit.{newtons}
use Rattle.section.specs.declared.Section.{Section}
use Rattle.section.specs.Section.{Vd}
use Rattle.web_crushing.specs.Steps.{web_holds}
use Rattle.web_crushing.specs.Exact.{WebHolds}
use Rattle.shear.specs.declared.ShearResult.{ShearResult}
use Rattle.shear.specs.declared.ShearResult.TheVariants.{AboveWebLimit, AboveCapacity, WithinBoth}
use Rattle.shear.specs.Steps.{shear_capacity}
use Rattle.shear.specs.Exact.{ShearHolds}

-- 6.3.1v; then 4.3.3, V not above the capacity, both in N
unfoldable pub shear_result : Section → ShearResult
shear_result x =
    if web_holds x
    then (if leb (Vd x) (shear_capacity x)
    then WithinBoth (newtons (shear_capacity x))
    else AboveCapacity (newtons (shear_capacity x)))
    else AboveWebLimit

-- what it says of the two exact inequalities: a capacity stands only where 6.3.1v holds, and `WithinBoth` only where both do
abbrev pub ShearSays : Section → ShearResult → Type 0
ShearSays x AboveWebLimit = WebHolds x → ⊥
ShearSays x (AboveCapacity capacity) = WebHolds x
ShearSays x (WithinBoth capacity) = WebHolds x × ShearHolds x

-- the whole promise of `check_shear`
pub record ShearChecked (x : Section) (r : ShearResult) : Type 0 where
  pub result_is : r ≡ shear_result x
  pub says : ShearSays x r
