-- Demand 3 for every accepted column, by the ways out of its checks.
use Rattle.material.specs.declared.Concrete.{Concrete}
use Rattle.material.specs.declared.Steel.{Steel}
use Rattle.material.specs.Concrete.{concrete_of}
use Rattle.material.specs.Steel.{steel_of}
use Rattle.material.proofs.Materials.{usable_concrete, usable_steel}
use Rattle.member.specs.Member.{Column}
use Rattle.member.specs.Accepted.{AcceptedColumn}
use Rattle.outcome.specs.declared.Outcome.{Outcome}
use Rattle.outcome.proofs.Says.{says_holds, says_named}
use Rattle.axial.specs.Given.{Given}
use Rattle.axial.proofs.Exact.{axial_safe}
use Rattle.column.specs.Checks.{column_outcome}
use Rattle.column.specs.Exact.{none, SafeColumnWith, SafeColumn}
use Rattle.column.proofs.Ways.{WayOut, no_figure_lem, to_axial, way_out}

safe_with : {x : Column} {concrete : Concrete} {steel : Steel} {o : Outcome} → Given x concrete steel → WayOut x concrete steel o →
    SafeColumnWith x concrete steel o
safe_with given (no_figure_lem s) = record { first = tt; second = tt; third = tt; fourth = tt; passed = says_holds s; named = says_named none s }
safe_with given (to_axial s) =
    record { first = axial_safe _ _ _ given; second = tt; third = tt; fourth = tt; passed = says_holds s; named = says_named none s }

-- the materials that its fields name are usable
pub column_given : (x : Column) → AcceptedColumn x → Given x (concrete_of x.concrete) (steel_of x.steel)
column_given x a = record { accepted = a; usable_concrete = usable_concrete _ a.concrete; usable_steel = usable_steel _ a.steel }

pub column_safe : (x : Column) → AcceptedColumn x → SafeColumn x (column_outcome x (concrete_of x.concrete) (steel_of x.steel))
column_safe x a = safe_with (column_given x a) (way_out _ _ _ (column_given x a))
