-- `shear::check_shear` meets its contract.
use mathlib.Core.Path.{sym, ◌∙◌}
use Rattle.web_crushing.proofs.Tests.{web_reflects}
use Rattle.shear.specs.ShearCheck.{shear_result}
use Rattle.shear.proofs.ShearCheck.{checked}
use Rattle.shear.proofs.check_shear.Goals as goal

pub shear_capacity-requires : goal.shear_capacity-requires
shear_capacity-requires c =
    (web_reflects c.args.x.bounded).holds (sym c.web_holds.ensures ∙ c.if-web_holds.true)

pub returns-then-web_holds : goal.returns-then-web_holds
unfolding shear_result
returns-then-web_holds c =
    checked c.args.x.bounded (rw (sym c.web_holds.ensures ∙ c.if-web_holds.true, c.by_capacity.ensures, c.shear_capacity.ensures))

pub returns-else-web_holds : goal.returns-else-web_holds
unfolding shear_result
returns-else-web_holds c = checked c.args.x.bounded (rw (sym c.web_holds.ensures ∙ c.if-web_holds.false))
