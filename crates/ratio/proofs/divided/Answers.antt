-- `ratio::divided` meets its contract.
use mathlib.Core.Path.{refl}
use borrow.Author.Rules.{rules}
use lib.Dec.{le→leb}
use lib.Ieee.{in_float}
use Rattle.ratio.specs.Ratio.{quotient}
use Rattle.ratio.proofs.divided.Goals as goal

pub int_to_float-result : goal.int_to_float-result
unfolding in_float
int_to_float-result c = le→leb c.args.a 9007199254740992 (search rules)

pub int_to_float-result-2 : goal.int_to_float-result-2
unfolding in_float
int_to_float-result-2 c = le→leb c.args.b 9007199254740992 (search rules)

pub returns : goal.returns
unfolding quotient
returns c = refl
