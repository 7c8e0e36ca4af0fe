-- `decimal::set_short` meets its contract.
use native.Mathlib.Omega.{arith}
use borrow.Author.Rules.{rules}
use Rattle.text.proofs.Decimal.{decimal_one}
use Rattle.decimal.proofs.Decimal.{decimal_pair}
use Rattle.decimal.proofs.set_short.Goals as goal

pub returns-then-v-lt10 : goal.returns-then-v-lt10
returns-then-v-lt10 c = rw (decimal_one c.args.v (omega arith)) (search rules)

pub returns-else-v-lt10 : goal.returns-else-v-lt10
returns-else-v-lt10 c = rw (decimal_pair c.args.v (omega arith) (omega arith)) c.set_two.ensures
