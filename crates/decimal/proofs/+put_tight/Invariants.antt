-- The measure of the calls of `decimal::put_tight` to itself is the number.
use Rattle.decimal.proofs.+put_tight.Given as goal

abbrev pub decreases-put_tight : goal.decreases-put_tight
decreases-put_tight l = l.v
