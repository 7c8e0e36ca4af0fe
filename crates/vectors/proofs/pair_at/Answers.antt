-- `vectors::pair_at` meets its contract.
use Rattle.vectors.specs.Vectors.{pair_at}
use borrow.Author.Rules.{rules}
use Rattle.vectors.proofs.pair_at.Goals as goal

pub returns : goal.returns
unfolding pair_at
returns c = search rules
