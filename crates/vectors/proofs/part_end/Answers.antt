-- `vectors::part_end` meets its contract.
use borrow.Author.Rules.{rules}
use Rattle.vectors.specs.Vectors.{part_end}
use Rattle.vectors.proofs.part_end.Goals as goal

pub returns : goal.returns
unfolding part_end
returns c = search rules
