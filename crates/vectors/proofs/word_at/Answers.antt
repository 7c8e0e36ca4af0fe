-- `vectors::word_at` meets its contract.
use Rattle.vectors.specs.Vectors.{word_at}
use borrow.Author.Rules.{rules}
use Rattle.vectors.proofs.word_at.Goals as goal

pub returns : goal.returns
unfolding word_at
returns c = search rules
