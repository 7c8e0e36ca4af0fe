-- `koxaltes::utilization_answer` meets its contract.
use Rattle.koxaltes.proofs.UtilizationEntry.{member_utilized}
use Rattle.koxaltes.proofs.utilization_answer.Goals as goal

pub returns : goal.returns
returns c = member_utilized c.built_from.ensures c.utilization_of.ensures c.from.ensures
