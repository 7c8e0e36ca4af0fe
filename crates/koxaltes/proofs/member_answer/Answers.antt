-- `koxaltes::member_answer` meets its contract.
use Rattle.koxaltes.proofs.Answers.{member_entry}
use Rattle.koxaltes.proofs.member_answer.Goals as goal

pub returns : goal.returns
returns c = member_entry c.built_from.ensures c.member_report.ensures c.from.ensures
