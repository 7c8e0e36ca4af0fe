-- `koxaltes::koxaltes_report` meets its contract.
use Rattle.koxaltes.proofs.Answers.{report_entry}
use Rattle.koxaltes.proofs.koxaltes_report.Goals as goal

pub returns : goal.returns
returns c = report_entry c.report.ensures c.from.ensures
