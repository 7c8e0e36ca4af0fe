-- `koxaltes::koxaltes_write_schedule` meets its contract.
use Rattle.koxaltes.proofs.Answers.{write_entry}
use Rattle.koxaltes.proofs.koxaltes_write_schedule.Goals as goal

pub returns : goal.returns
returns c = write_entry c.write_schedule.ensures c.from.ensures
