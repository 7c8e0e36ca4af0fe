-- `koxaltes::koxaltes_member_report` meets its contract: the groups copied are those that the counts name.
use Rattle.koxaltes.proofs.Answers.{lent_entry}
use Rattle.koxaltes.proofs.koxaltes_member_report.Goals as goal

pub returns : goal.returns
returns c =
    lent_entry c.args.x c.args.first.now c.args.second.now
    (rw c.first_count.ensures at c.first_groups.ensures)
    (rw c.second_count.ensures at c.first_groups-2.ensures)
    c.member_answer.ensures
