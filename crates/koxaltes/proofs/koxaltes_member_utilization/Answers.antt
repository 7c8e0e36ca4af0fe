-- `koxaltes::koxaltes_member_utilization` meets its contract: the groups copied are those that the counts name.
use Rattle.koxaltes.proofs.UtilizationEntry.{lent_utilized}
use Rattle.koxaltes.proofs.koxaltes_member_utilization.Goals as goal

pub returns : goal.returns
returns c =
    lent_utilized c.args.x c.args.first.now c.args.second.now
    (rw c.first_count.ensures at c.first_groups.ensures)
    (rw c.second_count.ensures at c.first_groups-2.ensures)
    c.utilization_answer.ensures
