-- `utilization::utilization_of` meets its contract.
use Rattle.utilization.proofs.Utilized.{given, refused, valid_exact}
use Rattle.utilization.proofs.utilization_of.Goals as goal

pub member_utilization-requires : goal.member_utilization-requires
member_utilization-requires c = valid_exact c.in-Ok.member c.check_member.ensures

pub returns-in-Ok : goal.returns-in-Ok
returns-in-Ok c =
    let v = rw c.in-Ok.is at c.validate.ensures in
    given _ c.in-Ok.member v.0 v.1 c.check_member.ensures c.member_utilization.ensures

pub returns-in-Err : goal.returns-in-Err
returns-in-Err c =
    rw c.at.ensures (refused _ c.in-Err.q (rw c.in-Err.is at c.validate.ensures))
