-- `report_text::put_report` meets its contract.
use Rattle.text.proofs.Put.{wrote_then}
use Rattle.report_text.proofs.put_report.Goals as goal

pub returns : goal.returns
returns c = wrote_then c.put_head.ensures c.put_members.ensures
