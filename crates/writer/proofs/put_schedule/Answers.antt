-- `writer::put_schedule` meets its contract.
use Rattle.text.proofs.Put.{wrote_then}
use Rattle.writer.proofs.put_schedule.Goals as goal

pub returns : goal.returns
returns c = wrote_then c.put_number.ensures c.put_records.ensures
