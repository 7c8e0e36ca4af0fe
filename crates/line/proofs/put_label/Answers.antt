-- `line::put_label` meets its contract.
use Rattle.text.proofs.Put.{wrote_then}
use Rattle.line.proofs.put_label.Goals as goal

pub returns : goal.returns
returns c =
    wrote_then c.put.ensures c.put_byte.ensures
