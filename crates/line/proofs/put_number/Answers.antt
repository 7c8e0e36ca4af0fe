-- `line::put_number` meets its contract.
use Rattle.text.proofs.Put.{wrote_then}
use Rattle.line.proofs.put_number.Goals as goal

pub returns : goal.returns
returns c =
    wrote_then c.put_decimal.ensures c.put_byte.ensures
