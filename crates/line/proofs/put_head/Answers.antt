-- `line::put_head` meets its contract.
use Rattle.line.proofs.Text.{wrote_more, wrote_end}
use Rattle.line.proofs.put_head.Goals as goal

pub returns : goal.returns
returns c =
    wrote_more _ _ _ c.put_label.ensures (wrote_end _ c.put_number.ensures)
