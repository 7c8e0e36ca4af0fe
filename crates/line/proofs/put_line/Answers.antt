-- `line::put_line` meets its contract.
use Rattle.line.proofs.Text.{wrote_more, wrote_end}
use Rattle.line.proofs.put_line.Goals as goal

pub returns : goal.returns
returns c =
    wrote_more _ _ _ c.put_number.ensures
    (wrote_more _ _ _ (rw c.name_of.ensures at c.put_label.ensures)
    (wrote_more _ _ _ c.put_figure.ensures
    (wrote_more _ _ _ c.put_figure-2.ensures
    (wrote_more _ _ _ c.put_figure-3.ensures (wrote_end _ c.put_figure-4.ensures)))))
