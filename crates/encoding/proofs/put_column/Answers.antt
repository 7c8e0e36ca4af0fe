-- `encoding::put_column` meets its contract.
use native.Mathlib.Omega.{arith}
use Rattle.text.proofs.Put.{wrote_then}
use Rattle.encoding.proofs.Rows.{column_few, column_rows}
use Rattle.encoding.proofs.put_column.Goals as goal

pub list_end-requires : goal.list_end-requires
list_end-requires c = (omega arith, column_few _ c.requires)

pub put_row-requires : goal.put_row-requires
put_row-requires c = omega (arith, c.list_end.ensures, column_few _ c.requires)

pub returns : goal.returns
returns c =
    rw (column_rows _ c.requires _ c.list_end.ensures) at (wrote_then c.put_row.ensures c.put_row-2.ensures)
