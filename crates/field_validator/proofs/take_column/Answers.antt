-- `field_validator::take_column` meets its contract.
use Rattle.field_validator.proofs.Taken.{from_groups, row_from, column_rows, then_on}
use Rattle.field_table.specs.Fields.{column_links}
use Rattle.field_validator.proofs.take_column.Goals as goal

pub returns : goal.returns
returns c =
    rw column_rows
    (then_on _ _ _ _ _ c.take_row.ensures from_groups c.in_ok-take_row.was _ _ _
    (then_on _ _ _ _ _ c.take_list.ensures (λ s. row_from s 4 column_links) c.in_ok-take_list.was _ _ _ c.take_row-2.ensures))
