-- `field_reader::read_column` meets its contract: its rows and its list are known to be taken, one after the other.
use mathlib.Core.Path.{refl}
use native.Mathlib.Omega.{arith}
use Rattle.varint.proofs.Moved.{moved_on}
use Rattle.field_table.specs.Fields.{column_links}
use Rattle.field_validator.proofs.Taken.{from_groups, row_from, column_rows}
use Rattle.field_reader.proofs.Rows.{first_got, then_got}
use Rattle.field_reader.proofs.read_column.Goals as goal

pub read_row-requires : goal.read_row-requires
read_row-requires c = (omega arith, omega arith, first_got _ _ (rw (column_rows _ _ _) at c.requires))

pub read_list-requires : goal.read_list-requires
read_list-requires c =
    let list = then_got _ _ _ _ c.read_row.ensures from_groups (rw (column_rows _ _ _) at c.requires) in
    (omega arith, first_got _ _ list)

pub read_row-requires-2 : goal.read_row-requires-2
read_row-requires-2 c =
    let list = then_got _ _ _ _ c.read_row.ensures from_groups (rw (column_rows _ _ _) at c.requires) in
    (omega arith, omega arith, then_got _ _ _ _ c.read_list.ensures (λ s. row_from s 4 column_links) list)

pub returns : goal.returns
returns c =
    rw column_rows
    (moved_on _ _ _ _ c.read_row.ensures from_groups _ refl _ _
    (moved_on _ _ _ _ c.read_list.ensures (λ s. row_from s 4 column_links) _ refl _ _ c.read_row-2.ensures))
