-- `encoding::put_beam` meets its contract.
use native.Mathlib.Omega.{arith}
use Rattle.text.proofs.Put.{wrote_then}
use Rattle.field_table.proofs.Tables.{beam_end}
use Rattle.encoding.proofs.Rows.{tension_few, compression_few, beam_rows}
use Rattle.encoding.proofs.put_beam.Goals as goal

pub list_end-requires : goal.list_end-requires
list_end-requires c = (omega arith, tension_few _ c.requires)

pub put_row-requires : goal.put_row-requires
put_row-requires c = omega (arith, c.list_end.ensures, tension_few _ c.requires)

pub list_end-requires-2 : goal.list_end-requires-2
list_end-requires-2 c = (omega arith, compression_few _ c.requires)

pub put_row-requires-2 : goal.put_row-requires-2
put_row-requires-2 c = omega (arith, c.list_end-2.ensures, compression_few _ c.requires)

pub put_row-requires-3 : goal.put_row-requires-3
put_row-requires-3 c = beam_end c.args.pointLoad _ c.beam_field_count.ensures

pub returns : goal.returns
returns c =
    rw (beam_rows _ c.args.pointLoad c.requires _ _ _ c.list_end.ensures c.list_end-2.ensures c.beam_field_count.ensures)
    at (wrote_then c.put_row.ensures (wrote_then c.put_row-2.ensures c.put_row-3.ensures))
