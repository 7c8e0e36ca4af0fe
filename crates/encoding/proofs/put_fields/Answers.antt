-- `encoding::put_fields` meets its contract.
use Rattle.field_table.specs.Fields.{fields_of}
use Rattle.field_layout.proofs.Held.{beam_fields_held}
use Rattle.encoding.specs.FieldNumbers.{field_numbers}
use Rattle.encoding.proofs.Rows.{mesh_row}
use Rattle.encoding.proofs.put_fields.Goals as goal

pub put_beam-requires : goal.put_beam-requires
unfolding fields_of
put_beam-requires c =
    beam_fields_held c.in-Beam.pointLoad _ (rw c.in-Beam.is at c.requires)

pub put_column-requires : goal.put_column-requires
unfolding fields_of
put_column-requires c = rw c.in-Column.is at c.requires

pub returns-in-Beam : goal.returns-in-Beam
unfolding field_numbers
returns-in-Beam c = rw c.in-Beam.is c.put_beam.ensures

pub returns-in-Column : goal.returns-in-Column
unfolding field_numbers
returns-in-Column c = rw c.in-Column.is c.put_column.ensures

pub returns-in-Mesh : goal.returns-in-Mesh
unfolding field_numbers
returns-in-Mesh c = rw (c.in-Mesh.is, ← mesh_row _) c.put_row.ensures
