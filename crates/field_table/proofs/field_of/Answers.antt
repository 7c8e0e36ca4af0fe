-- `field_table::field_of` meets its contract: a beam's table begins with that of kind 1.
use mathlib.Core.Path.{◌∙◌}
use Rattle.field_table.specs.Fields.{fields_of}
use Rattle.field_table.proofs.Tables.{beam_field_same}
use Rattle.field_table.proofs.field_of.Goals as goal

pub returns-in-Beam : goal.returns-in-Beam
unfolding fields_of
returns-in-Beam c =
    let e = c.in-Beam.is in
    rw e (c.beam_field.ensures ∙ beam_field_same c.in-Beam.field-0 _ (rw e at c.requires))
