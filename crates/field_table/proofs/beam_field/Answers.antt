-- `field_table::beam_field` meets its contract.
use mathlib.Core.Bool.{true}
use Rattle.std.proofs.lemmas.List.{get_or_default}
use Rattle.field_table.specs.Fields.{beam_fields_of}
use Rattle.field_table.proofs.beam_field.Goals as goal

pub returns : goal.returns
returns c = get_or_default (beam_fields_of true) c.args.i _ _ c.requires
