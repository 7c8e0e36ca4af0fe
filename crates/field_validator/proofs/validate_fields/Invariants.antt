use mathlib.Core.Path.{◌≡◌}
use lib.ListN.{drop}
use Rattle.field_table.specs.Fields.{fields_of}
use Rattle.field_validator.specs.FieldsAt.{empty, fields}
use Rattle.field_validator.proofs.validate_fields.Given as goal

abbrev pub invariant-loop-i : goal.invariant-loop-i
invariant-loop-i l =
    let s = l.initial.input.src in
    (l.after.src ≡ s) × (fields (fields_of l.kind) s.now l.initial.input.at 0 empty ≡ fields (drop l.i (fields_of l.kind)) s.now l.after.at l.i l.v)
