-- `field_validator::validate_fields` meets its contract.
use mathlib.Core.Path.{◌≡◌, refl, sym, ◌∙◌}
use borrow.Author.Rules.{rules}
use Rattle.std.specs.Prelude.{Err}
use Rattle.field_table.specs.Fields.{fields_of}
use Rattle.field_validator.proofs.Fields.{field_refused}
use Rattle.field_validator.proofs.validate_fields.Goals as goal

pub returns-in_err-v-clause-moved : goal.returns-in_err-v-clause-moved
returns-in_err-v-clause-moved c =
    let e : c.from_residual.result ≡ Err (c.in_err-v.field-0.0) = search rules in
    let read = rw c.loop-i.invariant.0 at c.validate_field.ensures.reads in
    record {
      same = refl;
      reads = rw e (sym (c.loop-i.invariant.1 ∙ field_refused (fields_of c.args.kind) c.args.input.now.src.now c.loop-i.after.at c.loop-i.i c.loop-i.v (search rules) _ c.field_of-d.ensures
          (sym c.field_present.ensures ∙ c.if-field_present.true) _ _ read _ c.in_err-v.was));
    }
