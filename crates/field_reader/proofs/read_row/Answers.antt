-- `field_reader::read_row` meets its contract.
use mathlib.Core.Path.{refl, ◌∙◌}
use Rattle.field_validator.proofs.Taken.{row_stored}
use Rattle.field_reader.proofs.read_row.Goals as goal

pub loop-i-preserved : goal.loop-i-preserved
loop-i-preserved c =
    let m = c.read_number.ensures in
    let same = c.loop-i.invariant.0 in
    (m.same ∙ same, c.loop-i.invariant.1 ∙ row_stored _ _ _ _ _ c.loop-i-test.true _ _ (rw same at m.reads) _ refl)
