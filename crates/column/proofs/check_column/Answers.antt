-- `column::check_column` meets its contract.
use Rattle.column.proofs.Safe.{column_given}
use Rattle.column.proofs.check_column.Goals as goal

pub invariant_of-check_with : goal.invariant_of-check_with
invariant_of-check_with c = record { given = rw (c.concrete_of.ensures, c.steel_of.ensures) (column_given _ c.args.x.accepted) }
