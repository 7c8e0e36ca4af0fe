-- `material::steel_row` meets its contract.
use Rattle.material.proofs.steel_row.Goals as goal

pub returns : goal.returns
returns c =
    rw (c.of_units-4.ensures, c.of_units-3.ensures, c.of_units-2.ensures, c.of_units.ensures)
