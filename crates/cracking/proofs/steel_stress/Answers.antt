-- `cracking::steel_stress` meets its contract.
use Rattle.cracking.specs.Steps.{σ}
use Rattle.cracking.proofs.steel_stress.Goals as goal

pub returns : goal.returns
unfolding σ
returns c = rw (c.steel_stress_of.ensures, c.in_millimetres.ensures)
