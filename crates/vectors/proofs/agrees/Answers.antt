-- `vectors::agrees` meets its contract.
use borrow.Author.Tests.{eq-eqb, ne_eqb}
use Rattle.vectors.specs.Vectors.{answer_to}
use Rattle.vectors.proofs.agrees.Goals as goal

pub returns-then-form-eq0 : goal.returns-then-form-eq0
unfolding answer_to
returns-then-form-eq0 c = rw (eq-eqb _ _ c.if-form-eq0.true) c.prints.ensures

pub returns-else-form-eq0 : goal.returns-else-form-eq0
unfolding answer_to
returns-else-form-eq0 c = rw (ne_eqb _ _ c.if-form-eq0.false) c.writes.ensures
