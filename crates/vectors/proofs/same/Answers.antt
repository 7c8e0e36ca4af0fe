-- `vectors::same` meets its contract.
use Rattle.vectors.proofs.Bytes.{compared}
use Rattle.vectors.proofs.same.Goals as goal

pub returns : goal.returns
returns c = rw c.eq.ensures (compared c.args.a.now c.args.b.now)
