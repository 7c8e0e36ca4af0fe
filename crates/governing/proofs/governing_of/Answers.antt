-- `governing::governing_of` meets its contract.
use Rattle.governing.proofs.Largest.{governs}
use Rattle.governing.proofs.governing_of.Goals as goal

pub returns : goal.returns
returns c =
    governs c.args.u (rw (c.include.ensures, c.include-c.ensures, c.include-b.ensures, c.include-a.ensures))
