-- `verdict::beam_verdict` meets its contract: the fields are in range.
use Rattle.field_layout.proofs.Held.{beam_in_range_of}
use Rattle.verdict.proofs.beam_verdict.Goals as goal

pub invariant_of-x : goal.invariant_of-x
invariant_of-x c = record { in_range = beam_in_range_of _ _ c.beam_of.ensures c.requires }
