-- `vectors::writes` meets its contract.
use mathlib.Core.Path.{sym, ◌∙◌}
use lib.Seq.{length-take-le}
use Rattle.vectors.proofs.writes.Goals as goal

pub slice_bounds-write_words-end : goal.slice_bounds-write_words-end
slice_bounds-write_words-end c = sym (length-take-le _ _ c.read_words-m.ensures.0)

pub slice_bounds-same-end : goal.slice_bounds-same-end
slice_bounds-same-end c = sym (length-take-le _ _ c.write_words-n.ensures.0)

pub returns : goal.returns
returns c =
    c.same.ensures ∙ rw (c.write_words-n.ensures.1, c.read_words-m.ensures.1)
