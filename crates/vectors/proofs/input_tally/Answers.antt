-- `vectors::input_tally` meets its contract.
use mathlib.Core.Path.{◌≡◌, sym, ◌∙◌}
use native.Mathlib.Omega.{arith}
use lib.Dec.{ltb}
use lib.ListN.{length, take}
use lib.Seq.{length-take-le}
use Rattle.vectors.proofs.Walk.{counted, one_most, tally_is}
use Rattle.vectors.proofs.input_tally.Goals as goal
use Rattle.vectors.proofs.input_tally.Goals.{Start}

-- the input has n bytes
long : (c : Start) → length (take c.args.n c.args.all.now) ≡ c.args.n
long c = length-take-le c.args.n c.args.all.now c.requires.0

pub slice_bounds-row_tally-end : goal.slice_bounds-row_tally-end
slice_bounds-row_tally-end c = sym (long (goal.at.slice_bounds-row_tally-end c).Start)

pub row_tally-t-requires : goal.row_tally-t-requires
row_tally-t-requires c = omega (arith, long (goal.at.row_tally-t-requires c).Start)

pub overflow_add-result : goal.overflow_add-result
overflow_add-result c =
    let x = c.args in
    omega (arith, c.row_tally-t.ensures.1, c.from.ensures, counted (ltb 320000 x.n), one_most (ltb 320000 x.n))

pub returns : goal.returns
returns c =
    let t = c.row_tally-t.ensures in
    tally_is _ _ _ _ t.0 (sym (long (goal.at.returns c).Start)) (c.from.ensures ∙ counted (ltb 320000 c.args.n))
