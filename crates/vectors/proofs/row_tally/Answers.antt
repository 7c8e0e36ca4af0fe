-- `vectors::row_tally` meets its contract: the vectors of the whole row are those counted and those from p on.
use mathlib.Core.Path.{ap, ap₂, ◌∙◌}
use native.Mathlib.Omega.{arith}
use lib.ListN.{length}
use borrow.Author.Rules.{rules}
use Rattle.vectors.specs.Vectors.{part_end, equal_at, one_if, equal_of, tally}
use Rattle.vectors.proofs.Walk.{all_left, counted, one_most, one_vector, one_equal, none_left}
use Rattle.vectors.proofs.row_tally.Goals as goal

pub loop-p-init : goal.loop-p-init
loop-p-init c =
    let s = c.args.src.now in
    let e = all_left s in
    (search rules, search rules, search rules, omega (arith, ap length e), omega (arith, ap (equal_of s) e))

pub overflow_add-equal : goal.overflow_add-equal
overflow_add-equal c = omega (arith, c.from-equal.ensures, counted c.equal_at.result, one_most c.equal_at.result)

pub loop-p-preserved : goal.loop-p-preserved
loop-p-preserved c =
    let l = c.loop-p in
    let s = c.args.src.now in
    let b = c.equal_at in
    let n = c.from-equal.ensures ∙ (counted b.result ∙ ap one_if b.ensures) in
    let f = c.part_end-p.ensures.0 ∙ ap (part_end s) c.part_end.ensures.0 in
    let v = one_vector s l.vectors l.p l.invariant.0 c.loop-p-test.true _ f in
    let e = one_equal s l.vectors l.p l.invariant.0 c.loop-p-test.true _ f in
    (omega arith, omega arith, omega (arith, n, one_most (equal_at s l.p)), omega (arith, l.invariant.3, v), omega (arith, l.invariant.4, n, e))

pub returns : goal.returns
returns c =
    let l = c.loop-p in
    let z = none_left c.args.src.now l.vectors l.p c.loop-p-test.false in
    (ap₂ tally (omega (arith, l.invariant.3)) (omega (arith, l.invariant.4)), omega arith)
