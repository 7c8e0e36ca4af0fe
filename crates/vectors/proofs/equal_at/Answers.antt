-- `vectors::equal_at` meets its contract.
use Prim.Native.Nat.{◌+◌}
use mathlib.Core.Path.{refl, sym, ◌∙◌}
use native.Mathlib.Omega.{arith}
use Rattle.vectors.proofs.Walk.{part_lent, cut, whole}
use Rattle.vectors.proofs.equal_at.Goals as goal

pub returns-then-src-d : goal.returns-then-src-d
returns-then-src-d c =
    let x = c.args in
    sym (cut x.src.now x.p _ _ c.part_end-b.ensures.0 c.part_end-d.ensures.0 c.if-src-d.true)

pub returns : goal.returns
returns c =
    let x = c.args in
    let e = c.part_end-b.ensures.0 in
    let f = c.part_end-d.ensures.0 in
    c.agrees.ensures
    ∙ sym (whole x.src.now x.p _ _ e f c.if-src-d.false _ _ _ c.byte_at.ensures.0
    (part_lent x.src.now (x.p + 1) _ _ (omega arith) e)
    (part_lent x.src.now c.part_end-b.result _ _ refl f))
