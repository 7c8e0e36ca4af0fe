-- `varint::long_number` meets its contract: the answer from the third septet is the answer from here, the weight is that of the septets passed,
-- and the value so far is below it.
use mathlib.Core.Path.{◌≡◌, refl, sym, ◌∙◌}
use Prim.Native.Nat.{◌+◌, ◌-◌, ◌*◌, ◌^◌, ◌≤◌, ◌<◌}
use native.Mathlib.Omega.{arith}
use Rattle.std.proofs.Common.{slice_index_or}
use Rattle.varint.proofs.Septets.{file_ends, last_septet_at, septet_follows, none_left, weight, weight_next, below}
use Rattle.varint.proofs.long_number.Goals as goal
use Rattle.varint.proofs.long_number.Goals.{Else-src-p, Else-b-lt128}

-- the weight in a turn
top : (c : Else-src-p) → c.loop-p.w ≤ 128 ^ 4
top c =
    let l = c.loop-p in
    rw l.invariant.1 (weight (5 - (c.args.at + 3 - l.p)) (omega arith))

-- the value after a turn is below the next weight
sum : (c : Else-b-lt128) →
    let l = c.loop-p in
    l.v + (slice_index_or c.args.src.now l.p 0 - 128) * l.w < l.w * 128
sum c =
    let l = c.loop-p in
    below (slice_index_or c.args.src.now l.p 0 - 128) l.w l.v (omega (arith, c.type_inv.src l.p)) l.invariant.2

pub returns-then-src-p : goal.returns-then-src-p
returns-then-src-p c = sym (c.loop-p.invariant.4 ∙ file_ends _ _ _ _ _ (omega arith) c.if-src-p.true)

pub last_septet-requires : goal.last_septet-requires
last_septet-requires c =
    let l = c.loop-p in
    (l.invariant.3, omega (arith, below _ l.w l.v c.if-b-lt128.true l.invariant.2, top (goal.at.last_septet-requires c).Else-src-p))

pub returns-then-b-lt128 : goal.returns-then-b-lt128
returns-then-b-lt128 c =
    c.last_septet.ensures ∙ sym (c.loop-p.invariant.4 ∙ last_septet_at _ _ _ _ _ (omega arith) _ refl c.if-src-p.false c.if-b-lt128.true)

pub overflow_mul-v : goal.overflow_mul-v
overflow_mul-v c = omega (arith, sum c, top (goal.at.overflow_mul-v c).Else-src-p)

pub overflow_add-v : goal.overflow_add-v
overflow_add-v c = omega (arith, sum c, top (goal.at.overflow_add-v c).Else-src-p)

pub overflow_mul-w : goal.overflow_mul-w
overflow_mul-w c = omega (arith, top (goal.at.overflow_mul-w c).Else-src-p)

pub loop-p-preserved : goal.loop-p-preserved
loop-p-preserved c =
    let l = c.loop-p in
    let left = c.args.at + 3 - l.p in
    let t : 0 < left = omega arith in
    let next : c.args.at + 3 - (l.p + 1) ≡ left - 1 = omega arith in (
      omega arith,
      rw (l.invariant.1, next) (weight_next left t (omega arith)),
      sum c,
      omega (arith, l.invariant.3),
      rw next (l.invariant.4 ∙ septet_follows _ _ _ _ _ t _ refl c.if-src-p.false c.if-b-lt128.false),
    )

pub returns : goal.returns
returns c = sym (c.loop-p.invariant.4 ∙ none_left _ _ _ _ _ (omega arith))
