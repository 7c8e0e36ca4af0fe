-- `field_reader::read_long` meets its contract: the number from the third septet is the number from here, the weight is that of the septets
-- passed, and the value so far is below it.
use mathlib.Core.Path.{◌≡◌, refl, ◌∙◌}
use Prim.Native.Nat.{suc, ◌+◌, ◌-◌, ◌*◌, ◌^◌, ◌≤◌, ◌<◌}
use native.Mathlib.Omega.{arith}
use Rattle.std.specs.Prelude.{Ok}
use Rattle.varint.specs.Varint.{Number, septets_at}
use Rattle.varint.specs.Placed.{of_number}
use Rattle.varint.proofs.Septets.{below}
use Rattle.question.specs.Reading.{Got}
use Rattle.field_reader.proofs.Numbers.{there, ends, another, turn, weight_at, weight_after}
use Rattle.field_reader.proofs.read_long.Goals as goal
use Rattle.field_reader.proofs.read_long.Goals.{After-loop-b, At-loop-b}

-- the number is read from here on
read_on : (c : At-loop-b) → Got (of_number (septets_at (suc (c.args.at + 2 - c.loop-b.p)) c.args.src.now c.loop-b.p c.loop-b.w c.loop-b.v))
read_on c = rw c.loop-b.invariant.6 at c.requires.1

-- the weight in a turn
top : (c : At-loop-b) → c.loop-b.w ≤ 128 ^ 4
top c = rw c.loop-b.invariant.2 (weight_at _ _ c.loop-b.invariant.0)

-- a septet that is the last ends the number
ended : (c : After-loop-b) →
    let l = c.loop-b in
    (l.v + l.b * l.w < 2 ^ 32)
    × (◌≡◌ {A = Number} (septets_at (suc (c.args.at + 2 - l.p)) c.args.src.now l.p l.w l.v) (Ok (l.v + l.b * l.w, l.p + 1)))
ended c =
    let l = c.loop-b in
    let on : Got (of_number (septets_at (suc (c.args.at + 2 - l.p)) c.args.src.now l.p l.w l.v)) = rw l.invariant.6 at c.requires.1 in
    ends _ _ _ _ _ on l.b l.invariant.5 c.loop-b-test.false

pub bounds-src-p : goal.bounds-src-p
bounds-src-p c = there _ 2 _ _ _ c.requires.1

pub overflow_mul-w : goal.overflow_mul-w
overflow_mul-w c = omega (arith, top (goal.at.overflow_mul-w c).At-loop-b)

pub bounds-src-p-in-loop-b : goal.bounds-src-p-in-loop-b
bounds-src-p-in-loop-b c =
    let l = c.loop-b in
    let on = read_on (goal.at.bounds-src-p-in-loop-b c).At-loop-b in
    there _ _ _ _ _ (rw (turn _ _ _ _ _ _ l.invariant.5 c.loop-b-test.true on) at on)

pub loop-b-preserved : goal.loop-b-preserved
loop-b-preserved c =
    let l = c.loop-b in
    let on = read_on (goal.at.loop-b-preserved c).At-loop-b in (
      another _ _ _ _ _ _ l.invariant.5 c.loop-b-test.true on,
      omega (arith, l.invariant.1),
      rw l.invariant.2 (weight_after _ _ l.invariant.1),
      below (l.b - 128) l.w l.v (omega (arith, l.invariant.4)) l.invariant.3,
      omega (arith, c.type_inv.src (l.p + 1)),
      refl,
      l.invariant.6 ∙ turn _ _ _ _ _ _ l.invariant.5 c.loop-b-test.true on,
    )

pub overflow_cast-result : goal.overflow_cast-result
overflow_cast-result c = omega (arith, (ended (goal.at.overflow_cast-result c).After-loop-b).0)

pub overflow_add-result-2 : goal.overflow_add-result-2
overflow_add-result-2 c = omega (arith, there _ _ _ _ _ (read_on (goal.at.overflow_add-result-2 c).At-loop-b), c.well_formed.0.0)

pub returns : goal.returns
returns c = c.loop-b.invariant.6 ∙ (ended (goal.at.returns c).After-loop-b).1
