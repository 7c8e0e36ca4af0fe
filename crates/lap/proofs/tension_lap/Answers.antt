-- `lap::tension_lap` meets its contract.
use Prim.Native.Nat.{◌≤◌}
use native.Mathlib.Omega.{arith}
use borrow.Author.Tests.{le-leb, lt-leb}
use Rattle.member.specs.Member.{mesh_of}
use Rattle.anchorage.proofs.Bounds.{basic_most}
use Rattle.lap.specs.Steps.{tension_lap}
use Rattle.lap.proofs.Bounds.{row_most, parts}
use Rattle.lap.proofs.tension_lap.Goals as goal
use Rattle.lap.proofs.tension_lap.Goals.{After-in_millimetres-d}

sizes : (c : After-in_millimetres-d) → (c.least_lap-least.result ≤ 300) × (c.basic_length-basic.result ≤ basic_most)
sizes c =
    let x = c.args.x in
    let p = parts (mesh_of x.mesh) x.accepted in
    (rw c.least_lap-least.ensures p.least, rw (c.basic_length-basic.ensures, c.lap_row.ensures) p.basic)

pub basic_length-basic-requires : goal.basic_length-basic-requires
basic_length-basic-requires c = rw c.lap_row.ensures (row_most c.args.x.mesh.lapping)

pub overflow_mul-basic : goal.overflow_mul-basic
overflow_mul-basic c = omega (arith, sizes (goal.at.overflow_mul-basic c).After-in_millimetres-d)

pub overflow_add-result : goal.overflow_add-result
overflow_add-result c = omega (arith, sizes (goal.at.overflow_add-result c).After-in_millimetres-d, c.args.x.accepted.d.most)

pub returns-then-d-ge12 : goal.returns-then-d-ge12
unfolding tension_lap
returns-then-d-ge12 c =
    let e = rw c.in_millimetres-d.ensures at c.if-d-ge12.true in
    rw (le-leb _ _ e, c.max-lap.ensures, c.basic_length-basic.ensures, c.lap_row.ensures, c.least_lap-least.ensures, c.in_millimetres-d.ensures) (omega arith)

pub returns-else-d-ge12 : goal.returns-else-d-ge12
unfolding tension_lap
returns-else-d-ge12 c =
    let e = rw c.in_millimetres-d.ensures at c.if-d-ge12.false in
    rw (lt-leb _ _ e, c.max-lap.ensures, c.basic_length-basic.ensures, c.lap_row.ensures, c.least_lap-least.ensures) (omega arith)
