-- `stability::interpolate` meets its contract.
use native.Mathlib.Omega.{arith}
use Rattle.stability.proofs.Interval.{Inside, inside, Falling, falling}
use Rattle.stability.proofs.interpolate.Goals as goal
use Rattle.stability.proofs.interpolate.Goals.{After-point_at-q, Start}

on : (c : Start) → Inside c.args.span c.args.b c.args.i
on c = let p = c.requires in inside c.args.span c.args.b c.args.i p.4 p.0 p.2 p.3

here : (c : After-point_at-q) →
    let a = c.args in
    Falling c.point_at-p.result c.point_at-q.result a.span a.b a.i
here c =
    let a = c.args in
    let p = c.requires in
    falling _ _ a.span a.b a.i c.point_at-p.ensures c.point_at-q.ensures (inside a.span a.b a.i p.4 p.0 p.2 p.3)

pub overflow_add-i : goal.overflow_add-i
overflow_add-i c = omega (arith, (on (goal.at.overflow_add-i c).Start).last)

pub overflow_sub-result : goal.overflow_sub-result
overflow_sub-result c = (here (goal.at.overflow_sub-result c).After-point_at-q).falls

pub overflow_sub-result-2 : goal.overflow_sub-result-2
overflow_sub-result-2 c = (on (goal.at.overflow_sub-result-2 c).Start).low

pub overflow_sub-result-3 : goal.overflow_sub-result-3
overflow_sub-result-3 c = (here (goal.at.overflow_sub-result-3 c).After-point_at-q).off
