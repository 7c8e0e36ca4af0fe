-- `deflection::deflection_figure` meets its contract.
use native.Mathlib.Omega.{arith}
use Prim.Native.Nat.{◌≤◌}
use Rattle.quantity.proofs.Product.{product_most}
use Rattle.section.specs.Section.{h₀, l₀, S, S'}
use Rattle.deflection.specs.Bounds.{curvature_most, short_term_most, long_term_most}
use Rattle.deflection.specs.Steps.{deflection, deflection_of}
use Rattle.deflection.proofs.Bounds.{section_curvature_most, short_most, long_most}
use Rattle.deflection.proofs.deflection_figure.Goals as goal
use Rattle.deflection.proofs.deflection_figure.Goals.{After-section_curvature-r}

curvature_sized : (c : After-section_curvature-r) → c.section_curvature-r.result ≤ curvature_most
curvature_sized c =
    let x = c.args.x in
    rw c.section_curvature-r.ensures (section_curvature_most x.valid.section x.valid.bounded x.mean x.stress x.mean_bound x.stress_bound)

pub short_term_of-u-requires : goal.short_term_of-u-requires
short_term_of-u-requires c =
    let a = c.args.x.valid.bounded in
    rw (c.in_millimetres.ensures, c.in_millimetres-2.ensures) (a.l₀_most, a.slender, a.h₀_least, a.h₀_most, curvature_sized (goal.at.short_term_of-u-requires c).After-section_curvature-r)

pub overflow_mul-u : goal.overflow_mul-u
overflow_mul-u c =
    let x = c.args.x.valid.section in
    let a = c.args.x.valid.bounded in
    omega (
      arith,
      product_most c.short_term_of-u.result c.long_term_of-theta.result short_term_most long_term_most (
        rw (c.short_term_of-u.ensures, c.in_millimetres.ensures, c.in_millimetres-2.ensures)
            (short_most (l₀ x) (h₀ x) c.section_curvature-r.result a.h₀_least a.slender a.l₀_most (curvature_sized (goal.at.overflow_mul-u c).After-section_curvature-r)),
        rw c.long_term_of-theta.ensures (long_most (S x) (S' x) x.flanged a.S_least),
      ),
    )

pub returns : goal.returns
unfolding deflection deflection_of
returns c =
    rw (c.div_up.ensures, c.long_term_of-theta.ensures, c.short_term_of-u.ensures, c.in_millimetres-2.ensures, c.in_millimetres.ensures, c.section_curvature-r.ensures, c.args.x.stress_is, c.args.x.mean_is)
