-- `deflection::section_curvature` meets its contract.
use Rattle.deflection.proofs.Bounds.{section_flexibility_most}
use Rattle.deflection.proofs.section_curvature.Goals as goal

pub curvature_of-requires : goal.curvature_of-requires
curvature_of-requires c =
    let x = c.args.x in
    (x.mean_bound, rw (c.flexibility_of-z.ensures, c.in_millimetres-2.ensures, c.in_millimetres.ensures, c.in_units.ensures) (section_flexibility_most x.valid.section x.valid.bounded), x.stress_bound)
