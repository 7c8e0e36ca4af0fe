-- `cracking::crack_width` meets its contract.
use native.Mathlib.Omega.{arith}
use Rattle.section.specs.Section.{W, S, E, D}
use Rattle.section.specs.Section as section
use Rattle.cracking.proofs.Bounds.{spacing_most_lem}
use Rattle.cracking.proofs.crack_width.Goals as goal

pub width_of-requires : goal.width_of-requires
width_of-requires c =
    let x = c.args.x.section in
    let a = c.args.x.bounded in
    (c.requires.2, rw (c.crack_spacing_of-spacing.ensures, c.twice_tension_area.ensures, c.in_millimetres-cover.ensures) (spacing_most_lem (section.c x) (E x) (W x) (D x) (S x) a.D_least a.S_least (omega (arith, c.requires.0)) a.E_most))
