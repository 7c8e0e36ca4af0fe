-- The ways out of the checks of a beam: which figures stand, and what the check beside them says. The chain is walked here and
-- nowhere else: a law of the outcome goes by cases over its way out.
use Prim.Native.Nat.{◌*◌, ◌≤◌}
use mathlib.Core.Path.{◌≡◌, refl, ◌∙◌}
use mathlib.Core.Bool.{true}
use Rattle.quantity.proofs.Choice.{if_case, else_case}
use Rattle.quantity.proofs.Reflects.{settled_case}
use Rattle.quantity.proofs.Safe.{capacity_settles}
use Rattle.outcome.specs.declared.Check.{Check}
use Rattle.outcome.specs.declared.Outcome.{Outcome}
use Rattle.outcome.specs.Outcome.{no_figure, one_figure, two_figures, three_figures, four_figures}
use Rattle.outcome.proofs.Says.{Says, passed, failed}
use Rattle.member.specs.Member.{Beam}
use Rattle.member.specs.Accepted.{AcceptedBeam}
use Rattle.section.specs.declared.Section.{Section}
use Rattle.section.specs.Section.{section_of, G, S, M}
use Rattle.section.specs.Bounded.{Bounded}
use Rattle.section.proofs.Bounded.{bounded}
use Rattle.bending.specs.Steps.{compression_yields, bending_capacity}
use Rattle.bending.proofs.Tests.{least_steel_reflects, depth_reflects}
use Rattle.bending.proofs.Exact.{yields_is, moment_safe}
use Rattle.web_crushing.specs.Exact.{WebHolds}
use Rattle.shear.specs.declared.ShearResult.{ShearResult}
use Rattle.shear.specs.Steps.{shear_capacity}
use Rattle.shear.proofs.Tests.{link_spacing_reflects, least_links_reflects}
use Rattle.shear.proofs.ShearCheck.{shear_case}
use Rattle.cracking.specs.Steps.{stress_holds, crack_width}
use Rattle.cracking.proofs.Safe.{stress_reflects, width_settles}
use Rattle.deflection.specs.Steps as steps
use Rattle.deflection.proofs.Safe.{deflection_settles}
use Rattle.serviceability.specs.Checks.{from_deflection, from_width, from_stress}
use Rattle.beam.specs.Checks.{from_least_links, from_spacing, after_shear, from_shear, from_bending, from_depth, section_outcome, beam_outcome}
use Rattle.beam.specs.Exact.{BeamHolds, MayName, least_steel, depth, bending, couple_bending, web, shear, spacing, least_links, stress, width, deflection}

abbrev pub BeamSays : Section → Check → Type 0
BeamSays x = Says (BeamHolds x) (MayName x)

-- the figures: none, the moment, then the shear, then the width, then the deflection; with what holds beside them: from the shear on
-- 6.3.1v, with the last two also the test of the stress and the least steel
pub data WayOut (x : Section) : Outcome → Type 0 where
  no_figure_lem : {k : Check} → BeamSays x k → WayOut x (no_figure k)
  to_moment : {k : Check} → BeamSays x k → WayOut x (one_figure k (bending_capacity x))
  to_shear : {k : Check} → WebHolds x → BeamSays x k → WayOut x (two_figures k (bending_capacity x) (shear_capacity x))
  to_width : {k : Check} → WebHolds x → stress_holds x ≡ true → G x ≤ 50 * S x → BeamSays x k →
      WayOut x (three_figures k (bending_capacity x) (shear_capacity x) (crack_width x))
  to_deflection : {k : Check} → WebHolds x → stress_holds x ≡ true → G x ≤ 50 * S x → BeamSays x k →
      WayOut x (four_figures k (bending_capacity x) (shear_capacity x) (crack_width x) (steps.deflection x))

-- a check to a line: what its test settles, the way out where it fails, a name for what holds
section_way : (x : Section) → Bounded x → WayOut x (section_outcome x)
unfolding section_outcome from_depth from_bending from_shear from_spacing from_least_links from_stress from_width from_deflection
section_way x a =
    settled_case (WayOut x) (least_steel_reflects x) (λ n. no_figure_lem (failed refl (least_steel n))) λ p-steel.
    settled_case (WayOut x) (depth_reflects a) (λ n. no_figure_lem (failed refl (depth n))) λ p-depth.
    settled_case (WayOut x) (capacity_settles (M x) (moment_safe a)) (λ n. to_moment (if_case (BeamSays x) (compression_yields x) _ _
    (λ d. failed refl (bending (yields_is a ∙ d) n))
    (λ d. failed refl (couple_bending (yields_is a ∙ d) n)))) λ p-bending.
    shear_case (λ (r : ShearResult). WayOut x (after_shear x (bending_capacity x) r)) a (λ n. to_moment (failed refl (web n)))
    (λ p-web n. to_shear p-web (failed refl (shear n))) λ p-web p-shear.
    settled_case (WayOut x) (link_spacing_reflects x) (λ n. to_shear p-web (failed refl (spacing n))) λ p-spacing.
    settled_case (WayOut x) (least_links_reflects x) (λ n. to_shear p-web (failed refl (least_links n))) λ p-links.
    else_case (WayOut x) (stress_holds x) (λ n. to_shear p-web (failed refl (stress ((stress_reflects x).fails n)))) λ t-stress.
    settled_case (WayOut x) (width_settles x a t-stress p-steel.0) (λ n. to_width p-web t-stress p-steel.0 (failed refl (width n))) λ p-width.
    to_deflection p-web t-stress p-steel.0 (settled_case (BeamSays x) (deflection_settles x a t-stress) (λ n. failed refl (deflection n)) λ p-deflection.
    passed (record {
      least_steel = p-steel;
      depth = p-depth;
      bending = p-bending;
      web = p-web;
      shear = p-shear;
      spacing = p-spacing;
      least_links = p-links;
      stress = (stress_reflects x).holds t-stress;
      width = p-width;
      deflection = p-deflection;
    }))

pub way_out : (x : Beam) → AcceptedBeam x → WayOut (section_of x) (beam_outcome x)
unfolding beam_outcome
way_out x a = section_way (section_of x) (bounded x a)
