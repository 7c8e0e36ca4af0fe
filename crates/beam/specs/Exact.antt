-- Demand 3 for a beam: its figures against the clauses' exact fractions, and its checks against the exact inequalities.
use Rattle.std.specs.Prelude.{◌≡◌, true, false}
use Rattle.quantity.specs.Fraction.{◌//◌, whole, ◌⊖◌, ◌≺◌}
use Rattle.outcome.specs.declared.Check.{Check}
use Rattle.outcome.specs.declared.Check.TheVariants.{
  Passed,
  LeastSteel,
  CompressionDepth,
  Bending,
  CoupleBending,
  WebCrushing,
  Shear,
  LinkSpacing,
  LeastLinks,
  ServiceStress,
  CrackWidth,
  Deflection,
}
use Rattle.outcome.specs.declared.Outcome.{Outcome}
use Rattle.outcome.specs.Safe.{Place, capacity, extent, Safe, WhereReached}
use Rattle.section.specs.declared.Section.{Section}
use Rattle.section.specs.Section.{M, Vd}
use Rattle.bending.specs.Exact.{yields, exact_moment, LeastSteelHolds, DepthHolds, BendingHolds}
use Rattle.web_crushing.specs.Exact.{WebHolds}
use Rattle.shear.specs.Exact.{exact_shear, ShearHolds, LinkSpacingHolds, LeastLinksHold}
use Rattle.cracking.specs.Exact.{exact_width, exact_width_limit, in_thousandths, StressHolds, WidthHolds}
use Rattle.deflection.specs.Exact.{exact_deflection, exact_deflection_limit, in_hundredths_of_mm, DeflectionHolds}

-- the four places of the line: moment below 1 N·m, shear below 2 N, width below 0.0011 mm, deflection below 0.012 mm
abbrev pub moment_place : Section → Place
moment_place x = capacity (whole 1) (exact_moment x)

abbrev pub shear_place : Section → Place
shear_place x = capacity (whole 2) (exact_shear x)

abbrev pub width_place : Section → Place
width_place x = extent (11 // 10) (in_thousandths (exact_width x))

abbrev pub deflection_place : Section → Place
deflection_place x = extent (12 // 10) (in_hundredths_of_mm (exact_deflection x))

-- every exact inequality of a beam
pub record BeamHolds (x : Section) : Type 0 where
  pub least_steel : LeastSteelHolds x
  pub depth : DepthHolds x
  pub bending : BendingHolds x
  pub web : WebHolds x
  pub shear : ShearHolds x
  pub spacing : LinkSpacingHolds x
  pub least_links : LeastLinksHold x
  pub stress : StressHolds x
  pub width : WidthHolds x
  pub deflection : DeflectionHolds x

-- the check that may be named: one whose exact inequality fails, or, with a figure, holds by less than the figure's distance
-- (the difference is 0 where it fails); with OK none is named
pub data MayName (x : Section) : Check → Type 0 where
  none : MayName x Passed
  least_steel : (LeastSteelHolds x → ⊥) → MayName x LeastSteel
  depth : (DepthHolds x → ⊥) → MayName x CompressionDepth
  bending : yields x ≡ true → exact_moment x ⊖ whole (M x) ≺ whole 1 → MayName x Bending
  couple_bending : yields x ≡ false → exact_moment x ⊖ whole (M x) ≺ whole 1 → MayName x CoupleBending
  web : (WebHolds x → ⊥) → MayName x WebCrushing
  shear : exact_shear x ⊖ whole (Vd x) ≺ whole 2 → MayName x Shear
  spacing : (LinkSpacingHolds x → ⊥) → MayName x LinkSpacing
  least_links : (LeastLinksHold x → ⊥) → MayName x LeastLinks
  stress : (StressHolds x → ⊥) → MayName x ServiceStress
  width : in_thousandths (exact_width_limit x) ⊖ in_thousandths (exact_width x) ≺ 11 // 10 → MayName x CrackWidth
  deflection : in_hundredths_of_mm (exact_deflection_limit x) ⊖ in_hundredths_of_mm (exact_deflection x) ≺ 12 // 10 → MayName x Deflection

-- demand 3 for the outcome of a beam; a shear figure stands only where 6.3.1v holds
pub record SafeBeam (x : Section) (o : Outcome) : Type 0 where
  pub first : Safe o.first (moment_place x)
  pub second : Safe o.second (shear_place x)
  pub web : WhereReached o.second (WebHolds x)
  pub third : Safe o.third (width_place x)
  pub fourth : Safe o.fourth (deflection_place x)
  pub passed : o.check ≡ Passed → BeamHolds x
  pub named : MayName x o.check
