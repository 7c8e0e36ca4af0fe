-- The ways out of the checks of a column: whether the figure stands, and what the check beside it says. The chain is walked here and
-- nowhere else: a law of the outcome goes by cases over its way out.
use mathlib.Core.Path.{refl}
use Rattle.quantity.proofs.Reflects.{Reflects, settles_as, settled_case, reflects_le, reflects_both}
use Rattle.quantity.proofs.Safe.{capacity_settles}
use Rattle.material.specs.declared.Concrete.{Concrete}
use Rattle.material.specs.declared.Steel.{Steel}
use Rattle.member.specs.Member.{Column}
use Rattle.outcome.specs.declared.Check.{Check}
use Rattle.outcome.specs.declared.Outcome.{Outcome}
use Rattle.outcome.specs.Outcome.{no_figure, one_figure}
use Rattle.outcome.proofs.Says.{Says, passed, failed}
use Rattle.axial.specs.Given.{Given}
use Rattle.axial.specs.Steps.{axial_capacity}
use Rattle.axial.proofs.Tests.{steel_reflects, slenderness_reflects}
use Rattle.axial.proofs.Exact.{axial_safe}
use Rattle.column.specs.Checks.{links_fit, axial_outcome, slenderness_outcome, links_outcome, column_outcome}
use Rattle.column.specs.Exact.{LinksHold, ColumnHolds, MayName, most_steel, links, slenderness, axial}

links_reflects : (x : Column) → Reflects (links_fit x) (LinksHold x)
unfolding links_fit
links_reflects x =
    settles_as
    (λ h. record { diameter = h.0; spacing = h.1.0; spacing_side = h.1.1.0; spacing_bars = h.1.1.1 })
    (λ n h. n (h.diameter, (h.spacing, (h.spacing_side, h.spacing_bars))))
    (reflects_both (reflects_le _ _) (reflects_both (reflects_le _ _) (reflects_both (reflects_le _ _) (reflects_le _ _))))

-- for any usable concrete and steel
module _ (x : Column) (concrete : Concrete) (steel : Steel) where
  abbrev pub ColumnSays : Check → Type 0
  ColumnSays = Says (ColumnHolds x concrete steel) (MayName x concrete steel)

  -- the figures: none, or the axial capacity
  pub data WayOut : Outcome → Type 0 where
    no_figure_lem : {k : Check} → ColumnSays k → WayOut (no_figure k)
    to_axial : {k : Check} → ColumnSays k → WayOut (one_figure k (axial_capacity x concrete steel))

  -- a check to a line: what its test settles, the way out where it fails, a name for what holds
  pub way_out : Given x concrete steel → WayOut (column_outcome x concrete steel)
  unfolding column_outcome links_outcome slenderness_outcome axial_outcome
  way_out given =
      settled_case WayOut (steel_reflects x) (λ n. no_figure_lem (failed refl (most_steel n))) λ p-steel.
      settled_case WayOut (links_reflects x) (λ n. no_figure_lem (failed refl (links n))) λ p-links.
      settled_case WayOut (slenderness_reflects x) (λ n. no_figure_lem (failed refl (slenderness n))) λ p-slenderness.
      settled_case WayOut (capacity_settles x.N (axial_safe x concrete steel given)) (λ n. to_axial (failed refl (axial n))) λ p-axial.
      to_axial (passed (record { most_steel = p-steel; links = p-links; slenderness = p-slenderness; axial = p-axial }))
