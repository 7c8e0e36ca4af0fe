-- Each test of the links reflects its exact inequality.
use Rattle.quantity.proofs.Reflects.{Reflects, reflects_le, reflects_lt, reflects_where}
use Rattle.section.specs.declared.Section.{Section}
use Rattle.shear.specs.Steps.{shear_above, link_spacing, least_links}
use Rattle.shear.specs.Exact.{LinkSpacingHolds, LeastLinksHold}

pub link_spacing_reflects : (x : Section) → Reflects (link_spacing x) (LinkSpacingHolds x)
unfolding link_spacing shear_above
link_spacing_reflects x = reflects_le _ _

pub least_links_reflects : (x : Section) → Reflects (least_links x) (LeastLinksHold x)
unfolding least_links shear_above
least_links_reflects x = reflects_where (reflects_lt _ _) (reflects_le _ _)
