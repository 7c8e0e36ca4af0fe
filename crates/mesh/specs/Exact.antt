-- Demand 3 for a mesh: its lengths against the clauses' exact fractions of a millimetre, the exact inequalities, and what an outcome may say.
use Rattle.std.specs.Prelude.{◌≡◌}
use Rattle.quantity.specs.Fraction.{whole, ◌⊖◌, ◌≼◌, ◌≺◌}
use Rattle.member.specs.Member.{Mesh}
use Rattle.outcome.specs.Safe.{empty, extent, Safe}
use Rattle.outcome.specs.declared.Outcome.{Outcome}
use Rattle.outcome.specs.declared.Check.{Check}
use Rattle.outcome.specs.declared.Check.TheVariants.{Passed, Anchorage, Lap}
use Rattle.anchorage.specs.Exact.{exact_anchorage}
use Rattle.lap.specs.Exact.{exact_lap}

-- every exact inequality of the mesh
pub record MeshHolds (x : Mesh) : Type 0 where
  -- 5.2.5
  pub anchorage : exact_anchorage x ≼ whole x.anchorage
  -- 5.3.7
  pub lap : exact_lap x ≼ whole x.lap

-- the check that may be named: one whose exact inequality fails, or holds by less than 1 mm; with OK none is named
pub data MayName (x : Mesh) : Check → Type 0 where
  none : MayName x Passed
  anchorage : whole x.anchorage ⊖ exact_anchorage x ≺ whole 1 → MayName x Anchorage
  lap : whole x.lap ⊖ exact_lap x ≺ whole 1 → MayName x Lap

-- demand 3 for the outcome of a mesh
pub record SafeMesh (x : Mesh) (o : Outcome) : Type 0 where
  pub first : Safe o.first (extent (whole 1) (exact_anchorage x))
  pub second : Safe o.second (extent (whole 1) (exact_lap x))
  pub third : Safe o.third empty
  pub fourth : Safe o.fourth empty
  pub passed : o.check ≡ Passed → MeshHolds x
  pub named : MayName x o.check
