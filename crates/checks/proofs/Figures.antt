-- The figures of an accepted member have at most nine digits.
use Prim.Native.Nat.{◌*◌, ◌^◌, ◌<◌, ◌≤◌}
use mathlib.Core.Path.{◌≡◌}
use mathlib.Core.Bool.{true}
use native.Mathlib.Omega.{arith}
use Rattle.material.specs.declared.Concrete.{Concrete}
use Rattle.material.specs.declared.Steel.{Steel}
use Rattle.material.specs.Concrete.{concrete_of}
use Rattle.material.specs.Steel.{steel_of}
use Rattle.outcome.specs.declared.Outcome.{Outcome}
use Rattle.line.proofs.Length.{Below}
use Rattle.member.specs.Member.{Member, beam, column, mesh, Beam, Column, Mesh}
use Rattle.member.specs.Accepted.{AcceptedMember, AcceptedBeam, AcceptedColumn, AcceptedMesh}
use Rattle.section.specs.declared.Section.{Section}
use Rattle.section.specs.Section.{G, S}
use Rattle.section.specs.Bounded.{Bounded}
use Rattle.section.proofs.Bounded.{bounded}
use Rattle.bending.specs.Steps.{bending_capacity}
use Rattle.bending.proofs.Capacity as bending
use Rattle.shear.specs.Steps.{shear_capacity}
use Rattle.shear.proofs.Bounds as shear
use Rattle.cracking.specs.Steps.{stress_holds, crack_width}
use Rattle.cracking.proofs.Safe.{σ_most, q_most, width_most_lem}
use Rattle.deflection.specs.Steps.{deflection}
use Rattle.deflection.proofs.Bounds.{deflection_most_lem}
use Rattle.beam.specs.Checks.{beam_outcome}
use Rattle.beam.proofs.Ways as beams
use Rattle.axial.specs.Given.{Given}
use Rattle.axial.specs.Steps.{axial_capacity}
use Rattle.axial.proofs.Bounds.{axial_most}
use Rattle.column.specs.Checks.{column_outcome}
use Rattle.column.proofs.Ways as columns
use Rattle.column.proofs.Safe.{column_given}
use Rattle.anchorage.specs.Steps.{anchorage_length}
use Rattle.anchorage.proofs.Bounds.{anchorage_most}
use Rattle.lap.specs.Steps.{lap_length}
use Rattle.lap.proofs.Bounds.{lap_most}
use Rattle.mesh.proofs.Ways as meshes
use Rattle.checks.specs.MemberOutcome.{outcome_of}

pub record Short (o : Outcome) : Type 0 where
  pub first : Below (10 ^ 9) o.first
  pub second : Below (10 ^ 9) o.second
  pub third : Below (10 ^ 9) o.third
  pub fourth : Below (10 ^ 9) o.fourth

-- ---- Beams.

module _ {x : Section} (a : Bounded x) where
  moment_short : bending_capacity x < 10 ^ 9
  moment_short = omega (arith, bending.capacity_most a)

  shear_short : shear_capacity x < 10 ^ 9
  shear_short = omega (arith, shear.capacity_most a)

  width_short : stress_holds x ≡ true → G x ≤ 50 * S x → crack_width x < 10 ^ 9
  width_short e g = omega (arith, width_most_lem x a e g)

  deflection_short : stress_holds x ≡ true → deflection x < 10 ^ 9
  deflection_short e = omega (arith, deflection_most_lem x a (σ_most x a e) (q_most x a e))

  section_short : {o : Outcome} → beams.WayOut x o → Short o
  section_short (beams.no_figure_lem _) = record { first = tt; second = tt; third = tt; fourth = tt }
  section_short (beams.to_moment _) = record { first = moment_short; second = tt; third = tt; fourth = tt }
  section_short (beams.to_shear _ _) = record { first = moment_short; second = shear_short; third = tt; fourth = tt }
  section_short (beams.to_width _ e g _) = record { first = moment_short; second = shear_short; third = width_short e g; fourth = tt }
  section_short (beams.to_deflection _ e g _) = record { first = moment_short; second = shear_short; third = width_short e g; fourth = deflection_short e }

pub beam_short : (x : Beam) → AcceptedBeam x → Short (beam_outcome x)
unfolding beam_outcome
beam_short x a = section_short (bounded x a) (beams.way_out x a)

-- ---- Columns.

module _ {x : Column} {concrete : Concrete} {steel : Steel} (given : Given x concrete steel) where
  axial_short : axial_capacity x concrete steel < 10 ^ 9
  axial_short = omega (arith, axial_most x concrete steel given)

  short_with : {o : Outcome} → columns.WayOut x concrete steel o → Short o
  short_with (columns.no_figure_lem _) = record { first = tt; second = tt; third = tt; fourth = tt }
  short_with (columns.to_axial _) = record { first = axial_short; second = tt; third = tt; fourth = tt }

pub column_short : (x : Column) → AcceptedColumn x → Short (column_outcome x (concrete_of x.concrete) (steel_of x.steel))
column_short x a = short_with (column_given x a) (columns.way_out _ _ _ (column_given x a))

-- ---- Meshes.

module _ {x : Mesh} (a : AcceptedMesh x) where
  anchorage_short : anchorage_length x < 10 ^ 9
  anchorage_short = omega (arith, anchorage_most x a)

  lap_short : lap_length x < 10 ^ 9
  lap_short = omega (arith, lap_most x a)

  lengths_short : {o : Outcome} → meshes.WayOut x o → Short o
  lengths_short (meshes.to_anchorage _) = record { first = anchorage_short; second = tt; third = tt; fourth = tt }
  lengths_short (meshes.to_lap _) = record { first = anchorage_short; second = lap_short; third = tt; fourth = tt }

pub member_short : (m : Member) → AcceptedMember m → Short (outcome_of m)
member_short (beam mark x) a = beam_short x a.1
member_short (column mark x) a = column_short x a.1
member_short (mesh mark x) a = lengths_short a.1 (meshes.way_out x)
