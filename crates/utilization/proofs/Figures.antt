-- Which figure of an outcome stands at each place, and that a cast of it loses nothing.
use Rattle.std.specs.Prelude.{None, Some}
use Prim.Native.Nat.{◌^◌}
use mathlib.Core.Path.{refl}
use native.Mathlib.Omega.{arith}
use Rattle.material.specs.declared.Concrete.{Concrete}
use Rattle.material.specs.declared.Steel.{Steel}
use Rattle.outcome.specs.Outcome.{Figure}
use Rattle.outcome.specs.declared.Outcome.{Outcome}
use Rattle.line.proofs.Length.{Below}
use Rattle.member.specs.Member.{Beam, Column, Mesh}
use Rattle.member.specs.Accepted.{AcceptedBeam}
use Rattle.section.specs.declared.Section.{Section}
use Rattle.section.specs.Section.{section_of}
use Rattle.bending.specs.Steps.{bending_capacity}
use Rattle.shear.specs.Steps.{shear_capacity}
use Rattle.cracking.specs.Steps.{crack_width}
use Rattle.deflection.specs.Steps.{deflection}
use Rattle.beam.specs.Checks.{beam_outcome}
use Rattle.beam.proofs.Ways as beams
use Rattle.axial.specs.Given.{Given}
use Rattle.axial.specs.Steps.{axial_capacity}
use Rattle.column.specs.Checks.{column_outcome}
use Rattle.column.proofs.Ways as columns
use Rattle.anchorage.specs.Steps.{anchorage_length}
use Rattle.lap.specs.Steps.{lap_length}
use Rattle.mesh.specs.Checks.{mesh_outcome}
use Rattle.mesh.proofs.Ways as meshes
use Rattle.checks.proofs.Figures.{Short}
use Rattle.ratio.specs.Ratio.{ExactFigure, ExactFigures}
use Rattle.ratio.proofs.Nearest.{Is}

exact_figure : (f : Figure) → Below (10 ^ 9) f → ExactFigure f
exact_figure (Some v) h = omega arith
exact_figure None h = tt

pub exact_figures : (o : Outcome) → Short o → ExactFigures o
exact_figures o s =
    record {
      first = exact_figure o.first s.first;
      second = exact_figure o.second s.second;
      third = exact_figure o.third s.third;
      fourth = exact_figure o.fourth s.fourth;
    }

pub record BeamFigures (x : Section) (o : Outcome) : Type 0 where
  pub moment : Is (bending_capacity x) o.first
  pub shear : Is (shear_capacity x) o.second
  pub width : Is (crack_width x) o.third
  pub deflection_is : Is (deflection x) o.fourth

section_figures : {x : Section} {o : Outcome} → beams.WayOut x o → BeamFigures x o
section_figures (beams.no_figure_lem _) = record { moment = tt; shear = tt; width = tt; deflection_is = tt }
section_figures (beams.to_moment _) = record { moment = refl; shear = tt; width = tt; deflection_is = tt }
section_figures (beams.to_shear _ _) = record { moment = refl; shear = refl; width = tt; deflection_is = tt }
section_figures (beams.to_width _ _ _ _) = record { moment = refl; shear = refl; width = refl; deflection_is = tt }
section_figures (beams.to_deflection _ _ _ _) = record { moment = refl; shear = refl; width = refl; deflection_is = refl }

pub beam_figures : (x : Beam) → AcceptedBeam x → BeamFigures (section_of x) (beam_outcome x)
beam_figures x a = section_figures (beams.way_out x a)

-- the axial figure stands first
abbrev pub AxialFigure : Column → Concrete → Steel → Outcome → Type 0
AxialFigure x concrete steel o = Is (axial_capacity x concrete steel) o.first

axial_stands : {x : Column} {concrete : Concrete} {steel : Steel} {o : Outcome} → columns.WayOut x concrete steel o → AxialFigure x concrete steel o
axial_stands (columns.no_figure_lem _) = tt
axial_stands (columns.to_axial _) = refl

pub axial_figure : (x : Column) (concrete : Concrete) (steel : Steel) → Given x concrete steel → AxialFigure x concrete steel (column_outcome x concrete steel)
axial_figure x concrete steel given = axial_stands (columns.way_out x concrete steel given)

pub record MeshFigures (x : Mesh) (o : Outcome) : Type 0 where
  pub anchorage : Is (anchorage_length x) o.first
  pub lap : Is (lap_length x) o.second

lengths_stand : {x : Mesh} {o : Outcome} → meshes.WayOut x o → MeshFigures x o
lengths_stand (meshes.to_anchorage _) = record { anchorage = refl; lap = tt }
lengths_stand (meshes.to_lap _) = record { anchorage = refl; lap = refl }

pub mesh_figures : (x : Mesh) → MeshFigures x (mesh_outcome x)
mesh_figures x = lengths_stand (meshes.way_out x)
