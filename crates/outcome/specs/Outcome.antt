-- The outcome of a member's checks, and the name by which the papers print each check.
use Rattle.std.specs.Prelude.{ℕ, List, [], ◌∷◌, None, Some, Option}
use Rattle.outcome.specs.declared.Check.{Check}
use Rattle.outcome.specs.declared.Check.TheVariants.{
  Passed,
  LeastSteel,
  CompressionDepth,
  Bending,
  CoupleBending,
  WebCrushing,
  Shear,
  LinkSpacing,
  LeastLinks,
  ServiceStress,
  CrackWidth,
  Deflection,
  MostSteel,
  ColumnLinks,
  Slenderness,
  AxialForce,
  Anchorage,
  Lap,
}
use Rattle.outcome.specs.declared.Outcome.{Outcome}

-- a figure of the line, or none where its check was not reached
abbrev pub Figure : Type 0
Figure = Option ℕ

abbrev pub outcome : Check → Figure → Figure → Figure → Figure → Outcome
outcome check first second third fourth =
    record { check = check; first = first; second = second; third = third; fourth = fourth }

-- by the figures that were reached: none, the first, the first two, three or all four
abbrev pub no_figure : Check → Outcome
no_figure check = outcome check None None None None

abbrev pub one_figure : Check → ℕ → Outcome
one_figure check a = outcome check (Some a) None None None

abbrev pub two_figures : Check → ℕ → ℕ → Outcome
two_figures check a b = outcome check (Some a) (Some b) None None

abbrev pub three_figures : Check → ℕ → ℕ → ℕ → Outcome
three_figures check a b c = outcome check (Some a) (Some b) (Some c) None

abbrev pub four_figures : Check → ℕ → ℕ → ℕ → ℕ → Outcome
four_figures check a b c d = outcome check (Some a) (Some b) (Some c) (Some d)

-- the printed word, in bytes
abbrev pub name_of : Check → List ℕ
-- OK
name_of Passed = 79 ∷ 75 ∷ []
-- 6.3.1
name_of LeastSteel = 54 ∷ 46 ∷ 51 ∷ 46 ∷ 49 ∷ []
-- 4.2.2-3
name_of CompressionDepth = 52 ∷ 46 ∷ 50 ∷ 46 ∷ 50 ∷ 45 ∷ 51 ∷ []
-- 4.2.2
name_of Bending = 52 ∷ 46 ∷ 50 ∷ 46 ∷ 50 ∷ []
-- 4.2.3
name_of CoupleBending = 52 ∷ 46 ∷ 50 ∷ 46 ∷ 51 ∷ []
-- 6.3.1v
name_of WebCrushing = 54 ∷ 46 ∷ 51 ∷ 46 ∷ 49 ∷ 118 ∷ []
-- 4.3.3
name_of Shear = 52 ∷ 46 ∷ 51 ∷ 46 ∷ 51 ∷ []
-- 5.5.6s
name_of LinkSpacing = 53 ∷ 46 ∷ 53 ∷ 46 ∷ 54 ∷ 115 ∷ []
-- 5.5.6r
name_of LeastLinks = 53 ∷ 46 ∷ 53 ∷ 46 ∷ 54 ∷ 114 ∷ []
-- 4.4.1
name_of ServiceStress = 52 ∷ 46 ∷ 52 ∷ 46 ∷ 49 ∷ []
-- 4.4.2
name_of CrackWidth = 52 ∷ 46 ∷ 52 ∷ 46 ∷ 50 ∷ []
-- 4.5.1
name_of Deflection = 52 ∷ 46 ∷ 53 ∷ 46 ∷ 49 ∷ []
-- 5.6.1
name_of MostSteel = 53 ∷ 46 ∷ 54 ∷ 46 ∷ 49 ∷ []
-- 5.6.2
name_of ColumnLinks = 53 ∷ 46 ∷ 54 ∷ 46 ∷ 50 ∷ []
-- 4.2.4s
name_of Slenderness = 52 ∷ 46 ∷ 50 ∷ 46 ∷ 52 ∷ 115 ∷ []
-- 4.2.4
name_of AxialForce = 52 ∷ 46 ∷ 50 ∷ 46 ∷ 52 ∷ []
-- 5.2.5
name_of Anchorage = 53 ∷ 46 ∷ 50 ∷ 46 ∷ 53 ∷ []
-- 5.3.7
name_of Lap = 53 ∷ 46 ∷ 51 ∷ 46 ∷ 55 ∷ []
