-- Demand 3 for a column: its axial capacity against the clause's exact fraction, the exact inequalities, and what an outcome may say.
use Rattle.std.specs.Prelude.{◌*◌, ◌≤◌, ◌≡◌}
use Rattle.quantity.specs.Fraction.{whole, ◌⊖◌, ◌≼◌, ◌≺◌}
use Rattle.material.specs.declared.Concrete.{Concrete}
use Rattle.material.specs.declared.Steel.{Steel}
use Rattle.material.specs.Concrete.{concrete_of}
use Rattle.material.specs.Steel.{steel_of}
use Rattle.member.specs.Member.{Column}
use Rattle.bars.specs.Sums.{area, largest, smallest}
use Rattle.outcome.specs.Safe.{empty, capacity, Safe}
use Rattle.outcome.specs.declared.Outcome.{Outcome}
use Rattle.outcome.specs.declared.Check.{Check}
use Rattle.outcome.specs.declared.Check.TheVariants.{Passed, MostSteel, ColumnLinks, Slenderness, AxialForce}
use Rattle.axial.specs.Exact.{exact_axial}

-- 5.6.2
pub record LinksHold (x : Column) : Type 0 where
  pub diameter : largest x.groups ≤ 4 * x.link
  pub spacing : x.s ≤ 400
  pub spacing_side : x.s ≤ x.b
  pub spacing_bars : x.s ≤ 15 * smallest x.groups

module _ (x : Column) (concrete : Concrete) (steel : Steel) where
  -- every exact inequality of the column
  pub record ColumnHolds : Type 0 where
    -- 5.6.1
    pub most_steel : 2 * area x.groups ≤ x.b * x.h
    -- 5.6.2
    pub links : LinksHold x
    -- 4.2.4s
    pub slenderness : x.l₀ ≤ 50 * x.b
    -- 4.2.4
    pub axial : whole x.N ≼ exact_axial x concrete steel

  -- the check that may be named: one whose exact inequality fails, or, with a figure, holds by less than 1 N; with OK none is named
  pub data MayName : Check → Type 0 where
    none : MayName Passed
    most_steel : (2 * area x.groups ≤ x.b * x.h → ⊥) → MayName MostSteel
    links : (LinksHold x → ⊥) → MayName ColumnLinks
    slenderness : (x.l₀ ≤ 50 * x.b → ⊥) → MayName Slenderness
    axial : exact_axial x concrete steel ⊖ whole x.N ≺ whole 1 → MayName AxialForce

  pub record SafeColumnWith (o : Outcome) : Type 0 where
    pub first : Safe o.first (capacity (whole 1) (exact_axial x concrete steel))
    pub second : Safe o.second empty
    pub third : Safe o.third empty
    pub fourth : Safe o.fourth empty
    pub passed : o.check ≡ Passed → ColumnHolds
    pub named : MayName o.check

-- demand 3 for the outcome of a column of the materials that its fields name
abbrev pub SafeColumn : Column → Outcome → Type 0
SafeColumn x o = SafeColumnWith x (concrete_of x.concrete) (steel_of x.steel) o
