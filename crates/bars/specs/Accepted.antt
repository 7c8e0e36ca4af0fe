-- What the sums may use of groups that passed question 7.
-- (document 01, "A group is diameter and bar count")
use Rattle.std.specs.Prelude.{ℕ, ◌≤◌, ◌<◌, List}
use Rattle.quantity.specs.All.{All}
use Rattle.code_tables.specs.Bars.{area_of}
use Rattle.bars.specs.declared.Group.{Group}

-- a diameter of the table from lo to hi
pub record BarFrom (lo hi d : ℕ) : Type 0 where
  pub least : lo ≤ d
  pub most : d ≤ hi
  pub listed : 0 < area_of d

pub record AcceptedGroup (g : Group) : Type 0 where
  pub diameter : BarFrom 6 50 g.diameter
  pub some : 1 ≤ g.bars
  pub most : g.bars ≤ 20

abbrev pub AcceptedGroups : List Group → Type 0
AcceptedGroups gs = All AcceptedGroup gs
