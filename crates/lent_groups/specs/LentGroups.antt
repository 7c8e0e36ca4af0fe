-- Question 7 of groups of bars in lists that a caller lends (document 01, "Schedule bytes": "Bar groups are lent as a list of such records").
use Rattle.std.specs.Prelude.{ℕ, Bool, true, ◌&&◌, List, [], ◌∷◌, leb, length, take}
use Rattle.bars.specs.declared.Group.{Group}
use Rattle.field_domain.specs.Domain.{group_diameter, group_bars}

abbrev pub group_holds : Group → Bool
group_holds g = group_diameter g.diameter && group_bars g.bars

abbrev pub groups_hold : List Group → Bool
groups_hold [] = true
groups_hold (g ∷ gs) = group_holds g && groups_hold gs

-- "a built member's count above the length of its list is a no to 7"; of the groups themselves, those that the count names are asked
unfoldable pub named_hold : ℕ → List Group → Bool
named_hold count list = leb count (length list) && groups_hold (take count list)
