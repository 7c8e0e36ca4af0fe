-- A list of groups is accepted in at most one way.
use mathlib.Core.List.{List, [], ◌∷◌}
use denote.Struct.Props.{props}
use Rattle.bars.specs.declared.Group.{Group}
use Rattle.bars.specs.Accepted.{AcceptedGroup, AcceptedGroups}

group_prop : (g : Group) → IsProp (AcceptedGroup g)
group_prop g = hlevel props

pub groups_prop : (gs : List Group) → IsProp (AcceptedGroups gs)
groups_prop [] = hlevel props
groups_prop (g ∷ gs) = hlevel (props, group_prop g, groups_prop gs)
