-- The groups that are there of those in a list of four.
use Rattle.std.specs.Prelude.{List, take}
use Rattle.bars.specs.declared.Group.{Group}
use Rattle.bars.specs.declared.Groups.{Groups}

abbrev pub groups_in : Groups → List Group
groups_in x = take x.count x.list
