-- Groups copied out of lists that a caller lends: the terms of the code's inner contracts.
use Rattle.std.specs.Prelude.{List, [], ◌∷◌, get_or}
use Rattle.bars.specs.declared.Group.{Group}

-- what stands for a group that is not there
abbrev pub no_group : Group
no_group = record { diameter = 0; bars = 0 }

-- the first four of a list
abbrev pub first_four : List Group → List Group
first_four gs = get_or gs 0 no_group ∷ get_or gs 1 no_group ∷ get_or gs 2 no_group ∷ get_or gs 3 no_group ∷ []
