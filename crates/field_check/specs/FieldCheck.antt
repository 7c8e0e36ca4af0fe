-- Question 7 of a member in slots.
use Rattle.std.specs.Prelude.{ℕ, ◌+◌, Bool, true, ◌&&◌, List, [], ◌∷◌}
use Rattle.field_domain.specs.declared.Domain.{Domain}
use Rattle.field_domain.specs.Domain.{field_holds}

-- Question 7 of the fields in the slots from i on.
abbrev pub fields_hold : List Domain → ℕ → List ℕ → Bool
fields_hold [] i v = true
fields_hold (d ∷ ds) i v = field_holds d i v && fields_hold ds (i + 1) v
