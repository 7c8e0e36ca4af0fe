-- The bytes of a number: unsigned LEB128 with as few septets (seven bits each) as hold it, lowest first.
-- (document 01, "Schedule bytes")
use Rattle.std.specs.Prelude.{ℕ, zero, suc, ◌+◌, ◌/◌, ◌%◌, ◌<◌, List, [], ◌∷◌, ltb, get_or, if◌then◌else◌}

-- v in at most `more` + 1 septets
unfoldable pub septets_of : ℕ → ℕ → List ℕ
septets_of zero v = v ∷ []
septets_of (suc more) v = if ltb v 128 then v ∷ [] else ((v % 128 + 128) ∷ septets_of more (v / 128))

-- five septets hold every number below 2 ^ 32
unfoldable pub bytes_of : ℕ → List ℕ
bytes_of v = septets_of 4 v

-- every number is a byte
abbrev pub Bytes : List ℕ → Type 0
Bytes s = (i : ℕ) → get_or s i 0 < 256
