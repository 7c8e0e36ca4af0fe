-- Tables of whole numbers: a list of rows, each with its key first.
use Rattle.std.specs.Prelude.{ℕ, suc, Bool, false, ◌||◌, List, [], ◌∷◌, eqb, get_or, if◌then◌else◌}

-- the first row with the key k, and no row where k is not listed
abbrev pub row : ℕ → List (List ℕ) → List ℕ
row k [] = []
row k (r ∷ rs) = if eqb k (get_or r 0 0) then r else row k rs

-- the place of that row, counted from 0; the number of rows where k is not listed
abbrev pub place : ℕ → List (List ℕ) → ℕ
place k [] = 0
place k (r ∷ rs) = if eqb k (get_or r 0 0) then 0 else suc (place k rs)

-- what stands in column j of that row; 0 where k is not listed
abbrev pub cell : ℕ → ℕ → List (List ℕ) → ℕ
cell k j rows = get_or (row k rows) j 0

-- whether some row has the key k
abbrev pub listed : ℕ → List (List ℕ) → Bool
listed k [] = false
listed k (r ∷ rs) = eqb k (get_or r 0 0) || listed k rs
