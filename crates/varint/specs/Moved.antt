-- What a cursor's reading comes to.
use Rattle.std.specs.Prelude.{◌≡◌, ℕ, Err, Ok, Result}
use Rattle.question.specs.Reading.{Reading, got, no}
use Rattle.varint.specs.declared.Cursor.{Cursor}
use Rattle.varint.specs.Placed.{Placed, placed}

-- what a result says, with p the place of the cursor afterwards
abbrev pub reading_of : {A N : Type 0} → Result A N → ℕ → Reading N (Placed A)
reading_of (Ok a) p = got (placed a p)
reading_of (Err q) p = no q

-- The cursor `old` after the reading o, with this result: the bytes stay; where a value was read, it is the result, and the place after it
-- is the cursor's.
pub record Moved {A N : Type 0} (old : Cursor) (o : Reading N (Placed A)) (result : Result A N) (new : Cursor) : Type 0 where
  pub same : new.src ≡ old.src
  pub reads : reading_of result new.at ≡ o
