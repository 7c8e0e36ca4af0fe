-- What came of reading the input into a buffer.
use Rattle.std.specs.Prelude.{◌≡◌, ℕ, ◌≤◌, ◌<◌, List, length, take, Option, Result, Ok, Err}
use Rattle.std.specs.Io.KnownBytes.{Consumes, IsAtEnd}

-- what was read stands within the buffer: its first n bytes are n bytes
abbrev pub ReadInto : {E : Type 0} → Result ℕ E → List ℕ → Type 0
ReadInto (Ok n) buf = (n ≤ length buf) × (n ≡ length (take n buf))
ReadInto (Err e) buf = Unit {0}

-- Where the bytes are known that the input had left before and has left after: the buffer's first n bytes are those that are gone,
-- in their order, and where the buffer has room for more, none is left.
abbrev pub HasTaken : {E : Type 0} → Option (List ℕ) → Option (List ℕ) → Result ℕ E → List ℕ → Type 0
HasTaken before after (Ok n) buf = Consumes before after (take n buf) × (n < length buf → IsAtEnd after)
HasTaken before after (Err e) buf = Unit {0}
