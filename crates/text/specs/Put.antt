-- What putting a text, or other bytes, does to a lent buffer.
use Rattle.std.specs.Prelude.{ℕ, ◌+◌, ◌<◌, min, ◌≡◌, List, length}
use Rattle.std.proofs.lemmas.List.Edits.{sets}

-- the largest position, 2^64 - 1; no buffer reaches it
abbrev pub last_position : ℕ
last_position = 18446744073709551615

-- the position n bytes after at; it stays at the largest one
abbrev pub advance : ℕ → ℕ → ℕ
advance at n = min (at + n) last_position

-- The text s is put into the buffer d at position at: d' is d with the bytes of s stored from there on, those past d's end left out,
-- and r is the position after s. (`sets` stores one byte after the other, and a store past the end changes nothing.)
pub record Put (d : List ℕ) (at : ℕ) (s d' : List ℕ) (r : ℕ) : Type 0 where
  pub bytes : d' ≡ sets d at s
  pub next : r ≡ advance at (length s)
  pub short : length d < last_position
