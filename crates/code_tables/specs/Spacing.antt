-- Largest spacing of links: 000, table 5.5.6.
use Rattle.std.specs.Prelude.{ℕ, Bool, leb, if◌then◌else◌}

-- one of four values by the height of the beam, mm
abbrev pub by_height : ℕ → ℕ → ℕ → ℕ → ℕ → ℕ
by_height h a b c d = if leb h 300 then a else if leb h 500 then b else if leb h 800 then c else d

-- the limit in mm, where the shear is above 0.7·ft·b·h0 and where it is not
unfoldable pub spacing_limit : ℕ → Bool → ℕ
spacing_limit h above = if above then by_height h 150 200 250 300 else by_height h 200 300 350 400
