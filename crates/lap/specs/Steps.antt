-- The lap of a ribbed welded mesh (document 01, "Mesh."; 000, 5.3.7), in units made smaller as those of the anchorage are.
use Rattle.std.specs.Prelude.{ℕ, ◌+◌, ◌*◌, max, leb, eqb, if◌then◌else◌}
use Rattle.quantity.specs.Rounding.{up}
use Rattle.member.specs.Member.{Mesh}
use Rattle.anchorage.specs.Steps.{basic_length}

-- laps: the row with cross bar and at least 200 mm if stacked or nested (1), the row without and at least 300 mm if flat (2)
abbrev pub lap_row : ℕ → ℕ
lap_row lapping = if eqb lapping 1 then 1 else 0

abbrev pub lap_least : ℕ → ℕ
lap_least lapping = if eqb lapping 1 then 200 else 300

-- the basic length of 5.2.5, never with 0.8; times 1.3; at least 200 or 300 mm; plus 5·d from d = 12. In hundred-thousandths of a mm.
unfoldable pub tension_lap : Mesh → ℕ
tension_lap x =
    max (100000 * lap_least x.lapping) (13 * basic_length (lap_row x.lapping) 0 x)
    + 100000 * (if leb 12 x.d then 5 * x.d else 0)

-- under compression 0.7 of it, at least 150 mm. In millionths of a mm.
unfoldable pub required_lap : Mesh → ℕ
required_lap x = if eqb x.compression 1 then max 150000000 (7 * tension_lap x) else 10 * tension_lap x

-- 5.3.7: the lap, mm
unfoldable pub lap_length : Mesh → ℕ
lap_length x = up (required_lap x) 1000000
