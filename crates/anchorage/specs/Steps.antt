-- The anchorage of a ribbed welded mesh (document 01, "Mesh."; 000, 5.2.5).
-- A factor in tenths or hundredths makes the unit of length as much smaller, so that lengths are whole and exact up to the one `up`.
use Rattle.std.specs.Prelude.{ℕ, ◌*◌, max, ◌||◌, eqb, if◌then◌else◌}
use Rattle.quantity.specs.Rounding.{up}
use Rattle.code_tables.specs.Mesh.{multiple}
use Rattle.member.specs.Member.{Mesh}

-- in tenths: 1.4 if paired; 0.8 if apart
abbrev pub paired_tenths : ℕ → ℕ
paired_tenths paired = if eqb paired 1 then 14 else 10

abbrev pub apart_tenths : ℕ → ℕ
apart_tenths apart = if eqb apart 1 then 8 else 10

-- in hundredths: 1.15 for seismic 1 and 2, 1.05 for 3
abbrev pub seismic_hundredths : ℕ → ℕ
seismic_hundredths seismic = if eqb seismic 1 || eqb seismic 2 then 115 else if eqb seismic 3 then 105 else 100

-- d times its multiple from the row with (1) or without (0) cross bar, times 1.4 if paired, 0.8 if apart; at least 200 mm;
-- times the seismic factor. In ten-thousandths of a mm; the larger of two in hundredths.
unfoldable pub basic_length : ℕ → ℕ → Mesh → ℕ
basic_length cross apart x =
    max 20000 (multiple x.family cross x.concrete * x.d * paired_tenths x.paired * apart_tenths apart)
    * seismic_hundredths x.seismic

-- 5.2.5: the anchorage, mm
unfoldable pub anchorage_length : Mesh → ℕ
anchorage_length x = up (basic_length x.cross x.apart x) 10000
