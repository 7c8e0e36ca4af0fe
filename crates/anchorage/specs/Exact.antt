-- The anchorage of a mesh without rounding: 000, 5.2.5.
-- Lengths are exact fractions of a millimetre.
use Rattle.std.specs.Prelude.{ℕ, ◌*◌, ◌||◌, eqb, if◌then◌else◌}
use Rattle.quantity.specs.Fraction.{Frac, ◌//◌, whole, ◌⊗◌, larger}
use Rattle.code_tables.specs.Mesh.{multiple}
use Rattle.member.specs.Member.{Mesh}

-- 1.4 if paired; 0.8 if apart; 1.15 for seismic 1 and 2, 1.05 for 3
abbrev pub paired_factor : ℕ → Frac
paired_factor paired = if eqb paired 1 then 14 // 10 else whole 1

abbrev pub apart_factor : ℕ → Frac
apart_factor apart = if eqb apart 1 then 8 // 10 else whole 1

abbrev pub seismic_factor : ℕ → Frac
seismic_factor seismic = if eqb seismic 1 || eqb seismic 2 then 115 // 100 else if eqb seismic 3 then 105 // 100 else whole 1

-- 5.2.5, with its multiple from the row with (1) or without (0) cross bar
unfoldable pub exact_basic : ℕ → ℕ → Mesh → Frac
exact_basic cross apart x =
    larger (whole 200)
    (whole (multiple x.family cross x.concrete * x.d) ⊗ paired_factor x.paired ⊗ apart_factor apart)
    ⊗ seismic_factor x.seismic

unfoldable pub exact_anchorage : Mesh → Frac
exact_anchorage x = exact_basic x.cross x.apart x
