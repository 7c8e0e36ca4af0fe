-- Questions 9 and 10 (document 01, "Questions before any check"), put to a whole member.
use Rattle.std.specs.Prelude.{◌*◌, Bool, ◌&&◌, leb}
use Rattle.member.specs.Member.{Beam, Column, h₀}
use Rattle.bars.specs.Sums.{bar_count, area}

-- 9: at most 40 bars on each face of a beam, 40 in a column
unfoldable pub beam_bars : Beam → Bool
beam_bars x = leb (bar_count x.tension) 40 && leb (bar_count x.compression) 40

unfoldable pub column_bars : Column → Bool
column_bars x = leb (bar_count x.groups) 40

-- 10: 5·S ≤ 2·b·h0
unfoldable pub beam_ratio : Beam → Bool
beam_ratio x = leb (5 * area x.tension) (2 * x.b * h₀ x)
