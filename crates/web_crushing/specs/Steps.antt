-- The step for the web of a beam: 6.3.1v (document 02, wishes 6 and 7).
use Rattle.std.specs.Prelude.{ℕ, ◌-◌, ◌*◌, Bool, leb}
use Rattle.quantity.specs.Rounding.{clamp}
use Rattle.section.specs.declared.Section.{Section}
use Rattle.section.specs.Section.{b, h₀, Vd, fc, βc}

-- 40·β·b, mm: 10·b where β is 0.25, 8·b where it is 0.20, and 14·b - h0 on the straight line between
abbrev pub scaled_width : Section → ℕ
scaled_width x = clamp (8 * b x) (10 * b x) (14 * b x - h₀ x)

-- 6.3.1v: V ≤ β·βc·fc·b·h0, fc in tenths of N/mm², βc in thirtieths; 12000 is 40·30·10
unfoldable pub web_holds : Section → Bool
web_holds x = leb (12000 * Vd x) (scaled_width x * βc x * fc x * h₀ x)
