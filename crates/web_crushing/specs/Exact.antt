-- The limit of the web without rounding: GB 50010, 6.3.1 (document 02, wishes 6 and 7).
-- Forces in N, lengths in mm, stresses in N/mm².
use Rattle.std.specs.Prelude.{◌*◌, leb, if◌then◌else◌}
use Rattle.quantity.specs.Fraction.{Frac, ◌//◌, whole, ◌⊖◌, ◌⊗◌, ◌⊘◌, ◌≼◌}
use Rattle.quantity.specs.Unit.{exact_stress}
use Rattle.section.specs.declared.Section.{Section}
use Rattle.section.specs.Section.{b, h₀, Vd, βc}

-- β: 0.25 where h0/b ≤ 4, 0.20 from 6, straight between
unfoldable pub β : Section → Frac
β x =
    if leb (h₀ x) (4 * b x)
    then 25 // 100
    else (if leb (6 * b x) (h₀ x)
    then 20 // 100
    else (25 // 100 ⊖ 5 // 100 ⊗ ((h₀ x // b x ⊖ whole 4) ⊘ whole 2)))

-- β·βc·fc·b·h0
unfoldable pub exact_web_limit : Section → Frac
exact_web_limit x = β x ⊗ (βc x // 30) ⊗ exact_stress x.concrete.fc ⊗ whole (b x) ⊗ whole (h₀ x)

-- 6.3.1v: the shear is not above the limit of the web
abbrev pub WebHolds : Section → Type 0
WebHolds x = whole (Vd x) ≼ exact_web_limit x
