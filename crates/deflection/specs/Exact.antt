-- The clauses of deflection without rounding: 4.5.1 (GB 7.2.3, 7.2.5).
-- Fractions in N, mm and N/mm².
use Rattle.std.specs.Prelude.{◌*◌, min, leb, ltb, eqb, if◌then◌else◌}
use Rattle.quantity.specs.Fraction.{Frac, ◌//◌, whole, ◌⊕◌, ◌⊖◌, ◌⊗◌, ◌⊘◌, ◌≼◌}
use Rattle.quantity.specs.Unit.{exact_stress}
use Rattle.material.specs.Steel.{Es}
use Rattle.section.specs.declared.Section.{Section}
use Rattle.section.specs.Section.{b, h₀, l₀, S, S', Mq}
use Rattle.cracking.specs.Exact.{As, ψ}

-- Bs = Es·As·h0²/(1.15·ψ + 0.2 + 6·Es·As/(Ec·b·h0))
unfoldable pub Bs : Section → Frac
Bs x =
    (whole Es ⊗ As x ⊗ whole (h₀ x * h₀ x))
    ⊘ (115 // 100 ⊗ ψ x ⊕ 2 // 10 ⊕ (whole (6 * Es) ⊗ As x) ⊘ (exact_stress x.concrete.ec ⊗ whole (b x * h₀ x)))

-- θ = 2 - 0.4·As'/As, As' at most As; 1.2 times that with a flange
unfoldable pub θ : Section → Frac
θ x =
    let t = whole 2 ⊖ 4 // 10 ⊗ (min (S x) (S' x) // S x) in
    if x.flanged then 12 // 10 ⊗ t else t

-- deflection in mm: 5·Mq·θ·l0²/(48·Bs)
unfoldable pub exact_deflection : Section → Frac
exact_deflection x = (whole (5 * (1000 * Mq x)) ⊗ θ x ⊗ whole (l₀ x * l₀ x)) ⊘ (whole 48 ⊗ Bs x)

-- its limit in mm: l0/200 below 7000, l0/250 to 9000 inclusive, l0/300 above; strict 250, 300, 400
unfoldable pub exact_deflection_limit : Section → Frac
exact_deflection_limit x =
    let strict = eqb x.strict 1 in
    if ltb (l₀ x) 7000 then l₀ x // (if strict then 250 else 200)
    else (if leb (l₀ x) 9000 then l₀ x // (if strict then 300 else 250) else l₀ x // (if strict then 400 else 300))

-- The figure's unit: a length in 0.01 mm.
abbrev pub in_hundredths_of_mm : Frac → Frac
in_hundredths_of_mm a = whole 100 ⊗ a

-- The exact inequality.
abbrev pub DeflectionHolds : Section → Type 0
DeflectionHolds x = exact_deflection x ≼ exact_deflection_limit x
