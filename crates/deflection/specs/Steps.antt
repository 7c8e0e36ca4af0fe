-- Document 01's steps for the deflection of a beam: 4.5.1.
use Rattle.std.specs.Prelude.{ℕ, ◌+◌, ◌-◌, ◌*◌, ◌^◌, min, Bool, leb, ltb, eqb, if◌then◌else◌}
use Rattle.quantity.specs.Rounding.{up, down}
use Rattle.section.specs.declared.Section.{Section}
use Rattle.section.specs.Section.{b, h₀, l₀, S, S', Ec}
use Rattle.cracking.specs.Steps.{σ, q}

-- z: the compressed concrete's part of the curvature, 0.2 + 6·Es·As/(Ec·b·h0), millionths
unfoldable pub flexibility : ℕ → ℕ → ℕ → ℕ → ℕ
flexibility S Ec b h₀ = 200000 + up (12 * 10 ^ 10 * S) (Ec * b * h₀)

-- r: σ·(1.15·ψ + z), 0.0001 N/mm²; the curvature is 0.87·r/(Es·h0)
unfoldable pub curvature : ℕ → ℕ → ℕ → ℕ
curvature q z σ = up (115 * q) 100 + up (z * σ) (10 ^ 6)

-- u: deflection by the short-term stiffness, 5·Mq·l0²/(48·Bs), 10^-8 mm
unfoldable pub short_term : ℕ → ℕ → ℕ → ℕ
short_term l₀ h₀ r = up (29 * (l₀ * l₀) * r) (6400 * h₀)

-- θ: factor of lasting load on the deflection (GB 7.2.5), millionths
unfoldable pub long_term : ℕ → ℕ → Bool → ℕ
long_term S S' flanged =
    let θ = 2 * 10 ^ 6 - down (400000 * min S S') S in
    if flanged then up (6 * θ) 5 else θ

-- deflection from u and θ, 0.01 mm
unfoldable pub deflection_of : ℕ → ℕ → ℕ
deflection_of u θ = up (u * θ) (10 ^ 12)

-- deflection of a section, 0.01 mm
unfoldable pub deflection : Section → ℕ
deflection x =
    deflection_of
    (short_term (l₀ x) (h₀ x) (curvature (q x) (flexibility (S x) (Ec x) (b x) (h₀ x)) (σ x)))
    (long_term (S x) (S' x) x.flanged)

-- at most l0/n: n by the span l0, mm, and by `strict`
abbrev pub by_span : ℕ → ℕ → ℕ → ℕ → ℕ
by_span l₀ below to above = if ltb l₀ 7000 then below else if leb l₀ 9000 then to else above

unfoldable pub span_divisor : ℕ → ℕ → ℕ
span_divisor l₀ strict = if eqb strict 1 then by_span l₀ 250 300 400 else by_span l₀ 200 250 300

-- 4.5.1: deflection at most l0/n, both sides in 0.01 mm and times n
unfoldable pub deflection_holds : Section → Bool
deflection_holds x = leb (deflection x * span_divisor (l₀ x) x.strict) (100 * l₀ x)
