-- The clauses of cracking without rounding: 4.4.1 and 4.4.2 (GB 7.1.2, 7.1.4).
-- Fractions in N, mm and N/mm².
use Rattle.std.specs.Prelude.{◌*◌, ◌^◌, ◌≤◌, eqb, if◌then◌else◌}
use Rattle.quantity.specs.Rounding.{clamp}
use Rattle.quantity.specs.Fraction.{Frac, ◌//◌, whole, ◌⊕◌, ◌⊖◌, ◌⊗◌, ◌⊘◌, clamp_frac, ◌≼◌}
use Rattle.quantity.specs.Unit.{exact_stress}
use Rattle.material.specs.Steel.{Es}
use Rattle.section.specs.declared.Section.{Section}
use Rattle.section.specs.Section.{b, h, h₀, c, flange, S, E, D, Mq, fyk}

-- As
unfoldable pub As : Section → Frac
As x = S x // 10

-- f = Mq/(0.87·h0·As), Mq in N·mm
unfoldable pub f : Section → Frac
f x = whole (1000 * Mq x) ⊘ (87 // 100 ⊗ whole (h₀ x) ⊗ As x)

-- p = As/(0.5·b·h + (bf-b)·hf)
unfoldable pub p : Section → Frac
p x = As x ⊘ (5 // 10 ⊗ whole (b x * h x) ⊕ whole (flange x))

-- ψ = 1.1 - 0.65·ftk/(p·f) held to 0.2-1
unfoldable pub ψ : Section → Frac
ψ x = clamp_frac (2 // 10) (whole 1) (11 // 10 ⊖ (65 // 100 ⊗ exact_stress x.concrete.ftk) ⊘ (p x ⊗ f x))

-- width in mm: 1.9·ψ·(f/Es)·(1.9·c + 0.08·E/(D·p)), c held to 20-65
unfoldable pub exact_width : Section → Frac
exact_width x =
    19 // 10 ⊗ ψ x ⊗ (f x ⊘ whole Es)
    ⊗ (19 // 10 ⊗ whole (clamp 20 65 (c x)) ⊕ (8 // 100 ⊗ whole (E x)) ⊘ (whole (D x) ⊗ p x))

-- its limit in mm
unfoldable pub exact_width_limit : Section → Frac
exact_width_limit x = if eqb x.environment 1 then 3 // 10 else 2 // 10

-- The figure's unit: a length in 0.001 mm.
abbrev pub in_thousandths : Frac → Frac
in_thousandths a = whole 1000 ⊗ a

-- The exact inequalities.
abbrev pub StressHolds : Section → Type 0
StressHolds x = 10 ^ 6 * Mq x ≤ 87 * fyk x * h₀ x * S x

abbrev pub WidthHolds : Section → Type 0
WidthHolds x = exact_width x ≼ exact_width_limit x
