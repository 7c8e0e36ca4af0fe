-- The clauses of shear without rounding: 4.3.3, 5.5.6s and 5.5.6r.
-- Forces in N, lengths in mm, stresses in N/mm².
use Rattle.std.specs.Prelude.{◌*◌, ◌≤◌, ◌<◌, ltb}
use Rattle.quantity.specs.declared.Length.{Length}
use Rattle.quantity.specs.Fraction.{Frac, ◌//◌, whole, ◌⊕◌, ◌⊗◌, ◌⊘◌, clamp_frac, ◌≼◌}
use Rattle.quantity.specs.Unit.{exact_stress}
use Rattle.code_tables.specs.Spacing.{spacing_limit}
use Rattle.member.specs.declared.Load.{Load}
use Rattle.member.specs.declared.Load.TheVariants.{Uniform, Point}
use Rattle.section.specs.declared.Section.{Section}
use Rattle.section.specs.Section.{b, h, h₀, s, L, Vd, ft, fyv}

-- λ, the shear span ratio of a point load (document 02's shear ratio): a/h0, held to 1.5 to 3
abbrev pub shear_span_ratio : Section → Length → Frac
shear_span_ratio x a = clamp_frac (3 // 2) (whole 3) (a.0 // h₀ x)

-- 4.3.3, the concrete's part: 0.7·ft·b·h0; under a point load 1.75/(λ + 1)·ft·b·h0
unfoldable pub exact_concrete : Load → Section → Frac
exact_concrete Uniform x = 7 // 10 ⊗ exact_stress x.concrete.ft ⊗ whole (b x) ⊗ whole (h₀ x)
exact_concrete (Point a) x = 175 // 100 ⊗ exact_stress x.concrete.ft ⊗ whole (b x) ⊗ whole (h₀ x) ⊘ (shear_span_ratio x a ⊕ whole 1)

-- the links' part: fyv·Asv·h0/s, Asv = L/10
unfoldable pub exact_links : Section → Frac
exact_links x = exact_stress x.fyv ⊗ (L x // 10) ⊗ whole (h₀ x) ⊘ whole (s x)

-- 4.3.3
unfoldable pub exact_shear : Section → Frac
exact_shear x = exact_concrete x.load x ⊕ exact_links x

-- The exact inequalities. Checks without a figure have document 01's own numbers.

-- 4.3.3: the shear is not above the exact capacity
abbrev pub ShearHolds : Section → Type 0
ShearHolds x = whole (Vd x) ≼ exact_shear x

-- 5.5.6s: s at most the limit of table 5.5.6, in the case that 1000·V > 7·ft·b·h0 picks
abbrev pub LinkSpacingHolds : Section → Type 0
LinkSpacingHolds x = s x ≤ spacing_limit (h x) (ltb (7 * ft x * b x * h₀ x) (1000 * Vd x))

-- 5.5.6r: where 1000·V > 7·ft·b·h0, 1000·L·fyv ≥ 24·ft·b·s
abbrev pub LeastLinksHold : Section → Type 0
LeastLinksHold x = 7 * ft x * b x * h₀ x < 1000 * Vd x → 24 * ft x * b x * s x ≤ 1000 * L x * fyv x
