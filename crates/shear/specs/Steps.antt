-- The steps for the shear and the links of a beam: 4.3.3, 5.5.6s and 5.5.6r (document 01; under a point load document 02, wish 3).
use Rattle.std.specs.Prelude.{ℕ, ◌+◌, ◌*◌, Bool, true, leb, ltb, if◌then◌else◌}
use Rattle.quantity.specs.declared.Length.{Length}
use Rattle.quantity.specs.Rounding.{down, clamp}
use Rattle.code_tables.specs.Spacing.{spacing_limit}
use Rattle.member.specs.declared.Load.{Load}
use Rattle.member.specs.declared.Load.TheVariants.{Uniform, Point}
use Rattle.section.specs.declared.Section.{Section}
use Rattle.section.specs.Section.{b, h, h₀, s, L, Vd, ft, fyv}

-- 7·ft·b·h0, which is 0.7·ft·b·h0 in thousandths of N
abbrev pub concrete_part : Section → ℕ
concrete_part x = 7 * ft x * b x * h₀ x

-- λ, the shear span ratio (document 02's shear ratio): a/h0 held to 1.5 to 3, in units of 1/(2·h0)
abbrev pub clamped_ratio : Section → Length → ℕ
clamped_ratio x a = clamp (3 * h₀ x) (6 * h₀ x) (2 * a.0)

-- the concrete's part, in N: down(7·ft·b·h0/1000);
-- under a point load 1.75·ft·b·h0 divided by λ + 1, 1.75 and ft in hundredths, λ and 1 in units of 1/(2·h0)
abbrev pub concrete_under : Load → Section → ℕ
concrete_under Uniform x = down (concrete_part x) 1000
concrete_under (Point a) x = down (175 * ft x * b x * h₀ x * (2 * h₀ x)) (10000 * (clamped_ratio x a + 2 * h₀ x))

unfoldable pub concrete_shear : Section → ℕ
concrete_shear x = concrete_under x.load x

unfoldable pub link_shear : Section → ℕ
link_shear x = down (fyv x * L x * h₀ x) (10 * s x)

-- 4.3.3: the concrete's part + down(fyv·L·h0/(10s)), in N
unfoldable pub shear_capacity : Section → ℕ
shear_capacity x = concrete_shear x + link_shear x

-- the first case of table 5.5.6: 1000·V > 7·ft·b·h0
unfoldable pub shear_above : Section → Bool
shear_above x = ltb (concrete_part x) (1000 * Vd x)

-- 5.5.6s, spacing of links: s at most the limit for the height and the case
unfoldable pub link_spacing : Section → Bool
link_spacing x = leb (s x) (spacing_limit (h x) (shear_above x))

-- 5.5.6r, least links: in the first case 1000·L·fyv ≥ 24·ft·b·s
abbrev pub links_suffice : Section → Bool
links_suffice x = leb (24 * ft x * b x * s x) (1000 * L x * fyv x)

unfoldable pub least_links : Section → Bool
least_links x = if shear_above x then links_suffice x else true
