-- Document 01's steps for a beam in bending: 6.3.1, 4.2.2-3, 4.2.2 and 4.2.3; with α1 and ξb by document 02, wish 7.
-- Forces are in tenths of N.
use Rattle.std.specs.Prelude.{ℕ, ◌+◌, ◌-◌, ◌*◌, Bool, ◌&&◌, ◌||◌, leb, eqb, if◌then◌else◌}
use Rattle.quantity.specs.Rounding.{down}
use Rattle.section.specs.declared.Section.{Section}
use Rattle.section.specs.Section.{b, h₀, a', G, S, S', fc, ft, fy, fyc, α₁, ξb}

-- 6.3.1 (001), least steel: 50·S ≥ G and 1000·S·fy ≥ 45·ft·G
unfoldable pub least_steel : Section → Bool
least_steel x = leb (G x) (50 * S x) && leb (45 * ft x * G x) (1000 * S x * fy x)

-- t = fy·S - fy'·S' may be below 0: where t is compared, fy'·S' stands on the other side
abbrev pub tension_force : Section → ℕ
tension_force x = fy x * S x

abbrev pub compression_force : Section → ℕ
compression_force x = fyc x * S' x

-- t where it is not below 0
abbrev pub t : Section → ℕ
t x = tension_force x - compression_force x

-- k = α1·fc·b, the force of the compressed concrete for each mm of the zone's depth; α1 is in hundredths, so k is in thousandths of N,
-- and a force beside a multiple of k is taken 100 times
abbrev pub k : Section → ℕ
k x = α₁ x * fc x * b x

-- 4.2.2-3, depth of the compression zone: t ≤ ξb·h0·k, times 100 and the denominator of ξb
unfoldable pub compression_depth : Section → Bool
compression_depth x =
    leb (100 * (ξb x).den * tension_force x) ((ξb x).num * h₀ x * k x + 100 * (ξb x).den * compression_force x)

-- the compression steel yields, so that 4.2.2 applies and not 4.2.3: the zone is at least 2·a' deep, or there is none: S' = 0 or t ≥ 2·a'·k
unfoldable pub compression_yields : Section → Bool
compression_yields x = eqb (S' x) 0 || leb (100 * compression_force x + 2 * a' x * k x) (100 * tension_force x)

-- t·h0 + fy'·S'·(h0-a'), the moment of the steel's forces about the compressed face
abbrev pub steel_moment : Section → ℕ
steel_moment x = t x * h₀ x + compression_force x * (h₀ x - a' x)

-- 4.2.2: down((t·h0 + fy'·S'·(h0-a') - t²/(2k))/10000), here over k, where t²/2 is taken 100 times; t is not below 0 where 4.2.2 applies
unfoldable pub yielded_capacity : Section → ℕ
yielded_capacity x = down (steel_moment x * k x - 50 * (t x * t x)) (k x * 10000)

-- 4.2.3: down(fy·S·(h0-a')/10000)
unfoldable pub couple_capacity : Section → ℕ
couple_capacity x = down (tension_force x * (h₀ x - a' x)) 10000

-- the moment capacity, N·m
unfoldable pub bending_capacity : Section → ℕ
bending_capacity x = if compression_yields x then yielded_capacity x else couple_capacity x
