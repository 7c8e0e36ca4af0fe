-- The clauses of bending without rounding: 6.3.1, 4.2.2-3, 4.2.2 and 4.2.3.
-- Forces in N, lengths in mm, stresses in N/mm², moments in N·m.
use Rattle.std.specs.Prelude.{◌-◌, ◌*◌, ◌≤◌, Bool, ◌||◌, leb, eqb, if◌then◌else◌}
use Rattle.quantity.specs.Fraction.{Frac, ◌//◌, whole, ◌⊕◌, ◌⊖◌, ◌⊗◌, ◌⊘◌, ◌≼◌}
use Rattle.quantity.specs.Unit.{exact_stress}
use Rattle.section.specs.declared.Section.{Section}
use Rattle.section.specs.Section.{b, h₀, a', G, S, S', M, ft, fy, α₁, ξb}

-- T = fy·As and C = fy'·As', As = S/10 and As' = S'/10
unfoldable pub T : Section → Frac
T x = exact_stress x.steel.fy ⊗ (S x // 10)

unfoldable pub C : Section → Frac
C x = exact_stress x.steel.fyc ⊗ (S' x // 10)

-- K = α1·fc·b, for each mm of the compression zone's depth
unfoldable pub K : Section → Frac
K x = α₁ x // 100 ⊗ exact_stress x.concrete.fc ⊗ whole (b x)

-- p ≤ q as a test
abbrev pub at_most : Frac → Frac → Bool
at_most p q = leb (p.num * q.den) (q.num * p.den)

-- the compression steel yields: 4.2.2 where S' = 0 or T - C ≥ 2·a'·K, else 4.2.3
unfoldable pub yields : Section → Bool
yields x = eqb (S' x) 0 || at_most (C x ⊕ whole (2 * a' x) ⊗ K x) (T x)

-- 4.2.2: ((T - C)·h0 + C·(h0 - a') - (T - C)²/(2·K))/1000; T is not below C there
unfoldable pub yielded_moment : Section → Frac
yielded_moment x =
    let t = T x ⊖ C x in
    (t ⊗ whole (h₀ x) ⊕ C x ⊗ whole (h₀ x - a' x) ⊖ t ⊗ t ⊘ (whole 2 ⊗ K x)) ⊘ whole 1000

-- 4.2.3: T·(h0 - a')/1000
unfoldable pub couple_moment : Section → Frac
couple_moment x = T x ⊗ whole (h₀ x - a' x) ⊘ whole 1000

unfoldable pub exact_moment : Section → Frac
exact_moment x = if yields x then yielded_moment x else couple_moment x

-- The exact inequalities.

-- 6.3.1, with document 01's own numbers: 50·S ≥ G and 1000·S·fy ≥ 45·ft·G
abbrev pub LeastSteelHolds : Section → Type 0
LeastSteelHolds x = (G x ≤ 50 * S x) × (45 * ft x * G x ≤ 1000 * S x * fy x)

-- 4.2.2-3: T - C ≤ ξb·h0·K; T may be below C, so C stands on the other side
abbrev pub DepthHolds : Section → Type 0
DepthHolds x = T x ≼ ξb x ⊗ whole (h₀ x) ⊗ K x ⊕ C x

-- 4.2.2 or 4.2.3: the moment is not above the exact capacity
abbrev pub BendingHolds : Section → Type 0
BendingHolds x = whole (M x) ≼ exact_moment x
