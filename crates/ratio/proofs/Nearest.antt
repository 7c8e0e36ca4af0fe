-- A utilization is the nearest double, and decides its check; one that was reached is finite and not negative.
use Prim.Native.Nat.{ℕ, ◌^◌, ◌<◌}
use mathlib.Core.Path.{◌≡◌, refl}
use mathlib.Core.Bool.{Bool, true, false, false≢true}
use native.Mathlib.Omega.{arith}
use lib.Dec.{T, leb, eqb}
use lib.Ieee.{Float}
use borrow.Author.Tests.{eqb-false}
use Rattle.std.specs.Prelude.{if◌then◌else◌, None, Some}
use Rattle.quantity.proofs.Choice.{if_case}
use Rattle.outcome.specs.Outcome.{Figure}
use Rattle.outcome.specs.Safe.{WhereReached}
use Rattle.ratio.specs.Ratio.{Ratio, quotient, nearest, no_ratio, ratio, over_figure, over_limit, ExactFigure, Decides, finite_nonneg}
use Rattle.ratio.proofs.Division.{quotient_nearest, at_most_one, nearest_nonneg}

-- a figure, where it was reached, is n
abbrev pub Is : ℕ → Figure → Type 0
Is n (Some v) = v ≡ n
Is n None = Unit {0}

some : (b : ℕ) → eqb b 0 ≡ false → 0 < b
some b e = let n = eqb-false b 0 e in omega arith

ratio_nearest : (a b : ℕ) → a < 2 ^ 53 → b < 2 ^ 53 → ratio quotient a b ≡ ratio nearest a b
unfolding ratio
ratio_nearest a b h k = go (eqb b 0) refl
  where
    go : (t : Bool) → eqb b 0 ≡ t →
        (if t then no_ratio else record { value = quotient a b; reached = true }) ≡ (if t then no_ratio else record { value = nearest a b; reached = true })
    go true e = refl
    go false e = rw (quotient_nearest a b h (some b e) k)

ratio_decides : (a b : ℕ) → b < 2 ^ 53 → Decides (ratio nearest a b).reached (ratio nearest a b).value (leb a b)
unfolding ratio
ratio_decides a b k =
    if_case (λ (r : Ratio). Decides r.reached r.value (leb a b)) (eqb b 0) no_ratio (record { value = nearest a b; reached = true })
    (λ _ r. absurd (false≢true r)) (λ e r. at_most_one a b (some b e) k)

pub figure_nearest : (a : ℕ) (f : Figure) → a < 2 ^ 53 → ExactFigure f → over_figure quotient a f ≡ over_figure nearest a f
unfolding over_figure
figure_nearest a (Some v) h k = ratio_nearest a v h k
figure_nearest a None h k = refl

pub limit_nearest : (f : Figure) (b : ℕ) → ExactFigure f → b < 2 ^ 53 → over_limit quotient f b ≡ over_limit nearest f b
unfolding over_limit
limit_nearest (Some v) b h k = ratio_nearest v b h k
limit_nearest None b h k = refl

pub figure_decides : (a n : ℕ) (f : Figure) → ExactFigure f → Is n f → Decides (over_figure nearest a f).reached (over_figure nearest a f).value (leb a n)
unfolding over_figure
figure_decides a n (Some v) h e = rw (← e) (ratio_decides a v h)
figure_decides a n None h e = λ r. absurd (false≢true r)

pub limit_decides : (f : Figure) (n b : ℕ) → Is n f → b < 2 ^ 53 → Decides (over_limit nearest f b).reached (over_limit nearest f b).value (leb n b)
unfolding over_limit
limit_decides (Some v) n b e k = rw (← e) (ratio_decides v b k)
limit_decides None n b e k = λ r. absurd (false≢true r)

-- a utilization over a figure was reached only where the figure was
pub figure_where_reached : (over : ℕ → ℕ → Float) (a : ℕ) (f : Figure) {P : Type 0} → WhereReached f P → (over_figure over a f).reached ≡ true → P
unfolding over_figure
figure_where_reached over a (Some v) h r = h
figure_where_reached over a None h r = absurd (false≢true r)

-- ---- Finite and not negative.

-- where it was reached
abbrev FairRatio : Ratio → Type 0
FairRatio r = r.reached ≡ true → T (finite_nonneg r.value)

pub no_ratio_nonneg : FairRatio no_ratio
no_ratio_nonneg e = absurd (false≢true e)

ratio_nonneg : (a b : ℕ) → a < 2 ^ 53 → FairRatio (ratio nearest a b)
unfolding ratio
ratio_nonneg a b h =
    if_case FairRatio (eqb b 0) no_ratio (record { value = nearest a b; reached = true }) (λ _. no_ratio_nonneg) (λ e _. nearest_nonneg a b h (some b e))

pub figure_nonneg : (a : ℕ) (f : Figure) → a < 2 ^ 53 → FairRatio (over_figure nearest a f)
unfolding over_figure
figure_nonneg a (Some v) h = ratio_nonneg a v h
figure_nonneg a None h = no_ratio_nonneg

pub limit_nonneg : (f : Figure) (b : ℕ) → ExactFigure f → FairRatio (over_limit nearest f b)
unfolding over_limit
limit_nonneg (Some v) b h = ratio_nonneg v b h
limit_nonneg None b h = no_ratio_nonneg
