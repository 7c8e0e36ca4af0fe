-- Each test of bending reflects its exact inequality.
use Prim.Native.Nat.{◌+◌, ◌*◌, ◌≤◌}
use mathlib.Core.Path.{◌≡◌, refl, sym, ◌∙◌}
use mathlib.Core.Bool.{Bool, true, false, ◌||◌}
use native.Mathlib.Nat.{mul-zero, zero-mul}
use native.Mathlib.Omega.{arith}
use lib.Dec.{leb}
use borrow.Author.Tests.{leb-true, le-leb, eqb-true}
use Rattle.quantity.proofs.Reflects.{Reflects, reflects_le, reflects_both}
use Rattle.section.specs.declared.Section.{Section}
use Rattle.section.specs.Section.{h₀, a', S', ξb}
use Rattle.section.specs.Bounded.{Bounded}
use Rattle.bending.specs.Steps.{least_steel, tension_force, compression_force, k, compression_depth, compression_yields}
use Rattle.bending.specs.Exact.{LeastSteelHolds, DepthHolds}
use Rattle.bending.proofs.Forces.{at_most_same, tension_over, limit_over}

pub least_steel_reflects : (x : Section) → Reflects (least_steel x) (LeastSteelHolds x)
unfolding least_steel
least_steel_reflects x = reflects_both (reflects_le _ _) (reflects_le _ _)

-- 4.2.2-3 in whole numbers, and over fractions.
pub depth_compared : (x : Section) → compression_depth x ≡ true →
    100 * (ξb x).den * tension_force x ≤ (ξb x).num * h₀ x * k x + 100 * (ξb x).den * compression_force x
unfolding compression_depth
depth_compared x e = leb-true _ _ e

pub depth_reflects : {x : Section} → Bounded x → Reflects (compression_depth x) (DepthHolds x)
unfolding compression_depth
depth_reflects {x} p =
    rw (← at_most_same (100 * (ξb x).den * tension_force x) ((ξb x).num * h₀ x * k x + 100 * (ξb x).den * compression_force x) (1000 * (ξb x).den)
    (tension_over p (ξb x).den (omega (arith, p.parameters)))
    (limit_over p))
    (reflects_le _ _)

-- Without compression steel a' is 0, and the comparison alone decides between 4.2.2 and 4.2.3.
or_same : (p q : Bool) → (p ≡ true → q ≡ true) → p || q ≡ q
or_same true q f = sym (f refl)
or_same false q f = refl

pub yields_compared : {x : Section} → Bounded x → compression_yields x ≡ leb (100 * compression_force x + 2 * a' x * k x) (100 * tension_force x)
unfolding compression_yields
yields_compared {x} p = or_same _ _ (λ h. le-leb _ _ (reached (eqb-true (S' x) 0 h)))
  where
    reached : S' x ≡ 0 → 100 * compression_force x + 2 * a' x * k x ≤ 100 * tension_force x
    reached h = rw (h, p.no_compression h) (simp (mul-zero, zero-mul) (omega arith))

-- In 4.2.2 t is not below 0.
pub yields_tension : {x : Section} → Bounded x → compression_yields x ≡ true → compression_force x ≤ tension_force x
yields_tension {x} p h = omega (arith, leb-true (100 * compression_force x + 2 * a' x * k x) (100 * tension_force x) (sym (yields_compared p) ∙ h))
