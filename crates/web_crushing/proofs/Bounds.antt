-- How large the parts of the step are in a section within its bounds.
use Prim.Native.Nat.{◌*◌, ◌≤◌}
use native.Mathlib.Nat.{mul-le-mul}
use native.Mathlib.Omega.{arith}
use Rattle.quantity.specs.Rounding.{clamp}
use Rattle.section.specs.declared.Section.{Section}
use Rattle.section.specs.Section.{h₀, fc, βc}
use Rattle.section.specs.Bounded.{Bounded}
use Rattle.web_crushing.specs.Steps.{scaled_width}

pub record Sizes (x : Section) : Type 0 where
  pub factored_width : scaled_width x * βc x ≤ 300000
  pub force_per_mm : scaled_width x * βc x * fc x ≤ 120000000
  pub force : scaled_width x * βc x * fc x * h₀ x ≤ 240000000000

width_most_lem : (x : Section) → Bounded x → scaled_width x ≤ 10000
unfolding clamp
width_most_lem x p = omega (arith, p.b_most)

pub sizes : {x : Section} → Bounded x → Sizes x
sizes {x} p =
    let factored = mul-le-mul (width_most_lem x p) p.parameters.web_most in
    let per-mm = mul-le-mul factored p.concrete.fc_most in
    record { factored_width = factored; force_per_mm = per-mm; force = mul-le-mul per-mm p.h₀_most }
