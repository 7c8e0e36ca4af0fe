-- How large the parts of the steps are in a section within its bounds.
use Prim.Native.Nat.{◌-◌, ◌*◌, ◌≤◌}
use native.Mathlib.Nat.{mul-le-mul, mul-pos}
use native.Mathlib.Omega.{arith}
use Rattle.quantity.proofs.Product.{product_most}
use Rattle.section.specs.declared.Section.{Section}
use Rattle.section.specs.Section.{h₀, a', G, S, fc, ft, fy, α₁, ξb}
use Rattle.section.specs.Bounded.{Bounded}
use Rattle.bending.specs.Steps.{tension_force, compression_force, k}

pub record Sizes (x : Section) : Type 0 where
  -- 6.3.1
  pub concrete : 45 * ft x * G x ≤ 90000000000
  pub steel : 1000 * S x * fy x ≤ 480000000000
  -- the forces
  pub tension : tension_force x ≤ 480000000
  pub compression : compression_force x ≤ 480000000
  pub block_stress : α₁ x * fc x ≤ 40000
  pub block_least : 1 ≤ k x
  pub block_most : k x ≤ 40000000
  -- 4.2.2-3, 4.2.2, 4.2.3
  pub depth : (ξb x).num * h₀ x ≤ 200000000000
  pub limit : (ξb x).num * h₀ x * k x ≤ 8000000000000000000
  pub scaled_tension : 100 * (ξb x).den * tension_force x ≤ 4800000000000000000
  pub scaled_compression : 100 * (ξb x).den * compression_force x ≤ 4800000000000000000
  pub reach : 2 * a' x * k x ≤ 160000000000
  pub couple : tension_force x * (h₀ x - a' x) ≤ 960000000000

pub sizes : {x : Section} → Bounded x → Sizes x
sizes {x} p =
    let tension = mul-le-mul p.steel.fy.most p.S_most in
    let compression = mul-le-mul p.steel.fyc.most p.S'-most in
    let stress = mul-le-mul p.parameters.stress_most p.concrete.fc_most in
    let block-force = mul-le-mul stress p.b_most in
    let depth = product_most (ξb x).num (h₀ x) 100000000 2000 (omega (arith, p.parameters)) in
    record {
      concrete = product_most (45 * ft x) (G x) 18000 5000000 (omega (arith, p.concrete));
      steel = product_most (1000 * S x) (fy x) 800000000 600 (omega (arith, p.steel.fy));
      tension = tension;
      compression = compression;
      block_stress = stress;
      block_least = mul-pos (mul-pos p.parameters.stress_least p.concrete.fc_least) (omega arith);
      block_most = block-force;
      depth = depth;
      limit = mul-le-mul depth block-force;
      scaled_tension = product_most (100 * (ξb x).den) (tension_force x) 10000000000 480000000 (omega (arith, p.parameters));
      scaled_compression = product_most (100 * (ξb x).den) (compression_force x) 10000000000 480000000 (omega (arith, p.parameters));
      reach = product_most (2 * a' x) (k x) 4000 40000000 (omega arith);
      couple = product_most (tension_force x) (h₀ x - a' x) 480000000 2000 (omega arith);
    }
