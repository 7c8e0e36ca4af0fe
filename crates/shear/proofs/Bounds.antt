-- How large the parts of the steps are in a section within its bounds.
use Prim.Native.Nat.{◌*◌, ◌≤◌}
use native.Mathlib.Nat.{mul-le-mul, mul-le-mul_left, mul-le-mul_right}
use native.Mathlib.Omega.{arith}
use Rattle.quantity.specs.declared.Length.{Length}
use Rattle.quantity.specs.Rounding.{clamp}
use Rattle.quantity.proofs.Rounding.{down_le}
use Rattle.member.specs.declared.Load.{Load}
use Rattle.member.specs.declared.Load.TheVariants.{Uniform, Point}
use Rattle.section.specs.declared.Section.{Section}
use Rattle.section.specs.Section.{b, h₀, s, L, ft, fyv}
use Rattle.section.specs.Bounded.{Bounded}
use Rattle.shear.specs.Steps.{concrete_part, clamped_ratio, concrete_under, concrete_shear, link_shear, shear_capacity}

pub record Sizes (x : Section) : Type 0 where
  -- 0.7·ft·b·h0, and its factors from the left
  pub strip : 7 * ft x * b x ≤ 2800000
  pub concrete : concrete_part x ≤ 5600000000
  -- 1.75·ft·b·h0 in parts of 10000, its factors from the left, and times 2·h0
  pub point_strip : 175 * ft x * b x ≤ 70000000
  pub point : 175 * ft x * b x * h₀ x ≤ 140000000000
  pub point_doubled : 175 * ft x * b x * h₀ x * (2 * h₀ x) ≤ 560000000000000
  -- the links' force, and times h0
  pub force : fyv x * L x ≤ 6000000
  pub links : fyv x * L x * h₀ x ≤ 12000000000
  -- 5.5.6r
  pub band : 24 * ft x * b x ≤ 9600000
  pub least : 24 * ft x * b x * s x ≤ 3840000000
  pub given : 1000 * L x * fyv x ≤ 6000000000

pub sizes : {x : Section} → Bounded x → Sizes x
sizes {x} p =
    let strip = mul-le-mul (mul-le-mul_left 7 p.concrete.ft_most) p.b_most in
    let point_strip = mul-le-mul (mul-le-mul_left 175 p.concrete.ft_most) p.b_most in
    let point = mul-le-mul point_strip p.h₀_most in
    let band = mul-le-mul (mul-le-mul_left 24 p.concrete.ft_most) p.b_most in
    let force = mul-le-mul p.fyv.most p.L_most in
    record {
      strip = strip;
      concrete = mul-le-mul strip p.h₀_most;
      point_strip = point_strip;
      point = point;
      point_doubled = mul-le-mul point (mul-le-mul_left 2 p.h₀_most);
      force = force;
      links = mul-le-mul force p.h₀_most;
      band = band;
      least = mul-le-mul band p.s_most;
      given = mul-le-mul (mul-le-mul_left 1000 p.L_most) p.fyv.most;
    }

-- the shear span ratio is held
pub ratio_clamped : (x : Section) (a : Length) → (3 * h₀ x ≤ clamped_ratio x a) × (clamped_ratio x a ≤ 6 * h₀ x)
unfolding clamp
ratio_clamped x a = omega arith

module _ {x : Section} (p : Bounded x) where
  -- under either load: a point load's ratio is at least 1.5
  concrete_under_lem : (load : Load) → concrete_under load x ≤ 5600000
  concrete_under_lem Uniform = down_le (omega arith) (sizes p).concrete
  concrete_under_lem (Point a) = down_le (omega (arith, ratio_clamped x a, p)) (omega (arith, mul-le-mul_right (2 * h₀ x) (sizes p).point, ratio_clamped x a))

  pub concrete_most : concrete_shear x ≤ 5600000
  unfolding concrete_shear
  concrete_most = concrete_under_lem x.load

  pub links_most : link_shear x ≤ 24000000
  unfolding link_shear
  links_most = down_le (omega arith) (omega (arith, sizes p))

  -- A shear capacity has at most eight digits.
  pub capacity_most : shear_capacity x ≤ 29600000
  unfolding shear_capacity
  capacity_most = omega (arith, concrete_most, links_most)
