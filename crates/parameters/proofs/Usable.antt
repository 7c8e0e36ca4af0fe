-- The parameters of every listed grade and steel are usable; the pair of numbers that GB 6.2.7 comes to.
use Prim.Native.Nat.{ℕ, ◌+◌, ◌*◌, ◌/◌, ◌≤◌, ◌<◌}
use mathlib.Core.Path.{◌≡◌}
use mathlib.Core.Bool.{true}
use native.Mathlib.Nat.{one-mul, mul-one, mul-pos}
use native.Mathlib.Omega.{arith}
use lib.Dec.{leb}
use borrow.Author.Tests.{le-leb, lt-leb}
use Rattle.quantity.specs.Fraction.{Frac, ◌//◌, ◌⊕◌, ◌⊘◌}
use Rattle.quantity.specs.Unit.{in_units}
use Rattle.quantity.proofs.Choice.{if_case}
use Rattle.quantity.proofs.Product.{product_most}
use Rattle.table.specs.Table.{listed}
use Rattle.material.specs.declared.Steel.{Steel}
use Rattle.material.specs.Concrete.{concretes}
use Rattle.material.specs.Steel.{Es, steels, steel_of}
use Rattle.material.specs.Bounds.{UsableSteel}
use Rattle.material.proofs.Materials.{usable_steel, grade_between}
use Rattle.parameters.specs.Parameters.{stress_factor, web_factor, β₁, εcu, balanced_depth, depth_limit, parameters_of}
use Rattle.parameters.specs.Bounds.{UsableParameters}

balanced_pair : (grade : ℕ) (s : Steel) →
    balanced_depth grade s ≡ (β₁ grade * (2 * εcu grade)) // (100 * (2 * εcu grade + in_units s.fy))
unfolding balanced_depth ◌⊕◌ ◌⊘◌
balanced_pair grade s =
    let e : Es * εcu grade / 100000 ≡ 2 * εcu grade = omega arith in
    rw e (simp (one-mul, mul-one))

pub limit_to_c50 : (grade : ℕ) (s : Steel) → grade ≤ 50 → depth_limit grade s ≡ s.depthLimit // 100
unfolding depth_limit
limit_to_c50 grade s h = rw (le-leb _ _ h)

pub limit_above_c50 : (grade : ℕ) (s : Steel) → 50 < grade →
    depth_limit grade s ≡ (β₁ grade * (2 * εcu grade)) // (100 * (2 * εcu grade + in_units s.fy))
unfolding depth_limit
limit_above_c50 grade s h = rw (lt-leb _ _ h) (balanced_pair grade s)

-- above 0 and below 1, with a denominator that leaves room
Within : Frac → Type 0
Within a = (1 ≤ a.num) × (a.num < a.den) × (a.den ≤ 100000000)

balanced_core : (b e f : ℕ) → (1 ≤ b) × (b ≤ 80) × (1 ≤ e) × (e ≤ 330) × (f ≤ 600) → Within ((b * (2 * e)) // (100 * (2 * e + f)))
unfolding Within
balanced_core b e f h =
    let most = product_most b (2 * e) 80 (2 * e) (omega arith) in
    (mul-pos (omega arith) (omega arith), omega arith, omega arith)

balanced_within : (grade : ℕ) (s : Steel) → grade ≤ 100 → UsableSteel s → Within (balanced_depth grade s)
unfolding β₁ εcu
balanced_within grade s h u = rw (balanced_pair grade s) (balanced_core (β₁ grade) (εcu grade) (in_units s.fy) (omega (arith, u.fy)))

limit_within : (grade : ℕ) (s : Steel) → grade ≤ 100 → UsableSteel s → Within (depth_limit grade s)
unfolding depth_limit Within
limit_within grade s h u =
    if_case Within (leb grade 50) _ _ (λ _. (u.depth_least, omega (arith, u.depth_most), omega arith)) (λ _. balanced_within grade s h u)

pub usable_parameters : (grade code : ℕ) → listed grade concretes ≡ true → listed code steels ≡ true →
    UsableParameters (parameters_of grade (steel_of code))
unfolding parameters_of stress_factor web_factor Within
usable_parameters grade code e d =
    let h = (grade_between grade e).1 in
    let w = limit_within grade (steel_of code) h (usable_steel code d) in
    record {
      stress_least = omega arith;
      stress_most = omega arith;
      web_least = omega arith;
      web_most = omega arith;
      depth_least = w.0;
      depth_below = w.1;
      depth_room = w.2;
    }
