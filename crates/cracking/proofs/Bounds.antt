-- Sizes of the steps of cracking on plain numbers.
use Prim.Native.Nat.{ℕ, ◌*◌, ◌≤◌}
use native.Mathlib.Omega.{arith}
use Rattle.cracking.specs.Bounds.{spacing_most}
use Rattle.cracking.specs.Steps.{mean_stress, crack_spacing}
use Rattle.cracking.proofs.Rounded.{near_spacing}

pub mean_most : (σ g : ℕ) → mean_stress σ g ≤ σ
unfolding mean_stress
mean_most σ g = omega arith

pub spacing_most_lem : (c E W D S : ℕ) → 1 ≤ D → 1 ≤ S → W ≤ 100 * S → E ≤ 50 * D → crack_spacing c E W D S ≤ spacing_most
spacing_most_lem c E W D S p q v w = (near_spacing c E W D S p q v w).most
