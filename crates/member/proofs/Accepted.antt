-- What follows of an accepted beam's depth, and of its load.
use Prim.Native.Nat.{ℕ, ◌≤◌}
use native.Mathlib.Omega.{arith}
use Rattle.member.specs.declared.Load.{Load}
use Rattle.member.specs.declared.Load.TheVariants.{Uniform, Point}
use Rattle.member.specs.Member.{Beam, h₀}
use Rattle.member.specs.Accepted.{AcceptedBeam, LoadWithin}

-- the tension steel lies in the lower half
pub depth_least : (x : Beam) → AcceptedBeam x → 20 ≤ h₀ x
depth_least x a = omega (arith, a.aₛ_least, a.faces)

pub load_within_more : (load : Load) (n m : ℕ) → LoadWithin n load → n ≤ m → LoadWithin m load
load_within_more Uniform n m w h = tt
load_within_more (Point a) n m w h = omega arith
