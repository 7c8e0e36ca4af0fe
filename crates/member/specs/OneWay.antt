-- A load lies within a distance in at most one way: what a field of a structure asks of the fact that it holds.
use Rattle.std.specs.Prelude.{ℕ}
use Rattle.std.specs.Coded.{Unit-prop, le_prop}
use Rattle.member.specs.declared.Load.{Load}
use Rattle.member.specs.declared.Load.TheVariants.{Uniform, Point}
use Rattle.member.specs.Accepted.{LoadWithin}

pub load_within_prop : (most : ℕ) (load : Load) → IsProp (LoadWithin most load)
load_within_prop most Uniform = Unit-prop
load_within_prop most (Point a) = le_prop
