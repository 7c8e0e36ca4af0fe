-- Question 14: what a yes says.
use Prim.Native.Nat.{◌≤◌}
use mathlib.Core.Path.{◌≡◌}
use mathlib.Core.Bool.{true}
use borrow.Author.Tests.{leb-true}
use Rattle.member.specs.Member.{Beam}
use Rattle.service_moment.specs.ServiceMoment.{service_moment_fits}

pub within_design : (x : Beam) → service_moment_fits x ≡ true → x.Mq ≤ x.M
unfolding service_moment_fits
within_design x e = leb-true _ _ e
