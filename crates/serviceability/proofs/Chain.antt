-- The width held against its limit: which way the chain goes. No proof cites these; the check finds both ways by itself.
use Prim.Native.Nat.{ℕ, ◌≤◌, ◌<◌}
use mathlib.Core.Path.{◌≡◌}
use borrow.Author.Tests.{le-leb, lt-leb}
use Rattle.outcome.specs.declared.Check.TheVariants.{CrackWidth}
use Rattle.outcome.specs.declared.Outcome.{Outcome}
use Rattle.outcome.specs.Outcome.{three_figures}
use Rattle.section.specs.declared.Section.{Section}
use Rattle.cracking.specs.Steps.{crack_width, width_limit}
use Rattle.serviceability.specs.Checks.{from_deflection, from_width}

module _ (x : Section) (m v w l : ℕ) (o : Outcome) (p : w ≡ crack_width x) (q : l ≡ width_limit x.environment) where
  pub width_holds : w ≤ l → o ≡ from_deflection x m v w → o ≡ from_width x m v
  unfolding from_width
  width_holds h e = rw (← p, ← q, le-leb w l h) e

  pub width_fails : l < w → o ≡ three_figures CrackWidth m v w → o ≡ from_width x m v
  unfolding from_width
  width_fails h e = rw (← p, ← q, lt-leb w l h) e
