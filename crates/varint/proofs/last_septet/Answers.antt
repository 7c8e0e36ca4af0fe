-- `varint::last_septet` meets its contract.
use Prim.Native.Nat.{◌≤◌, ◌<◌}
use borrow.Author.Tests.{ne_eqb, lt-ltb, le-ltb}
use native.Mathlib.Omega.{arith}
use Rattle.varint.specs.Varint.{last_septet}
use Rattle.varint.proofs.last_septet.Goals as goal

pub returns-then-b-eq0 : goal.returns-then-b-eq0
unfolding last_septet
returns-then-b-eq0 c =
    let z : c.args.b ≤ 0 = omega arith in
    simp (le-ltb _ _ z, ne_eqb c.args.w 1 (λ e. omega (arith, c.requires.0)))

pub returns-then-value-lt4294967296 : goal.returns-then-value-lt4294967296
unfolding last_septet
returns-then-value-lt4294967296 c =
    let z : 0 < c.args.b = omega arith in
    simp (lt-ltb _ _ z, lt-ltb _ _ c.if-value-lt4294967296.true)

pub returns-else-value-lt4294967296 : goal.returns-else-value-lt4294967296
unfolding last_septet
returns-else-value-lt4294967296 c =
    let z : 0 < c.args.b = omega arith in
    simp (lt-ltb _ _ z, le-ltb _ _ c.if-value-lt4294967296.false)
