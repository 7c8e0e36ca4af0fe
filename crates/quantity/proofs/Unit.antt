-- A stress that is whole N/mm², or whole tenths of one, as a fraction of N/mm².
use Prim.Native.Nat.{◌*◌}
use mathlib.Core.Path.{◌≡◌}
use native.Mathlib.Omega.{arith}
use Rattle.quantity.specs.declared.Stress.{Stress}
use Rattle.quantity.specs.Fraction.{◌//◌, whole}
use Rattle.quantity.specs.Unit.{in_units, in_tenths, exact_stress}
use Rattle.quantity.proofs.Fraction.{Same}

pub exact_units : (s : Stress) → s.0 ≡ 100 * in_units s → Same (exact_stress s) (whole (in_units s))
unfolding exact_stress
exact_units s e = record { pos = omega arith; pos' = omega arith; same = omega arith }

pub exact_tenths : (s : Stress) → s.0 ≡ 10 * in_tenths s → Same (exact_stress s) (in_tenths s // 10)
unfolding exact_stress
exact_tenths s e = record { pos = omega arith; pos' = omega arith; same = omega arith }
