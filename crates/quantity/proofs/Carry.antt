-- Saturating subtraction by the carry of m + a - b: its quotient by m, which is 1 or 0, times its remainder.
use Prim.Native.Nat.{ℕ, ◌+◌, ◌-◌, ◌*◌, ◌/◌, ◌%◌, ◌<◌, ◌≤◌}
use mathlib.Core.Path.{◌≡◌}
use native.Mathlib.Nat.{add-div_left, add-mod_left, div-eq_of_lt, mod-eq_of_lt}
use native.Mathlib.Decide.{dec_le}
use native.Mathlib.Omega.{arith}

pub carried : (m a b : ℕ) → a < m → b < m → (m + a - b) / m * ((m + a - b) % m) ≡ a - b
carried m a b p q = go (dec_le b a)
  where
    go : Dec (b ≤ a) → (m + a - b) / m * ((m + a - b) % m) ≡ a - b
    go (yes h) =
        let e : m + a - b ≡ m + (a - b) = omega arith in
        let r : a - b < m = omega arith in
        rw (e, add-div_left (a - b) {k = m} (omega arith), add-mod_left m (a - b), div-eq_of_lt r, mod-eq_of_lt r) (omega arith)
    go (no h) = rw (div-eq_of_lt {n = m + a - b} {m = m} (omega arith)) (omega arith)
