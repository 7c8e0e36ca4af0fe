-- Laws of rounding, for any divisor.
use Prim.Native.Nat.{ℕ, ◌+◌, ◌-◌, ◌*◌, ◌/◌, ◌%◌, ◌<◌, ◌≤◌, min}
use mathlib.Core.Path.{◌≡◌}
use native.Mathlib.Nat.{mul-add, add-mul, mul_assoc, mul_comm, mul_left_comm, mul-pos, mul-le-mul_right, lt_of_mul-lt-mul_right, div-mul-le_self, lt-div-mul-add}
use native.Mathlib.Omega.{arith}
use Rattle.std.proofs.lemmas.Grind.{div_ceil_times}
use Rattle.quantity.specs.Rounding.{up, down}

-- Products written out: `simp expand (omega arith)` compares polynomials, with their monomials as unknowns.
pub ruleset expand = (mul-add, add-mul, mul_assoc, mul_comm, mul_left_comm)

-- ---- The two-sided bound of each rounding; all else follows from these.

pub up_above : (n : ℕ) {d : ℕ} → 0 < d → n ≤ up n d * d
unfolding up
up_above n {d} p = omega (arith, lt-div-mul-add {a = n + (d - 1)} p)

pub up_below : (n : ℕ) {d : ℕ} → 0 < d → up n d * d < n + d
unfolding up
up_below n {d} p = omega (arith, div-mul-le_self (n + (d - 1)) d)

pub down_below : (n d : ℕ) → down n d * d ≤ n
unfolding down
down_below n d = div-mul-le_self n d

pub down_above : (n : ℕ) {d : ℕ} → 0 < d → n < (down n d + 1) * d
unfolding down
down_above n {d} p = simp expand (omega (arith, lt-div-mul-add {a = n} p))

-- ---- A rounding against a limit: exactly as the fraction itself.

pub up_le : {n d k : ℕ} → 0 < d → n ≤ k * d → up n d ≤ k
up_le {n} {d} {k} p h =
    let t : up n d * d < (k + 1) * d = simp expand (omega (arith, up_below n p)) in
    omega (arith, lt_of_mul-lt-mul_right d t)

pub of_up_le : (n : ℕ) {d k : ℕ} → 0 < d → up n d ≤ k → n ≤ k * d
of_up_le n {d} p h = omega (arith, up_above n p, mul-le-mul_right d h)

pub le_down : {n d k : ℕ} → 0 < d → k * d ≤ n → k ≤ down n d
le_down {n} {d} {k} p h =
    omega (arith, lt_of_mul-lt-mul_right d {m = k} {n = down n d + 1} (omega (arith, down_above n p)))

pub down_le : {n d k : ℕ} → 0 < d → n ≤ k * d → down n d ≤ k
down_le {n} {d} {k} p h =
    let t : down n d * d < (k + 1) * d = simp expand (omega (arith, down_below n d)) in
    omega (arith, lt_of_mul-lt-mul_right d t)

-- ---- The two inequalities settle the value.

pub up_is : {n d u : ℕ} → 0 < d → n ≤ u * d → u * d < n + d → up n d ≡ u
up_is {n} {d} {u} p a b =
    let t : u * d < (up n d + 1) * d = simp expand (omega (arith, up_above n p)) in
    omega (arith, lt_of_mul-lt-mul_right d t, up_le p a)

pub down_is : {n d u : ℕ} → 0 < d → u * d ≤ n → n < (u + 1) * d → down n d ≡ u
down_is {n} {d} {u} p a b =
    let t : down n d * d < (u + 1) * d = omega (arith, down_below n d) in
    omega (arith, lt_of_mul-lt-mul_right d t, le_down p a)

-- `div_ceil` is the rounding up.
pub up_by_ceil : (n d : ℕ) → 0 < d → n / d + min 1 (n % d) ≡ up n d
up_by_ceil n d p =
    let b : (n ≤ (n / d + min 1 (n % d)) * d) × ((n / d + min 1 (n % d)) * d < n + d) = div_ceil_times n d p in
    omega (arith, up_is p b.0 b.1)

-- ---- A multiple of the divisor.

pub down_multiple : (d n : ℕ) → 0 < d → down (d * n) d ≡ n
down_multiple d n p = down_is p (simp (mul_comm d n) (omega arith)) (simp expand (omega arith))

-- ---- A factor of both numbers changes nothing.

pub up_common : (k n : ℕ) {d : ℕ} → 0 < k → 0 < d → up (k * n) (k * d) ≡ up n d
up_common k n {d} p q =
    let below : up n d * d + 1 ≤ n + d = omega (arith, up_below n q) in
    up_is (mul-pos p q) (simp expand (omega (arith, simp expand at (mul-le-mul_right k (up_above n q)))))
    (simp expand (omega (arith, simp expand at (mul-le-mul_right k below))))

-- ---- One rounding in another.

-- What is taken off a whole number before a rounding down may be rounded up first.
module _ (x y k n u w : ℕ) (le : u ≤ x) (above : y ≤ u * k) (below : u * k < y + k) where
  taken_low : w * n ≤ x - u → w * (k * n) ≤ x * k - y
  taken_low a =
      let t : w * n + u ≤ x = omega arith in
      simp expand (omega (arith, simp expand at (mul-le-mul_right k t), simp expand at above))

  taken_high : x - u < (w + 1) * n → x * k - y < (w + 1) * (k * n)
  taken_high a =
      let t : x + 1 ≤ (w + 1) * n + u = omega arith in
      simp expand (omega (arith, simp expand at (mul-le-mul_right k t), simp expand at below, simp expand at above, simp expand at (mul-le-mul_right k le)))

pub down_minus_up : (x y : ℕ) {k n : ℕ} → 0 < k → 0 < n → y ≤ x * k → down (x * k - y) (k * n) ≡ down (x - up y k) n
down_minus_up x y {k} {n} p q h =
    let u = up y k in
    let w = down (x - u) n in
    down_is (mul-pos p q)
    (taken_low x y k n u w (up_le p h) (up_above y p) (up_below y p) (down_below (x - u) n))
    (taken_high x y k n u w (up_le p h) (up_above y p) (up_below y p) (down_above (x - u) q))
