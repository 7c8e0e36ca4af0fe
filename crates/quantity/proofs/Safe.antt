-- Laws of safe figures: how a rounding gives one, and what a verdict by it says of the exact fraction.
use Prim.Native.Nat.{ℕ, ◌+◌, ◌-◌, ◌*◌, ◌<◌, ◌≤◌}
use mathlib.Core.Bool.{Bool}
use native.Mathlib.Nat.{mul-pos, mul-le-mul_left, mul-le-mul_right, mul-lt-mul_of_pos_right}
use native.Mathlib.Omega.{arith}
use lib.Dec.{leb}
use Rattle.quantity.specs.Rounding.{up, down}
use Rattle.quantity.specs.Fraction.{Frac, ◌//◌, whole, Proper, ◌⊕◌, ◌⊖◌, ◌≼◌, ◌≺◌}
use Rattle.quantity.specs.Safe.{NotAbove, NotBelow}
use Rattle.quantity.proofs.Reflects.{Settles, settles_as, compared}
use Rattle.quantity.proofs.Rounding.{expand, up_above, up_below, down_below, down_above}
use Rattle.quantity.proofs.Fraction.{
  level,
  Same,
  same-≼,
  ≼-same,
  same-≺,
  ≺-same,
  same_sum,
  same_refl,
  ≼_trans,
  distance_below,
  below_distance,
  distance_sym,
}

-- ---- By the two bounds, and back.

pub not_above : {v : ℕ} {e a : Frac} → Proper a → whole v ≼ a → a ≺ whole v ⊕ e → NotAbove v e a
not_above {v} {e} {a} p u h =
    record { proper = p; safe = u; close = distance_below (whole v) a e (omega arith) p u h }

pub not_below : {v : ℕ} {e a : Frac} → Proper a → a ≼ whole v → whole v ≺ a ⊕ e → NotBelow v e a
not_below {v} {e} {a} p u h =
    record { proper = p; safe = u; close = rw (distance_sym (whole v) a) (distance_below a (whole v) e p (omega arith) u h) }

pub above_within : {v : ℕ} {e a : Frac} → NotAbove v e a → a ≺ whole v ⊕ e
above_within {v} {e} {a} n = below_distance (whole v) a e (omega arith) n.proper n.safe n.close

pub below_within : {v : ℕ} {e a : Frac} → NotBelow v e a → whole v ≺ a ⊕ e
below_within {v} {e} {a} n =
    below_distance a (whole v) e n.proper (omega arith) n.safe (rw (distance_sym (whole v) a) at n.close)

-- ---- One rounding, and the sum of two.

pub down_not_above : (n d : ℕ) → 0 < d → NotAbove (down n d) (whole 1) (n // d)
unfolding ◌⊕◌
down_not_above n d p = not_above p (omega (arith, down_below n d)) (omega (arith, down_above n p))

pub up_not_below : (n d : ℕ) → 0 < d → NotBelow (up n d) (whole 1) (n // d)
unfolding ◌⊕◌
up_not_below n d p = not_below p (omega (arith, up_above n p)) (omega (arith, up_below n p))

low_core : (n d a m s b : ℕ) → n * d ≤ a * 1 → m * s ≤ b * 1 → (n + m) * (d * s) ≤ (a * s + d * b) * 1
low_core n d a m s b u v = simp expand (omega (arith, simp expand at (mul-le-mul_right s u), simp expand at (mul-le-mul_left d v)))

high_core : (n k d a m l s b : ℕ) → 0 < s → a * (1 * 1) < (n * 1 + 1 * k) * d → b * (1 * 1) < (m * 1 + 1 * l) * s →
    (a * s + d * b) * (1 * 1) < ((n + m) * 1 + 1 * (k + l)) * (d * s)
high_core n k d a m l s b p u v =
    let w : b * (1 * 1) ≤ (m * 1 + 1 * l) * s = omega arith in
    simp expand (omega (arith, simp expand at (mul-lt-mul_of_pos_right u p), simp expand at (mul-le-mul_left d w)))

pub sum_not_above : {n k m l : ℕ} {a b : Frac} → NotAbove n (whole k) a → NotAbove m (whole l) b → NotAbove (n + m) (whole (k + l)) (a ⊕ b)
unfolding ◌⊕◌
sum_not_above {n} {k} {m} {l} {a} {b} u v =
    not_above (mul-pos u.proper v.proper)
    (low_core n a.den a.num m b.den b.num u.safe v.safe)
    (high_core n k a.den a.num m l b.den b.num v.proper (above_within u) (above_within v))

-- ---- Equality of fractions.

pub same_not_above : {v : ℕ} {e a b : Frac} → Proper e → Same a b → NotAbove v e a → NotAbove v e b
same_not_above {v} {e} p s n = not_above s.pos' (≼-same (whole v) s n.safe) (same-≺ (whole v ⊕ e) s (above_within n))

pub same_not_below : {v : ℕ} {e a b : Frac} → Proper e → Same a b → NotBelow v e a → NotBelow v e b
same_not_below {v} {e} p s n =
    not_below s.pos' (same-≼ (whole v) s n.safe) (≺-same (whole v) (same_sum s (same_refl e p)) (below_within n))

-- ---- A verdict by the figure: a pass is right of the exact fraction, and a failed one holds of it by less than e, if at all.

lack_core : (m k v d x y : ℕ) → v * k ≤ m * 1 → m * (1 * y) < (v * y + 1 * x) * k → v < d → (m * 1 - k * d) * y < x * (k * 1)
lack_core m k v d x y u h l =
    let t : v ≤ d = omega arith in
    simp level (omega (arith, simp level at h, simp level at (mul-le-mul_right y u), simp level at (mul-le-mul_right (y * k) t)))

excess_core : (m k v p q x y : ℕ) → 0 < q → m * 1 ≤ v * k → v * (k * y) < (m * y + k * x) * 1 → p * 1 < v * q →
    (p * k - q * m) * y < x * (q * k)
excess_core m k v p q x y pq u h l =
    let t : p ≤ v * q = omega arith in
    simp level (omega (
      arith,
      simp level at (mul-lt-mul_of_pos_right h pq),
      simp level at (mul-le-mul_right (y * q) u),
      simp level at (mul-le-mul_right (y * k) t),
    ))

module _ {v : ℕ} (d : ℕ) {e a : Frac} (n : NotAbove v e a) where
  capacity_pass : d ≤ v → whole d ≼ a
  capacity_pass h = omega (arith, n.safe, mul-le-mul_right a.den h)

  capacity_fail : v < d → a ⊖ whole d ≺ e
  unfolding ◌⊖◌ ◌⊕◌
  capacity_fail h = lack_core a.num a.den v d e.num e.den n.safe (above_within n) h

  pub capacity_settles : Settles (leb d v) (whole d ≼ a) (a ⊖ whole d ≺ e)
  capacity_settles = settles_as capacity_pass capacity_fail (compared d v)

module _ {v : ℕ} {e a : Frac} (l : Frac) (p : Proper l) (n : NotBelow v e a) where
  limit_pass : whole v ≼ l → a ≼ l
  limit_pass h = ≼_trans a (whole v) l (omega arith) n.safe h

  limit_fail : l ≺ whole v → l ⊖ a ≺ e
  unfolding ◌⊖◌ ◌⊕◌
  limit_fail h = excess_core a.num a.den v l.num l.den e.num e.den p n.safe (below_within n) h

  -- by any test that compares the figure with the limit
  pub limit_settles : {t : Bool} → Settles t (whole v ≼ l) (l ≺ whole v) → Settles t (a ≼ l) (l ⊖ a ≺ e)
  limit_settles = settles_as limit_pass limit_fail

-- a limit that is a whole number
pub length_settles : {v : ℕ} (g : ℕ) {e a : Frac} → NotBelow v e a → Settles (leb v g) (a ≼ whole g) (whole g ⊖ a ≺ e)
length_settles {v} g n = limit_settles (whole g) (omega arith) n (settles_as (λ h. omega arith) (λ h. omega arith) (compared v g))
