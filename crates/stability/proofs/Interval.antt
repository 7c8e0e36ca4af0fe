-- The stability factor: the interval of l0/b, and what the table gives there.
use Prim.Native.Nat.{ℕ, zero, suc, ◌+◌, ◌-◌, ◌*◌, ◌≤◌, ◌<◌, min, max}
use mathlib.Core.Path.{◌≡◌}
use native.Mathlib.Nat.{mul-le-mul, mul-le-mul_right, lt_of_mul-lt-mul_right}
use native.Mathlib.Decide.{dec_le}
use native.Mathlib.Omega.{arith}
use lib.Dec.{ltb}
use borrow.Author.Tests.{ltb-true, ltb-false}
use Rattle.quantity.specs.Rounding.{down}
use Rattle.quantity.proofs.Choice.{if_case}
use Rattle.quantity.proofs.Rounding.{expand, down_below, down_above, le_down}
use Rattle.code_tables.specs.Slenderness.{point}
use Rattle.code_tables.proofs.Slenderness.{point_falls}
use Rattle.stability.specs.Steps.{interval}
use Rattle.stability.specs.Exact.{interval_from}

-- l0/b lies on the interval i of the table
pub record Inside (l b i : ℕ) : Type 0 where
  pub last : i ≤ 20
  pub low : (8 + 2 * i) * b ≤ l
  pub high : l - (8 + 2 * i) * b ≤ 2 * b

inside_core : (l b d i : ℕ) → i ≡ min 20 d → d * (2 * b) ≤ l - 8 * b → l - 8 * b < (d + 1) * (2 * b) → 8 * b ≤ l → l ≤ 50 * b →
    ((8 + 2 * i) * b ≤ l) × (l ≤ (8 + 2 * i) * b + 2 * b)
inside_core l b d i e u v w x = go (dec_le 20 d)
  where
    go : Dec (20 ≤ d) → ((8 + 2 * i) * b ≤ l) × (l ≤ (8 + 2 * i) * b + 2 * b)
    go (yes h) =
        let i20 : i ≡ 20 = omega arith in
        rw i20 (omega (arith, simp expand at u, simp expand at (mul-le-mul_right b h)))
    go (no h) =
        let id : i ≡ d = omega arith in
        rw id (simp expand (omega (arith, simp expand at u, simp expand at v)))

pub inside : (l b i : ℕ) → i ≡ interval l b → 0 < b → 8 * b ≤ l → l ≤ 50 * b → Inside l b i
unfolding interval
inside l b i e p u v =
    let f = inside_core l b (down (l - 8 * b) (2 * b)) i e (down_below (l - 8 * b) (2 * b)) (down_above (l - 8 * b) (omega arith)) u v in
    record { last = omega arith; low = f.0; high = omega arith }

-- the table falls there; what is taken off is no more than what there is
pub record Falling (p q l b i : ℕ) : Type 0 where
  pub falls : q ≤ p
  pub off : (p - q) * (l - (8 + 2 * i) * b) ≤ p * (2 * b)

pub falling : (p q l b i : ℕ) → p ≡ point i → q ≡ point (i + 1) → Inside l b i → Falling p q l b i
falling p q l b i e f n =
    let t = point_falls i (omega arith) in
    record { falls = omega arith; off = mul-le-mul (omega arith) n.high }

-- The interval found by going through the table is the one found by dividing.

first_core : (l b i : ℕ) → 0 < b → l < (10 + 2 * i) * b → down (l - 8 * b) (2 * b) ≤ i
first_core l b i p h =
    let d = down (l - 8 * b) (2 * b) in
    let t : d * (2 * b) < (i + 1) * (2 * b) =
    simp expand (omega (arith, simp expand at (down_below (l - 8 * b) (2 * b)), simp expand at h)) in
    omega (arith, lt_of_mul-lt-mul_right (2 * b) t)

next_core : (l b i : ℕ) → 0 < b → (10 + 2 * i) * b ≤ l → suc i ≤ down (l - 8 * b) (2 * b)
next_core l b i p h = le_down (omega arith) (simp expand (omega (arith, simp expand at h)))

from : (n i l b : ℕ) → 0 < b → interval_from n i l b ≡ min (i + n) (max i (down (l - 8 * b) (2 * b)))
from zero i l b p = omega arith
from (suc n) i l b p =
    if_case (λ (k : ℕ). k ≡ min (i + suc n) (max i (down (l - 8 * b) (2 * b)))) (ltb l ((10 + 2 * i) * b)) i (interval_from n (suc i) l b)
    (λ t. omega (arith, first_core l b i p (ltb-true _ _ t)))
    (λ t. omega (arith, from n (suc i) l b p, next_core l b i p (ltb-false _ _ t)))

pub interval_found : (l b : ℕ) → 0 < b → interval_from 20 0 l b ≡ interval l b
unfolding interval
interval_found l b p = omega (arith, from 20 0 l b p)
