-- Laws of fractions: equality (`Same`) and order by cross-multiplying, respected by each operation; the distance of two.
use Prim.Native.Nat.{ℕ, ◌+◌, ◌-◌, ◌*◌, ◌<◌, ◌≤◌, min, max}
use mathlib.Core.Path.{◌≡◌, refl, sym, ap, ◌∙◌}
use native.Mathlib.Nat.{mul-add, add-mul, mul_assoc, mul_comm, mul_left_comm, mul-sub, mul-pos, mul-le-mul_left, mul-le-mul_right, mul-mul-mul_comm, eq_of_mul-eq-mul_right, le_of_mul-le-mul_left, le_of_mul-le-mul_right, lt_of_mul-lt-mul_right, mul-lt-mul_of_pos_right, min-eq_left, min-eq_right, max-eq_left, max-eq_right}
use native.Mathlib.Decide.{dec_le}
use native.Mathlib.Omega.{arith}
use Rattle.quantity.specs.Fraction.{Frac, ◌//◌, whole, Proper, ◌⊕◌, ◌⊖◌, ◌⊗◌, ◌⊘◌, smaller, larger, ◌≼◌, ◌≺◌, distance}
use Rattle.quantity.proofs.Rounding.{expand}

-- ---- A product goes into a difference, a smaller and a larger of two.

pub sub_mul : (m n k : ℕ) → (m - n) * k ≡ m * k - n * k
sub_mul m n k = simp (mul_comm, mul-sub)

mul_both : (k m n : ℕ) → (k * min m n ≡ min (k * m) (k * n)) × (k * max m n ≡ max (k * m) (k * n))
mul_both k m n = go (dec_le m n)
  where
    go : Dec (m ≤ n) → (k * min m n ≡ min (k * m) (k * n)) × (k * max m n ≡ max (k * m) (k * n))
    go (yes h) = rw (min-eq_left h, max-eq_right h) (omega (arith, mul-le-mul_left k h))
    go (no h) =
        let g : n ≤ m = omega arith in
        rw (min-eq_right g, max-eq_left g) (omega (arith, mul-le-mul_left k g))

pub mul_min : (k m n : ℕ) → k * min m n ≡ min (k * m) (k * n)
mul_min k m n = (mul_both k m n).0

pub mul_max : (k m n : ℕ) → k * max m n ≡ max (k * m) (k * n)
mul_max k m n = (mul_both k m n).1

pub min_mul : (m n k : ℕ) → min m n * k ≡ min (m * k) (n * k)
min_mul m n k = simp (mul_comm, mul_min)

pub max_mul : (m n k : ℕ) → max m n * k ≡ max (m * k) (n * k)
max_mul m n k = simp (mul_comm, mul_max)

pub ruleset spread = (mul-add, add-mul, mul-sub, sub_mul, mul_min, min_mul, mul_max, max_mul)

-- Products written out, also through these.
pub ruleset level =
    (mul-add, add-mul, mul-sub, sub_mul, mul_min, min_mul, mul_max, max_mul, mul_assoc, mul_comm, mul_left_comm)

-- ---- Equality: two proper fractions that agree when cross-multiplied.

pub record Same (a b : Frac) : Type 0 where
  pub pos : 0 < a.den
  pub pos' : 0 < b.den
  pub same : a.num * b.den ≡ b.num * a.den

pub same_refl : (a : Frac) → 0 < a.den → Same a a
same_refl a p = record { pos = p; pos' = p; same = refl }

pub same_sym : {a b : Frac} → Same a b → Same b a
same_sym e = record { pos = e.pos'; pos' = e.pos; same = sym e.same }

times_eq : (k : ℕ) {m n : ℕ} → m ≡ n → m * k ≡ n * k
times_eq k e = ap (λ (x : ℕ). x * k) e

pub same_trans : {a b c : Frac} → Same a b → Same b c → Same a c
same_trans {a} {b} {c} u v =
    let t : a.num * c.den * b.den ≡ c.num * a.den * b.den =
    simp expand (omega (arith, simp expand at (times_eq c.den u.same), simp expand at (times_eq a.den v.same))) in
    record { pos = u.pos; pos' = v.pos'; same = eq_of_mul-eq-mul_right b.den v.pos _ _ t }

-- Each operation respects it. The four that bring to one denominator share their work.
module _ {a b x y : Frac} (u : Same a b) (v : Same x y) where
  first : a.num * b.den * (x.den * y.den) ≡ b.num * a.den * (x.den * y.den)
  first = times_eq (x.den * y.den) u.same

  second : x.num * y.den * (a.den * b.den) ≡ y.num * x.den * (a.den * b.den)
  second = times_eq (a.den * b.den) v.same

  -- over the products of the lower parts
  both : {n m : ℕ} → n * (b.den * y.den) ≡ m * (a.den * x.den) → Same (n // (a.den * x.den)) (m // (b.den * y.den))
  both e = record { pos = mul-pos u.pos v.pos; pos' = mul-pos u.pos' v.pos'; same = e }

  pub same_sum : Same (a ⊕ x) (b ⊕ y)
  unfolding ◌⊕◌
  same_sum = both (simp level (omega (arith, simp level at first, simp level at second)))

  pub same_difference : Same (a ⊖ x) (b ⊖ y)
  unfolding ◌⊖◌
  same_difference = both (simp level (omega (arith, simp level at first, simp level at second)))

  pub same_smaller : Same (smaller a x) (smaller b y)
  unfolding smaller
  same_smaller = both (simp level (omega (arith, simp level at first, simp level at second)))

  pub same_larger : Same (larger a x) (larger b y)
  unfolding larger
  same_larger = both (simp level (omega (arith, simp level at first, simp level at second)))

  pub same_product : Same (a ⊗ x) (b ⊗ y)
  unfolding ◌⊗◌
  same_product = both (simp mul-mul-mul_comm (ap (λ (n : ℕ). n * (x.num * y.den)) u.same ∙ ap (λ (n : ℕ). b.num * a.den * n) v.same))

  pub same_quotient : (0 < x.num) × (0 < y.num) → Same (a ⊘ x) (b ⊘ y)
  unfolding ◌⊘◌
  same_quotient p =
      record {
        pos = mul-pos u.pos p.0;
        pos' = mul-pos u.pos' p.1;
        same =
            simp level (omega (arith, simp level at (times_eq (x.den * y.num) u.same), simp level at (times_eq (b.num * a.den) v.same)));
      }

-- A product goes into a smaller and a larger of two and into a difference.
module _ (a b c : Frac) (p : 0 < a.den) (q : 0 < b.den) (r : 0 < c.den) where
  pub product_smaller : Same (smaller a b ⊗ c) (smaller (a ⊗ c) (b ⊗ c))
  unfolding ◌⊗◌ smaller
  product_smaller =
      record { pos = mul-pos (mul-pos p q) r; pos' = mul-pos (mul-pos p r) (mul-pos q r); same = simp level }

  pub product_larger : Same (larger a b ⊗ c) (larger (a ⊗ c) (b ⊗ c))
  unfolding ◌⊗◌ larger
  product_larger =
      record { pos = mul-pos (mul-pos p q) r; pos' = mul-pos (mul-pos p r) (mul-pos q r); same = simp level }

  pub product_difference : Same ((a ⊖ b) ⊗ c) ((a ⊗ c) ⊖ (b ⊗ c))
  unfolding ◌⊗◌ ◌⊖◌
  product_difference =
      record { pos = mul-pos (mul-pos p q) r; pos' = mul-pos (mul-pos p r) (mul-pos q r); same = simp level }

-- The lower parts stay above 0.
module _ (a b : Frac) (p : 0 < a.den) (q : 0 < b.den) where
  pub proper_difference : Proper (a ⊖ b)
  unfolding ◌⊖◌
  proper_difference = mul-pos p q

  pub proper_larger : Proper (larger a b)
  unfolding larger
  proper_larger = mul-pos p q

-- ... of a quotient where the divisor is above 0, as a product of two that are
pub proper_quotient : (a b : Frac) → Proper a → 0 < b.num → Proper (a ⊘ b)
unfolding ◌⊘◌
proper_quotient a b p q = mul-pos p q

pub positive_product : (a b : Frac) → 0 < a.num → 0 < b.num → 0 < (a ⊗ b).num
unfolding ◌⊗◌
positive_product a b p q = mul-pos p q

-- Order and nearness.
module _ {a b : Frac} (x : Frac) (e : Same a b) where
  pub same-≼ : a ≼ x → b ≼ x
  same-≼ h =
      let t : b.num * x.den * a.den ≤ x.num * b.den * a.den =
      simp expand (omega (arith, simp expand at (times_eq x.den e.same), simp expand at (mul-le-mul_right b.den h))) in
      le_of_mul-le-mul_right t e.pos

  pub ≼-same : x ≼ a → x ≼ b
  ≼-same h =
      let t : x.num * b.den * a.den ≤ b.num * x.den * a.den =
      simp expand (omega (arith, simp expand at (times_eq x.den e.same), simp expand at (mul-le-mul_right b.den h))) in
      le_of_mul-le-mul_right t e.pos

  pub same-≺ : a ≺ x → b ≺ x
  same-≺ h =
      let t : b.num * x.den * a.den < x.num * b.den * a.den =
      simp expand (omega (arith, simp expand at (times_eq x.den e.same), simp expand at (mul-lt-mul_of_pos_right h e.pos'))) in
      lt_of_mul-lt-mul_right a.den t

  pub ≺-same : x ≺ a → x ≺ b
  ≺-same h =
      let t : x.num * b.den * a.den < b.num * x.den * a.den =
      simp expand (omega (arith, simp expand at (times_eq x.den e.same), simp expand at (mul-lt-mul_of_pos_right h e.pos'))) in
      lt_of_mul-lt-mul_right a.den t

-- ---- Order.

pub ≼_trans : (a b c : Frac) → Proper b → a ≼ b → b ≼ c → a ≼ c
≼_trans a b c p u v =
    let t : a.num * c.den * b.den ≤ c.num * a.den * b.den =
    simp expand (omega (arith, simp expand at (mul-le-mul_right c.den u), simp expand at (mul-le-mul_right a.den v))) in
    le_of_mul-le-mul_right t p

pub scale-≼ : (k : ℕ) (a l : Frac) → 0 < k → whole k ⊗ a ≼ whole k ⊗ l → a ≼ l
unfolding ◌⊗◌
scale-≼ k a l p h =
    let t : k * (a.num * l.den) ≤ k * (l.num * a.den) = simp expand (omega (arith, simp expand at h)) in
    le_of_mul-le-mul_left t p

-- ---- Distance and margin: of two of which one is known not to be above the other.

module _ (n d m k x y : ℕ) (pd : 0 < d) (pk : 0 < k) (le : n * k ≤ m * d) where
  no_excess : n * k - d * m ≡ 0
  no_excess = simp (mul_comm d m) (omega arith)

  gap : m * (d * y) < (n * y + d * x) * k → (m * d - k * n) * y < x * (k * d)
  gap h = simp level (omega (arith, simp level at h, simp level at (mul-le-mul_right y le)))

  gap_core : m * (d * y) < (n * y + d * x) * k →
      ((n * k - d * m) * (k * d) + d * k * (m * d - k * n)) * y < x * (d * k * (k * d))
  gap_core h =
      let t = mul-lt-mul_of_pos_right (gap h) (mul-pos pd pk) in
      rw no_excess (simp expand (omega (arith, simp expand at t)))

  gap_back : ((n * k - d * m) * (k * d) + d * k * (m * d - k * n)) * y < x * (d * k * (k * d)) → m * (d * y) < (n * y + d * x) * k
  gap_back h =
      let z : (m * d - k * n) * y * (d * k) < x * (k * d) * (d * k) =
      simp expand (omega (arith, simp expand at (rw no_excess at h))) in
      let t = lt_of_mul-lt-mul_right (d * k) z in
      simp level (omega (arith, simp level at t, simp level at (mul-le-mul_right y le)))

-- a ≤ b: their distance is below e exactly where b < a + e
module _ (a b e : Frac) (p : Proper a) (q : Proper b) (le : a ≼ b) where
  pub distance_below : b ≺ a ⊕ e → distance a b ≺ e
  unfolding distance ◌⊕◌ ◌⊖◌
  distance_below h = gap_core a.num a.den b.num b.den e.num e.den p q le h

  pub below_distance : distance a b ≺ e → b ≺ a ⊕ e
  unfolding distance ◌⊕◌ ◌⊖◌
  below_distance h = gap_back a.num a.den b.num b.den e.num e.den p q le h

same_parts : {n m d k : ℕ} → n ≡ m → d ≡ k → n // d ≡ m // k
same_parts e f = cc

pub distance_sym : (a b : Frac) → distance a b ≡ distance b a
unfolding distance ◌⊕◌ ◌⊖◌
distance_sym a b = same_parts (simp expand (omega arith)) (simp expand)
