-- A whole number that lies near a fraction: the errors of rounding and the size, carried from step to step of a formula.
use Prim.Native.Nat.{ℕ, ◌+◌, ◌-◌, ◌*◌, ◌/◌, ◌<◌, ◌≤◌, min, max}
use mathlib.Core.Path.{◌≡◌, ap}
use native.Mathlib.Nat.{
  mul-one,
  mul-add,
  mul_assoc,
  mul-pos,
  le_of_mul-le-mul_left,
  le_of_mul-le-mul_right,
  lt_of_mul-lt-mul_left,
  mul-lt-mul_of_pos_left,
  mul-le-mul,
  mul-mul-mul_comm,
  mul-le-mul_left,
  mul-le-mul_right,
}
use native.Mathlib.Omega.{arith}
use Rattle.quantity.specs.Rounding.{up, down}
use Rattle.quantity.specs.Fraction.{Frac, ◌//◌, whole, Proper, ◌⊕◌, ◌⊖◌, ◌⊗◌, ◌⊘◌, smaller, larger, ◌≼◌, ◌≺◌}
use Rattle.quantity.specs.Safe.{NotBelow}
use Rattle.quantity.proofs.Rounding.{expand, up_above, up_below, down_above, down_below, up_le, down_le}
use Rattle.quantity.proofs.Fraction.{spread, level, Same, same-≼}
use Rattle.quantity.proofs.Safe.{not_below}

-- A fraction times and over a whole number, without more in the other part.
unfoldable pub times : ℕ → Frac → Frac
times k a = (k * a.num) // a.den

unfoldable pub over : Frac → ℕ → Frac
over a d = a.num // (a.den * d)

-- The whole number `x` lies near `a`: `a ≤ x + l / M` and `x ≤ a + h / M`, so that the errors `l` and `h` count parts of which
-- `M` make one; and neither is above `X`.
pub record Near (M x : ℕ) (a : Frac) (l h X : ℕ) : Type 0 where
  pub pos : 0 < a.den
  pub low : M * a.num ≤ M * (x * a.den) + l * a.den
  pub high : M * (x * a.den) ≤ M * a.num + h * a.den
  pub most : x ≤ X
  pub most* : a.num ≤ X * a.den

-- Rounded up where the parts are numerals: it computes.
abbrev pub ceil : ℕ → ℕ → ℕ
ceil n d = (n + (d - 1)) / d

ceil_above : (n : ℕ) {d : ℕ} → 0 < d → n ≤ ceil n d * d
unfolding up
ceil_above n p = up_above n p

-- Where it starts: a whole number, and a fraction rounded up or down.
pub near_whole : (M x X : ℕ) → x ≤ X → Near M x (whole x) 0 0 X
near_whole M x X p =
    record { pos = omega arith; low = simp mul-one (omega arith); high = simp mul-one (omega arith); most = p; most* = omega arith }

pub near_up_frac : (M n d X : ℕ) → 0 < d → n ≤ X * d → Near M (up n d) (n // d) 0 M X
near_up_frac M n d X p q =
    let t : up n d * d ≤ n + d = omega (arith, up_below n p) in
    record {
      pos = p;
      low = omega (arith, mul-le-mul_left M (up_above n p));
      high = simp (← mul-add) (mul-le-mul_left M t);
      most = up_le p q;
      most* = q;
    }

pub near_down_frac : (M n d X : ℕ) → 0 < d → n ≤ X * d → Near M (down n d) (n // d) M 0 X
near_down_frac M n d X p q =
    let t : n ≤ down n d * d + d = simp expand (omega (arith, simp expand at (down_above n p))) in
    record {
      pos = p;
      low = simp (← mul-add) (mul-le-mul_left M t);
      high = omega (arith, mul-le-mul_left M (down_below n d));
      most = down_le p q;
      most* = q;
    }

-- Larger errors, and a larger bound.
pub near_weaken : {M x l h X l' h' X' : ℕ} {a : Frac} → Near M x a l h X → (l ≤ l') × (h ≤ h') × (X ≤ X') → Near M x a l' h' X'
near_weaken {a = a} n p =
    record {
      pos = n.pos;
      low = omega (arith, mul-le-mul_right a.den p.0);
      high = omega (arith, mul-le-mul_right a.den p.1);
      most = omega arith;
      most* = omega (arith, mul-le-mul_right a.den p.2);
    }

-- A multiple.
pub near_times : {M x l h X : ℕ} {a : Frac} (k : ℕ) → Near M x a l h X → Near M (k * x) (times k a) (k * l) (k * h) (k * X)
unfolding times
near_times k n =
    record {
      pos = n.pos;
      low = simp expand (simp expand at (mul-le-mul_left k n.low));
      high = simp expand (simp expand at (mul-le-mul_left k n.high));
      most = mul-le-mul_left k n.most;
      most* = simp mul_assoc (mul-le-mul_left k n.most*);
    }

div_low : (M D d n x u s l l' : ℕ) → M * n ≤ M * (x * D) + l * D → x ≤ u * d + s → l + M * s ≤ l' * d →
    M * n ≤ M * (u * (D * d)) + l' * (D * d)
div_low M D d n x u s l l' e f g =
    simp expand (omega (arith, simp expand at e, simp expand at (mul-le-mul_right D g), simp expand at (mul-le-mul_left M (mul-le-mul_right D f))))

div_high : (M D d n x u s h h' : ℕ) → M * (x * D) ≤ M * n + h * D → u * d ≤ x + s → h + M * s ≤ h' * d →
    M * (u * (D * d)) ≤ M * n + h' * (D * d)
div_high M D d n x u s h h' e f g =
    simp expand (omega (arith, simp expand at e, simp expand at (mul-le-mul_right D g), simp expand at (mul-le-mul_left M (mul-le-mul_right D f))))

div_most : (D d n X X' : ℕ) → n ≤ X * D → X ≤ X' * d → n ≤ X' * (D * d)
div_most D d n X X' e f = simp expand (omega (arith, simp expand at (mul-le-mul_right D f), simp expand at e))

-- Any whole `u` at `x / d`, at most `s` too low and `t` too high before the division.
pub near_div : {M x d l h X l' h' X' : ℕ} {a : Frac} (u s t : ℕ) → 0 < d → x ≤ u * d + s → u * d ≤ x + t → u ≤ X' →
    l + M * s ≤ l' * d → h + M * t ≤ h' * d → X ≤ X' * d → Near M x a l h X → Near M u (over a d) l' h' X'
unfolding over
near_div {M} {x} {d} {X' = X'} {a = a} u s t p below above top fitsₗ fitsₕ fits n =
    record {
      pos = mul-pos n.pos p;
      low = div_low M a.den d a.num x u s _ _ n.low below fitsₗ;
      high = div_high M a.den d a.num x u t _ _ n.high above fitsₕ;
      most = top;
      most* = div_most a.den d a.num _ X' n.most* fits;
    }

-- A rounding of what is near already, the divisor a numeral: the errors compute.
pub near_up : {M x l h X d : ℕ} {a : Frac} → 0 < d → Near M x a l h X → Near M (up x d) (over a d) (ceil l d) (ceil h d + M) (ceil X d)
near_up {M} {x} {l} {h} {X} {d} p n =
    near_div (up x d) 0 d p (omega (arith, up_above x p)) (omega (arith, up_below x p))
    (up_le p (omega (arith, ceil_above X p))) (omega (arith, ceil_above l p))
    (simp expand (omega (arith, ceil_above h p))) (ceil_above X p) n

ratio_le : (k d p q h : ℕ) → 0 < q → k * q ≤ p * d → k * h ≤ ceil (p * h) q * d
ratio_le k d p q h u v =
    let c = ceil (p * h) q in
    let t : q * (k * h) ≤ q * (c * d) =
    simp expand (omega (arith, simp expand at (mul-le-mul_right h v), simp expand at (mul-le-mul_right d (ceil_above (p * h) u)))) in
    le_of_mul-le-mul_left t u

-- Times `k / d`, which is at most `p / q`, and rounded up; `k` and `d` need be no numerals.
pub near_up_ratio : {M x l h X d : ℕ} {a : Frac} (k p q : ℕ) → (0 < d) × (0 < q) × (k * q ≤ p * d) → Near M x a l h X →
    Near M (up (k * x) d) (over (times k a) d) (ceil (p * l) q) (ceil (p * h) q + M) (ceil (p * X) q)
near_up_ratio {M} {x} {l} {h} {X} {d} k p q f n =
    let kx = up (k * x) d in
    near_div kx 0 d f.0 (omega (arith, up_above (k * x) f.0)) (omega (arith, up_below (k * x) f.0))
    (up_le f.0 (omega (arith, mul-le-mul_left k n.most, ratio_le k d p q X f.1 f.2)))
    (omega (arith, ratio_le k d p q l f.1 f.2))
    (simp expand (omega (arith, simp expand at (ratio_le k d p q h f.1 f.2))))
    (ratio_le k d p q X f.1 f.2) (near_times k n)

-- Two that are near, brought to one denominator.
widen_right : {M x l h X k : ℕ} {a : Frac} → 0 < k → Near M x a l h X → Near M x (((a.num * k) // (a.den * k))) l h X
widen_right {k = k} p n =
    record {
      pos = mul-pos n.pos p;
      low = simp expand (simp expand at (mul-le-mul_right k n.low));
      high = simp expand (simp expand at (mul-le-mul_right k n.high));
      most = n.most;
      most* = simp (← mul_assoc) (mul-le-mul_right k n.most*);
    }

widen_left : {M x l h X k : ℕ} {a : Frac} → 0 < k → Near M x a l h X → Near M x (((k * a.num) // (k * a.den))) l h X
widen_left {k = k} p n =
    record {
      pos = mul-pos p n.pos;
      low = simp expand at (mul-le-mul_left k n.low);
      high = simp expand at (mul-le-mul_left k n.high);
      most = n.most;
      most* = simp expand at (mul-le-mul_left k n.most*);
    }

module _ {M x y l h X l' h' Y A B D : ℕ} (n : Near M x (A // D) l h X) (m : Near M y (B // D) l' h' Y) where
  level_sum : Near M (x + y) ((A + B) // D) (l + l') (h + h') (X + Y)
  level_sum =
      record {
        pos = n.pos;
        low = simp spread (omega arith);
        high = simp spread (omega arith);
        most = omega arith;
        most* = simp spread (omega arith);
      }

  level_difference : Near M (x - y) ((A - B) // D) (l + h') (h + l') X
  level_difference =
      record {
        pos = n.pos;
        low = simp spread (omega arith);
        high = simp spread (omega arith);
        most = omega arith;
        most* = omega arith;
      }

  level_smaller : Near M (min x y) ((min A B) // D) (max l l') (max h h') (min X Y)
  level_smaller =
      record {
        pos = n.pos;
        low = simp spread (omega arith);
        high = simp spread (omega arith);
        most = omega arith;
        most* = simp spread (omega arith);
      }

  level_larger : Near M (max x y) ((max A B) // D) (max l l') (max h h') (max X Y)
  level_larger =
      record {
        pos = n.pos;
        low = simp spread (omega arith);
        high = simp spread (omega arith);
        most = omega arith;
        most* = simp spread (omega arith);
      }

product_low : (M d k n m x y X Y l l' : ℕ) → M * n ≤ M * (x * d) + l * d → M * m ≤ M * (y * k) + l' * k →
    n ≤ X * d → y ≤ Y → M * (n * m) ≤ M * (x * y * (d * k)) + (X * l' + Y * l) * (d * k)
product_low M d k n m x y X Y l l' e f u v =
    simp expand (omega (
      arith,
      simp expand at (mul-le-mul_left n f),
      simp expand at (mul-le-mul_left (y * k) e),
      simp expand at (mul-le-mul_left (l' * k) u),
      simp expand at (mul-le-mul_left (l * d * k) v),
    ))

product_high : (M d k n m x y X Y h h' : ℕ) → M * (x * d) ≤ M * n + h * d → M * (y * k) ≤ M * m + h' * k →
    x ≤ X → m ≤ Y * k → M * (x * y * (d * k)) ≤ M * (n * m) + (X * h' + Y * h) * (d * k)
product_high M d k n m x y X Y h h' e f u v =
    simp expand (omega (
      arith,
      simp expand at (mul-le-mul_left (x * d) f),
      simp expand at (mul-le-mul_left m e),
      simp expand at (mul-le-mul_left (h' * d * k) u),
      simp expand at (mul-le-mul_left (h * d) v),
    ))

module _ {M x y l h X l' h' Y : ℕ} {a b : Frac} (n : Near M x a l h X) (m : Near M y b l' h' Y) where
  pub near_sum : Near M (x + y) (a ⊕ b) (l + l') (h + h') (X + Y)
  unfolding ◌⊕◌
  near_sum = level_sum (widen_right m.pos n) (widen_left n.pos m)

  pub near_difference : Near M (x - y) (a ⊖ b) (l + h') (h + l') X
  unfolding ◌⊖◌
  near_difference = level_difference (widen_right m.pos n) (widen_left n.pos m)

  pub near_smaller : Near M (min x y) (smaller a b) (max l l') (max h h') (min X Y)
  unfolding smaller
  near_smaller = level_smaller (widen_right m.pos n) (widen_left n.pos m)

  pub near_larger : Near M (max x y) (larger a b) (max l l') (max h h') (max X Y)
  unfolding larger
  near_larger = level_larger (widen_right m.pos n) (widen_left n.pos m)

  -- A product: each error counts as often as the other factor is large.
  pub near_product : Near M (x * y) (a ⊗ b) (X * l' + Y * l) (X * h' + Y * h) (X * Y)
  unfolding ◌⊗◌
  near_product =
      record {
        pos = mul-pos n.pos m.pos;
        low = product_low M a.den b.den a.num b.num x y X Y l l' n.low m.low n.most* m.most;
        high = product_high M a.den b.den a.num b.num x y X Y h h' n.high m.high n.most m.most*;
        most = mul-le-mul n.most m.most;
        most* = simp mul-mul-mul_comm at (mul-le-mul n.most* m.most*);
      }

-- What it says of the exact figure.
pub near_le : {M x h X : ℕ} {a : Frac} → 0 < M → Near M x a 0 h X → a ≼ whole x
near_le {M} {x} {a = a} p n =
    let t : M * a.num ≤ M * (x * a.den) = omega arith in
    omega (arith, le_of_mul-le-mul_left t p)

lt_core : (M d k n m x h : ℕ) → 0 < d → h * k < M * m → M * (x * d) ≤ M * n + h * d → x * (d * k) < n * k + d * m
lt_core M d k n m x h p e f =
    lt_of_mul-lt-mul_left M (simp expand (omega (
      arith,
      simp expand at (mul-le-mul_left k f),
      simp expand at (mul-lt-mul_of_pos_left e p),
    )))

pub near_lt : {M x l h X : ℕ} {a : Frac} (e : Frac) → h * e.den < M * e.num → Near M x a l h X → whole x ≺ (a ⊕ e)
unfolding ◌⊕◌
near_lt {M} {x} {h = h} {a = a} e p n =
    omega (arith, lt_core M a.den e.den a.num e.num x h n.pos p n.high)

-- A safe figure: no error on the low side, and less than e on the other.
pub near_not_below : {M x h X : ℕ} {a : Frac} (e : Frac) → (0 < M) × (h * e.den < M * e.num) → Near M x a 0 h X → NotBelow x e a
near_not_below e p n = not_below n.pos (near_le p.0 n) (near_lt e p.1 n)

-- ---- Equality of fractions.

pub same_times : {a b : Frac} (k : ℕ) → Same a b → Same (times k a) (times k b)
unfolding times
same_times k e =
    record { pos = e.pos; pos' = e.pos'; same = simp mul_assoc (ap (λ (x : ℕ). k * x) e.same) }

pub same_over : {a b : Frac} {k : ℕ} → 0 < k → Same a b → Same (over a k) (over b k)
unfolding over
same_over {k = k} p e =
    record {
      pos = mul-pos e.pos p;
      pos' = mul-pos e.pos' p;
      same = simp (← mul_assoc) (ap (λ (x : ℕ). x * k) e.same);
    }

-- a quotient by a product, times one of its factors
pub quotient_times : (k : ℕ) (a b c : Frac) → Proper a → 0 < b.num → 0 < c.num → Proper c →
    Same ((a ⊘ (b ⊗ c)) ⊗ times k c) (times k (a ⊘ b))
unfolding ◌⊗◌ ◌⊘◌ times
quotient_times k a b c p q r s =
    record { pos = mul-pos (mul-pos p (mul-pos q r)) s; pos' = mul-pos p q; same = simp level (omega arith) }

near_core : (M n d m k x l : ℕ) → n * k ≡ m * d → M * n ≤ M * (x * d) + l * d → M * m * d ≤ (M * (x * k) + l * k) * d
near_core M n d m k x l u v = simp expand (omega (arith, simp expand at (ap (λ (z : ℕ). M * z) u), simp expand at (mul-le-mul_right k v)))

near_core' : (M n d m k x h : ℕ) → n * k ≡ m * d → M * (x * d) ≤ M * n + h * d → M * (x * k) * d ≤ (M * m + h * k) * d
near_core' M n d m k x h u v = simp expand (omega (arith, simp expand at (ap (λ (z : ℕ). M * z) u), simp expand at (mul-le-mul_right k v)))

pub near_same : {M x l h X : ℕ} {a b : Frac} → Same a b → Near M x a l h X → Near M x b l h X
near_same {M} {x} {l} {h} {X} {a} {b} e n =
    record {
      pos = e.pos';
      low = le_of_mul-le-mul_right (near_core M a.num a.den b.num b.den x l e.same n.low) e.pos;
      high = le_of_mul-le-mul_right (near_core' M a.num a.den b.num b.den x h e.same n.high) e.pos;
      most = n.most;
      most* = omega (arith, same-≼ (whole X) e (omega (arith, n.most*)));
    }
