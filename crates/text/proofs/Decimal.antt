-- Laws of `decimal`: its digits, its length, and its value read back.
use Prim.Native.Nat.{ℕ, zero, suc, ◌+◌, ◌-◌, ◌*◌, ◌/◌, ◌%◌, ◌^◌, ◌≤◌, ◌<◌}
use mathlib.Core.Path.{◌≡◌, refl, sym, ◌∙◌}
use mathlib.Core.Bool.{Bool, true, false}
use mathlib.Core.List.{List, [], ◌∷◌, ◌++◌}
use native.Mathlib.Nat.{pow-suc}
use native.Mathlib.Omega.{arith}
use lib.ListN.{length, length-append}
use lib.Dec.{ltb}
use borrow.Author.Tests.{ltb-true, ltb-false, le-leb}
use Rattle.quantity.specs.All.{All}
use Rattle.quantity.proofs.All.{all_append, all_weaken}
use Rattle.text.specs.Text.{digits, decimal, value_from, value_of, is_digit, is_decimal}
use Rattle.text.proofs.Bytes.{all_every, Graphic}

pub lt_or_le : {P : Type 0} (n m : ℕ) → (n < m → P) → (m ≤ n → P) → P
lt_or_le {P} n m f g = go (ltb n m) refl
  where
    go : (b : Bool) → ltb n m ≡ b → P
    go true e = f (ltb-true n m e)
    go false e = g (ltb-false n m e)

-- ---- By the number of digits

digits_zero : (k : ℕ) → digits k 0 ≡ []
unfolding digits
digits_zero zero = refl
digits_zero (suc k) = refl

-- any bound that is large enough gives the same
digits_enough : (j k v : ℕ) → v ≤ j → v ≤ k → digits j v ≡ digits k v
unfolding digits
digits_enough zero k zero h g = sym (digits_zero k)
digits_enough zero k (suc v) h g = absurd (omega arith)
digits_enough (suc j) k zero h g = sym (digits_zero k)
digits_enough (suc j) zero (suc v) h g = absurd (omega arith)
digits_enough (suc j) (suc k) (suc v) h g = rw (digits_enough j k (suc v / 10) (omega arith) (omega arith))

digits_decimal : (k v : ℕ) → 0 < v → v ≤ k → digits k v ≡ decimal v
unfolding decimal
digits_decimal k zero h g = absurd (omega arith)
digits_decimal k (suc v) h g = digits_enough k (suc v) (suc v) g (omega arith)

-- a number below ten is one digit, any other the digits of its tenth and one more
pub decimal_one : (v : ℕ) → v < 10 → decimal v ≡ (48 + v) ∷ []
unfolding decimal digits
decimal_one zero h = refl
decimal_one (suc v) h =
    let q : suc v / 10 ≡ 0 = omega arith in
    let r : suc v % 10 ≡ suc v = omega arith in
    rw (q, digits_zero v, r)

pub decimal_more : (v : ℕ) → 10 ≤ v → decimal v ≡ decimal (v / 10) ++ ((48 + v % 10) ∷ [])
unfolding decimal digits
decimal_more zero h = absurd (omega arith)
decimal_more (suc v) h = rw (digits_decimal v (suc v / 10) (omega arith) (omega arith))

pub decimal_induction : (P : ℕ → Type 0) → ((v : ℕ) → v < 10 → P v) → ((v : ℕ) → 10 ≤ v → P (v / 10) → P v) → (v : ℕ) → P v
decimal_induction P one more v = go (suc v) v (omega arith)
  where
    go : (k v : ℕ) → v < k → P v
    go zero v h = absurd (omega arith)
    go (suc k) v h = lt_or_le v 10 (one v) (λ g. more v g (go k (v / 10) (omega arith)))

-- ---- How many digits

pub decimal_length_one : (v : ℕ) → v < 10 → length (decimal v) ≡ 1
decimal_length_one v h = rw (decimal_one v h)

pub decimal_length_more : (v : ℕ) → 10 ≤ v → length (decimal v) ≡ length (decimal (v / 10)) + 1
decimal_length_more v h = rw (decimal_more v h) (length-append (decimal (v / 10)) _)

pub decimal_not_empty : (v : ℕ) → 1 ≤ length (decimal v)
decimal_not_empty v = lt_or_le v 10 (λ h. omega (arith, decimal_length_one v h)) (λ h. omega (arith, decimal_length_more v h))

pub decimal_short : (k v : ℕ) → 0 < k → v < 10 ^ k → length (decimal v) ≤ k
decimal_short zero v p h = absurd (omega arith)
decimal_short (suc zero) v p h = omega (arith, decimal_length_one v (rw pow-suc at h))
decimal_short (suc (suc k)) v p h =
    lt_or_le v 10 (λ g. omega (arith, decimal_length_one v g))
    (λ g. omega (arith, decimal_length_more v g, decimal_short (suc k) (v / 10) (omega arith) (omega (arith, rw (pow-suc 10 (suc k)) at h))))

-- ---- Which bytes

abbrev pub Digit : ℕ → Type 0
Digit b = (48 ≤ b) × (b ≤ 57)

pub decimal_digits : (v : ℕ) → All Digit (decimal v)
decimal_digits = decimal_induction (λ v. All Digit (decimal v))
    (λ v h. rw (decimal_one v h) (omega arith, tt))
    (λ v h ih. rw (decimal_more v h) (all_append Digit (decimal (v / 10)) _ ih (omega arith, tt)))

pub decimal_graphic : (v : ℕ) → All Graphic (decimal v)
decimal_graphic v = all_weaken Digit Graphic (λ b p. omega arith) (decimal v) (decimal_digits v)

-- ---- Read back

digits_are_decimal : (s : List ℕ) → 1 ≤ length s → All Digit s → is_decimal s ≡ true
unfolding is_decimal
digits_are_decimal [] h a = absurd (omega arith)
digits_are_decimal (b ∷ s) h a = all_every is_digit (λ x p. rw (le-leb 48 x p.0, le-leb x 57 p.1)) (b ∷ s) a

pub decimal_is : (v : ℕ) → is_decimal (decimal v) ≡ true
decimal_is v = digits_are_decimal (decimal v) (decimal_not_empty v) (decimal_digits v)

value_last : (a : ℕ) (s : List ℕ) (b : ℕ) → value_from a (s ++ (b ∷ [])) ≡ 10 * value_from a s + (b - 48)
unfolding value_from
value_last a [] b = refl
value_last a (x ∷ s) b = value_last (10 * a + (x - 48)) s b

pub decimal_value : (v : ℕ) → value_of (decimal v) ≡ v
unfolding value_of value_from
decimal_value = decimal_induction (λ v. value_of (decimal v) ≡ v)
    (λ v h. rw (decimal_one v h) (omega arith))
    (λ v h ih. rw (decimal_more v h) (value_last 0 (decimal (v / 10)) (48 + v % 10) ∙ omega (arith, ih)))
