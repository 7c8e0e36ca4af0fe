-- One division of two whole numbers below 2^53 yields the double nearest to their fraction; it is at most 1.0 exactly where the fraction is.
use Prim.Native.Nat.{ℕ, ◌*◌, ◌^◌, ◌≤◌, ◌<◌}
use mathlib.Core.Path.{◌≡◌, refl, sym, subst, ◌∙◌}
use mathlib.Core.Bool.{Bool, true, false, true≢false}
use native.Mathlib.Nat.{mul-one, mul_comm, mul_left_comm, mul-pos}
use native.Mathlib.Omega.{arith}
use lib.Dec.{T, leb, ltb→lt, lit<}
use lib.IntN.{pos, negsuc}
use lib.Ieee.{Float, nan, inf, fin, Format, binary64, low, up, down, round, div, of_int, le}
use lib.Ieee.Bits.{is_true}
use lib.Ieee.Fits.{up_pos, down_pos}
use lib.Ieee.Exact.{HasValue}
use lib.Ieee.Back.{round_whole}
use lib.Ieee.Scale.{round_same, finite, grid, round_under, round_val}
use lib.Ieee.Order.{round_mono}
use lib.Ieee.Positive.{positive, positive_of_value, between, le_trans_positive}
use borrow.Author.Tests.{ne_eqb, leb-true, leb-false}
use Rattle.ratio.specs.Ratio.{nought, one, quotient, nearest, finite_nonneg}

-- ---- The nearest double.

products : (k l d e a b : ℕ) → k * 1 ≡ a * d → l * 1 ≡ b * e → k * e * b ≡ a * (l * d)
products k l d e a b p q =
    let p' : k ≡ a * d = sym (mul-one k) ∙ p in
    let q' : l ≡ b * e = sym (mul-one l) ∙ q in
    rw (p', q') (simp (mul_comm, mul_left_comm))

-- of doubles that hold whole numbers
div_whole : (f : Format) (x y : Float) (a b : ℕ) → 0 < b → T (positive y) → HasValue x false a 1 → HasValue y false b 1 → div f x y ≡ round f false a b
unfolding div
div_whole f nan y a b p q h k = absurd h
div_whole f (inf s) y a b p q h k = absurd h
div_whole f (fin s m e) nan a b p q h k = absurd k
div_whole f (fin s m e) (inf t) a b p q h k = absurd k
div_whole f (fin true m e) (fin t n d) a b p q h k = absurd (true≢false h.0)
div_whole f (fin false m e) (fin true n d) a b p q h k = absurd (true≢false k.0)
div_whole f (fin false m e) (fin false n d) a b p q h k =
    let some : 0 < n = ltb→lt 0 n q in
    rw (ne_eqb n 0 (λ z. omega arith))
    (round_same f false (m * up e * down d) (n * up d * down e) a b (mul-pos (mul-pos some (up_pos d)) (down_pos e)) p
    (products (m * up e) (n * up d) (down e) (down d) a b h.1 k.1))

pub quotient_nearest : (a b : ℕ) → a < 2 ^ 53 → 0 < b → b < 2 ^ 53 → quotient a b ≡ nearest a b
unfolding quotient nearest of_int
quotient_nearest a b h p k =
    let u = round_whole binary64 false a (omega arith) in
    let v = round_whole binary64 false b (omega arith) in
    div_whole binary64 (round binary64 false a 1) (round binary64 false b 1) a b p (positive_of_value (round binary64 false b 1) b 1 v p) u v

-- ---- Against 1.0.

-- the double after 1.0
abbrev next : Float
next = fin false 4503599627370497 (negsuc 51)

one_is : nearest 1 1 ≡ one
unfolding nearest round
one_is = refl

next_is : nearest 9007199254740992 9007199254740991 ≡ next
unfolding nearest round
next_is = refl

next_above : le next one ≡ false
unfolding le
next_above = refl

nearest_mono : (a b c d : ℕ) → 0 < b → 0 < d → a * d ≤ c * b → T (le (nearest a b) (nearest c d))
unfolding nearest
nearest_mono a b c d p q h = round_mono binary64 a b c d p q h

refuted : (t : Bool) → (T t → ⊥) → t ≡ false
refuted true h = absurd (h tt)
refuted false h = refl

pub at_most_one : (a b : ℕ) → 0 < b → b < 2 ^ 53 → le (nearest a b) one ≡ leb a b
at_most_one a b p k = go (leb a b) refl
  where
    -- a fraction above 1 is at least 2^53 / (2^53 - 1), which rounds to the double after 1.0
    beyond : b < a → T (le (nearest a b) one) → ⊥
    beyond h t =
        let s : 9007199254740992 * b ≤ a * 9007199254740991 = omega arith in
        let u : T (le next (nearest a b)) = subst (λ (y : Float). T (le y (nearest a b))) next_is (nearest_mono 9007199254740992 9007199254740991 a b (lit< tt) p s) in
        let q : T (positive (nearest a b)) = between next (nearest a b) one tt tt u t in
        subst T next_above (le_trans_positive next (nearest a b) one tt q tt u t)

    go : (t : Bool) → leb a b ≡ t → le (nearest a b) one ≡ t
    go true e =
        let l : a ≤ b = leb-true a b e in
        is_true _ (subst (λ (y : Float). T (le (nearest a b) y)) one_is (nearest_mono a b 1 1 p (lit< tt) (omega arith)))
    go false e = refuted _ (beyond (leb-false a b e))

-- ---- Finite and not negative.

nought_is : nearest 0 1 ≡ nought
unfolding nearest round
nought_is = refl

most_is : nearest 9007199254740992 1 ≡ fin false 1 (pos 53)
unfolding nearest round
most_is = refl

finite_between : (x : Float) → T (le nought x) → T (le x (fin false 1 (pos 53))) → T (finite x)
unfolding le
finite_between nan h k = absurd h
finite_between (inf true) h k = absurd h
finite_between (inf false) h k = absurd k
finite_between (fin s m e) h k = tt

nonneg_value : (x : Float) (a c : ℕ) → HasValue x false a c → T (finite_nonneg x)
nonneg_value nan a c h = absurd h
nonneg_value (inf s) a c h = absurd h
nonneg_value (fin true m e) a c h = absurd (true≢false h.0)
nonneg_value (fin false m e) a c h = tt

nonneg_finite : (a b : ℕ) → T (finite (nearest a b)) → T (finite_nonneg (nearest a b))
unfolding nearest
nonneg_finite a b h = nonneg_value (round binary64 false a b) (grid binary64 a b) (2 ^ low binary64) (round_val binary64 a b (round_under binary64 a b h))

pub nearest_nonneg : (a b : ℕ) → a < 2 ^ 53 → 0 < b → T (finite_nonneg (nearest a b))
nearest_nonneg a b h p =
    nonneg_finite a b
    (finite_between (nearest a b)
    (subst (λ (y : Float). T (le y (nearest a b))) nought_is (nearest_mono 0 1 a b (lit< tt) p (omega arith)))
    (subst (λ (y : Float). T (le (nearest a b) y)) most_is (nearest_mono a b 9007199254740992 1 p (lit< tt) (omega arith))))
