-- Laws of the walk over the vectors of a row.
use mir.Val.{bool_byte}
use Prim.Native.Nat.{ℕ, zero, suc, ◌+◌, ◌-◌, ◌≤◌, ◌<◌}
use mathlib.Core.Path.{◌≡◌, refl, ap, ◌∙◌}
use mathlib.Core.Bool.{Bool, true, false}
use mathlib.Core.List.{List, [], ◌∷◌}
use native.Mathlib.Omega.{arith}
use borrow.Author.Tests.{lt-ltb, le-ltb, le-leb, lt-leb}
use lib.Dec.{ltb}
use lib.ListN.{length, get_or, take, drop}
use Rattle.vectors.specs.declared.Tally.{Tally}
use Rattle.vectors.specs.Vectors.{same_bytes, pair_at, answer_to, part_at, part_end, vector_end, equal_at, one_if, starts_from, starts, equal_of, tally, row_tally, tally_of}

-- ---- One vector.

-- the part as the code lends it: from a up to e
pub part_lent : (s : List ℕ) (p a e : ℕ) → a ≡ p + 2 → e ≡ part_end s p → take (e - a) (drop a s) ≡ part_at s p
unfolding part_at part_end
part_lent s p a e f g =
    let h : e - a ≡ pair_at s p = omega arith in
    rw (h, f)

module _ (s : List ℕ) (p b d : ℕ) (e : b ≡ part_end s (p + 1)) (f : d ≡ part_end s b) where
  ends : d ≡ vector_end s p
  ends = f ∙ ap (part_end s) e

  pub cut : length s < d → equal_at s p ≡ false
  unfolding equal_at
  cut h = rw (lt-leb (vector_end s p) (length s) (rw ends at h))

  pub whole : d ≤ length s → (k : ℕ) (t u : List ℕ) → k ≡ get_or s p 0 → t ≡ part_at s (p + 1) → u ≡ part_at s b → equal_at s p ≡ same_bytes (answer_to k t) u
  unfolding equal_at
  whole h k t u g i j = rw (le-leb (vector_end s p) (length s) (rw ends at h), g, i, j, e)

-- ---- A turn of the loop: v vectors have been counted, and the next begins at p.

abbrev pub left : List ℕ → ℕ → ℕ → List ℕ
left s v p = starts_from (length s - v) s p

pub all_left : (s : List ℕ) → left s 0 0 ≡ starts s
unfolding starts
all_left s = let e : length s - 0 ≡ length s = omega arith in rw e

-- a test as a number
pub counted : (b : Bool) → bool_byte b ≡ one_if b
counted true = refl
counted false = refl

pub one_most : (b : Bool) → one_if b ≤ 1
one_most true = omega arith
one_most false = omega arith

module _ (s : List ℕ) (v p : ℕ) where
  -- the next vector ends at q
  module _ (g : v ≤ p) (h : p < length s) (q : ℕ) (f : q ≡ vector_end s p) where
    turn : left s v p ≡ p ∷ left s (v + 1) q
    unfolding starts_from
    turn =
        let e : length s - v ≡ suc (length s - (v + 1)) = omega arith in
        rw (e, f, lt-ltb p (length s) h)

    pub one_vector : length (left s v p) ≡ 1 + length (left s (v + 1) q)
    one_vector = ap length turn ∙ omega arith

    pub one_equal : equal_of s (left s v p) ≡ one_if (equal_at s p) + equal_of s (left s (v + 1) q)
    unfolding equal_of
    one_equal = ap (equal_of s) turn

  row_ends : length s ≤ p → left s v p ≡ []
  unfolding starts_from
  row_ends h = go (length s - v)
    where
      go : (n : ℕ) → starts_from n s p ≡ []
      go zero = refl
      go (suc n) = rw (le-ltb p (length s) h)

  pub none_left : length s ≤ p → (length (left s v p) ≡ 0) × (equal_of s (left s v p) ≡ 0)
  unfolding equal_of
  none_left h = (ap length (row_ends h), ap (equal_of s) (row_ends h))

-- ---- The input, of n bytes.

pub tally_is : (s : List ℕ) (t : Tally) (m n : ℕ) → t ≡ row_tally s → n ≡ length s → m ≡ one_if (ltb 320000 n) → tally (t.vectors + m) t.equal ≡ tally_of s
unfolding tally_of
tally_is s t m n a c d = rw (a, d, c)
