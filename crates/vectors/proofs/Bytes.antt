-- Laws of the comparison of bytes.
use Prim.Native.Nat.{ℕ, ◌≤◌}
use mathlib.Core.Path.{◌≡◌, refl, ap₂}
use mathlib.Core.Bool.{true, false≢true}
use mathlib.Core.List.{List, [], ◌∷◌}
use borrow.Author.Tests.{eqb-true, eq-eqb}
use lib.Dec.{eqb}
use lib.Pointwise.{pointwise}
use lib.ListN.{length, take, drop}
use lib.Seq.{take-append_seam}
use Rattle.quantity.proofs.Choice.{both_true}
use Rattle.program_output.specs.ProgramOutput.{output_of, PrintedSchedule}
use Rattle.vectors.specs.Vectors.{same_bytes}

-- ---- The test is true exactly where the lists are equal.

pub same_equal : (a b : List ℕ) → same_bytes a b ≡ true → a ≡ b
unfolding same_bytes
same_equal [] [] e = refl
same_equal [] (y ∷ b) e = absurd (false≢true e)
same_equal (x ∷ a) [] e = absurd (false≢true e)
same_equal (x ∷ a) (y ∷ b) e =
    let h = both_true (eqb x y) (same_bytes a b) e in
    ap₂ (λ (z : ℕ) (l : List ℕ). z ∷ l) (eqb-true x y h.0) (same_equal a b h.1)

pub equal_same : (a : List ℕ) → same_bytes a a ≡ true
unfolding same_bytes
equal_same [] = refl
equal_same (x ∷ a) = rw (eq-eqb x x refl, equal_same a)

-- the library's comparison of two lists, element by element, is the definition's
pub compared : (a b : List ℕ) → pointwise eqb a b ≡ same_bytes a b
unfolding same_bytes
compared [] [] = refl
compared [] (y ∷ b) = refl
compared (x ∷ a) [] = refl
compared (x ∷ a) (y ∷ b) = rw (compared a b)

-- ---- What is printed.

-- into 60,000 bytes or more: the whole output
pub output : (s d d' : List ℕ) (n : ℕ) → PrintedSchedule s d d' n → 60000 ≤ length d → take n d' ≡ output_of s
output s d d' n p h =
    let e = (p.whole h).0 in
    let f = (p.whole h).1 in
    rw (e, f) (take-append_seam (output_of s) (drop (length (output_of s)) d))
