-- A row of vectors as bytes.
use Rattle.std.specs.Prelude.{ℕ, ◌+◌, ◌/◌, ◌%◌, List, [], ◌∷◌, ◌++◌, length}
use Rattle.vectors.specs.Vectors.{same_bytes, answer_to, one_if}

pub record Vector : Type 0 where
  pub form : ℕ
  pub given : List ℕ
  pub text : List ℕ

-- a part after its length, low byte first (two bytes hold a length below 65,536)
unfoldable pub part_bytes : List ℕ → List ℕ
part_bytes t = (length t % 256) ∷ ((length t / 256) ∷ t)

unfoldable pub row_of : List Vector → List ℕ
row_of [] = []
row_of (x ∷ xs) = x.form ∷ (part_bytes x.given ++ (part_bytes x.text ++ row_of xs))

-- how many have as their text the answer to what is given
unfoldable pub agreeing : List Vector → ℕ
agreeing [] = 0
agreeing (x ∷ xs) = one_if (same_bytes (answer_to x.form x.given) x.text) + agreeing xs
