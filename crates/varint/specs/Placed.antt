-- A value read, and the place after its last byte.
use Rattle.std.specs.Prelude.{ℕ, Err, Ok}
use Rattle.question.specs.declared.Question.{Question}
use Rattle.question.specs.Reading.{Reading, got, no}
use Rattle.varint.specs.Varint.{Number}

pub record Placed (A : Type 0) : Type 0 where
  pub value : A
  pub next : ℕ

abbrev pub placed : {A : Type 0} → A → ℕ → Placed A
placed a p = record { value = a; next = p }

-- questions 2 and 3
abbrev pub of_number : Number → Reading Question (Placed ℕ)
of_number (Ok (x, next)) = got (placed x next)
of_number (Err q) = no q
