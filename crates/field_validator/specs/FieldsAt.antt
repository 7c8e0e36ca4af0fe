-- Fields read one by one, each held to its domain: questions 2, 3 and 7 (document 01, "Schedule bytes").
use Rattle.std.specs.Prelude.{◌≡◌, ℕ, ◌+◌, ◌^◌, ◌<◌, Bool, List, [], ◌∷◌, set, replicate, if◌then◌else◌}
use Rattle.question.specs.declared.Question.{Question}
use Rattle.question.specs.declared.Question.TheVariants.{Field}
use Rattle.varint.specs.Varint.{number_at}
use Rattle.field_domain.specs.declared.Domain.{Domain}
use Rattle.field_domain.specs.Domain.{holds, is_present}
use Rattle.question.specs.Reading.{Reading, got, and_then, ask}
use Rattle.varint.specs.Placed.{Placed, placed, of_number}

-- a test of which this is known after each call says the same as `asked`
abbrev pub Tests : (ℕ → Bool → Type 0) → (ℕ → Bool) → Type 0
Tests known asked = (x : ℕ) (b : Bool) → x < 2 ^ 32 → known x b → b ≡ asked x

-- the number at p: 2 and 3, then question q
abbrev pub checked : Question → (ℕ → Bool) → List ℕ → ℕ → Reading Question (Placed ℕ)
checked q test s p = and_then (of_number (number_at s p)) (λ x. ask q (test x.value) (got x))

-- the field of domain d at p, into slot i of v; a group past its count is not there
unfoldable pub field : Domain → List ℕ → ℕ → ℕ → List ℕ → Reading Question (Placed (List ℕ))
field d s p i v =
    if is_present d v
    then and_then (checked Field (holds d) s p) (λ x. got (placed (set v i x.value) x.next))
    else got (placed v p)

-- fields from p on, the first into slot i of v
unfoldable pub fields : List Domain → List ℕ → ℕ → ℕ → List ℕ → Reading Question (Placed (List ℕ))
fields [] s p i v = got (placed v p)
fields (d ∷ ds) s p i v = and_then (field d s p i v) (λ r. fields ds s r.next (i + 1) r.value)

abbrev pub empty : List ℕ
empty = replicate 40 0
