-- The fields of a member taken as numbers: questions 2 and 3 are put to each, question 7 is left for the member as a whole.
use Rattle.std.specs.Prelude.{ℕ, zero, suc, ◌+◌, List, [], ◌∷◌, set, if◌then◌else◌, Err, Ok, Result}
use Rattle.question.specs.declared.Question.{Question}
use Rattle.varint.specs.Varint.{Number}
use Rattle.varint.specs.Varint.{number_at}
use Rattle.field_domain.specs.declared.Domain.{Domain}
use Rattle.field_domain.specs.Domain.{is_present}
use Rattle.question.specs.Reading.{Reading, got, no, and_then}
use Rattle.varint.specs.Placed.{Placed, placed}

-- a number refused, and the slots as they are then
pub record Stopped : Type 0 where
  pub question : Question
  pub slots : List ℕ

abbrev pub stopped : Question → List ℕ → Stopped
stopped q v = record { question = q; slots = v }

-- a number into slot i of v
abbrev pub stored_by : Number → ℕ → List ℕ → Reading Stopped (Placed (List ℕ))
stored_by (Ok (x, next)) i v = got (placed (set v i x) next)
stored_by (Err q) i v = no (stopped q v)

-- the number at p, into slot i of v
unfoldable pub stored : List ℕ → ℕ → ℕ → List ℕ → Reading Stopped (Placed (List ℕ))
stored s p i v = stored_by (number_at s p) i v

-- n numbers from p on, the first into slot i of v
unfoldable pub taken_row : ℕ → List ℕ → ℕ → ℕ → List ℕ → Reading Stopped (Placed (List ℕ))
taken_row zero s p i v = got (placed v p)
taken_row (suc n) s p i v = and_then (stored s p i v) (λ r. taken_row n s r.next (i + 1) r.value)

-- the fields of these domains from p on, the first into slot i of v; a group past its count is not there
unfoldable pub taken : List Domain → List ℕ → ℕ → ℕ → List ℕ → Reading Stopped (Placed (List ℕ))
taken [] s p i v = got (placed v p)
taken (d ∷ ds) s p i v =
    and_then (if is_present d v then stored s p i v else got (placed v p)) (λ r. taken ds s r.next (i + 1) r.value)

-- what taking numbers into slots yields: that they are all taken, or the refusal of one
abbrev pub FieldsEnd : Type 0
FieldsEnd = Result (Unit {0}) Question

-- what it says, with the slots v afterwards
abbrev pub fields_end_of : FieldsEnd → List ℕ → Result (List ℕ) Stopped
fields_end_of (Ok tt) v = Ok v
fields_end_of (Err q) v = Err (stopped q v)
