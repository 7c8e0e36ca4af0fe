-- What the code yields for a reading of fields.
use Rattle.std.specs.Prelude.{ℕ, List, Err, Ok, Result}
use Rattle.question.specs.declared.Question.{Question}
use Rattle.field_check.specs.declared.Slots.{Slots}

abbrev pub fields_read_of : Result Slots Question → Result (List ℕ) Question
fields_read_of (Ok slots) = Ok slots.v
fields_read_of (Err q) = Err q
