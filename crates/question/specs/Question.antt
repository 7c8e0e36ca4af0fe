-- The numbers of the questions (document 01, "Questions before any check"; 13 and 14: document 02, requests 2 and 5).
use Rattle.std.specs.Prelude.{ℕ}
use Rattle.question.specs.declared.Question.{Question}
use Rattle.question.specs.declared.Question.TheVariants.{
  Size,
  NumberEnds,
  NumberForm,
  Count,
  Mark,
  Kind,
  Field,
  Consistency,
  Bars,
  Ratio,
  Trailing,
  Buffer,
  File,
  ServiceMoment,
}

abbrev pub number_of : Question → ℕ
number_of Size = 1
number_of NumberEnds = 2
number_of NumberForm = 3
number_of Count = 4
number_of Mark = 5
number_of Kind = 6
number_of Field = 7
number_of Consistency = 8
number_of Bars = 9
number_of Ratio = 10
number_of Trailing = 11
number_of Buffer = 12
number_of File = 13
number_of ServiceMoment = 14
