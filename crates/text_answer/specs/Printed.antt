-- A text, or a file, put into a buffer or refused: the answer in the papers' numbers, and the buffer afterwards (document 01, "One schedule, printed").
use Rattle.std.specs.Prelude.{ℕ, ◌≡◌, List, ◌++◌, leb, length, drop, Err, Ok, Result}
use Rattle.question.specs.declared.Question.TheVariants.{Buffer}
use Rattle.question.specs.declared.Refusal.{Refusal}
use Rattle.question.specs.Question.{number_of}
use Rattle.question.specs.Reading.{Reading, got, no, and_then, ask, refusal}

-- What an answer says, in numbers: the question answered no and its member, 0 and 0 where none was; and the text's length.
pub record Numbers : Type 0 where
  pub question : ℕ
  pub member : ℕ
  pub length : ℕ

abbrev pub written : ℕ → Numbers
written n = record { question = 0; member = 0; length = n }

abbrev pub refused : Refusal → Numbers
refused r = record { question = number_of r.question; member = r.member; length = 0 }

-- How many of the buffer's first bytes the text, or the file, has; or the first question answered no, and the buffer is as it was.
abbrev pub TextAnswer : Type 0
TextAnswer = Result ℕ Refusal

abbrev pub numbers_of : TextAnswer → Numbers
numbers_of (Ok n) = written n
numbers_of (Err r) = refused r

-- question 12 where there is no room for the text; it names member `whose`
abbrev pub text_too_long : ℕ → Refusal
text_too_long whose = refusal Buffer whose

-- is the text that is asked for at most `room` bytes? If not, the refusal is `full`.
abbrev pub ask_room : Refusal → ℕ → Reading Refusal (List ℕ) → Reading Refusal (List ℕ)
ask_room full room asked = and_then asked (λ text. ask full (leb (length text) room) (got text))

-- The answer to a text that is asked for or refused; and the same for a buffer of `room` bytes.
abbrev pub numbers_for : Reading Refusal (List ℕ) → Numbers
numbers_for (got text) = written (length text)
numbers_for (no r) = refused r

abbrev pub answered : Refusal → Reading Refusal (List ℕ) → ℕ → Numbers
answered full asked room = numbers_for (ask_room full room asked)

-- What the buffer holds afterwards. Bytes past the text stay; a refusal leaves the buffer.
abbrev pub buffer_with : Reading Refusal (List ℕ) → List ℕ → List ℕ
buffer_with (got text) buffer = text ++ drop (length text) buffer
buffer_with (no r) buffer = buffer

abbrev pub buffer_after : Refusal → Reading Refusal (List ℕ) → List ℕ → List ℕ
buffer_after full asked buffer = buffer_with (ask_room full (length buffer) asked) buffer

-- both, for a text that is asked for
pub record Printed (full : Refusal) (text before after : List ℕ) (answer : TextAnswer) : Type 0 where
  pub answer_is : numbers_of answer ≡ answered full (got text) (length before)
  pub buffer_is : after ≡ buffer_after full (got text) before
