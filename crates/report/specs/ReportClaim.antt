-- Demand 3 as one claim about the bytes in the buffer, and the whole promise of each entry.
use Rattle.std.specs.Prelude.{ℕ, suc, ◌<◌, ◌≡◌, List, length, get_or, take}
use Rattle.text.specs.Text.{value_of, word_of, line_of}
use Rattle.member.specs.Member.{Member}
use Rattle.verdict.specs.declared.Built.{Built}
use Rattle.verdict.specs.Built.{member_of}
use Rattle.question.specs.Reading.{got}
use Rattle.schedule.specs.Schedule.{schedule}
use Rattle.checks.specs.LineClaim.{SafeLine}
use Rattle.text_answer.specs.Printed.{TextAnswer}
use Rattle.text_answer.specs.Printed.{numbers_of, text_too_long, answered, buffer_after}
use Rattle.report.specs.Report.{report_of, member_report_of}

-- Of every member of the schedule, in order: its line, read back from the text's bytes, is safe for its fields.
-- The first line says how many members there are.
pub record SafeReport (ms : List Member) (text : List ℕ) : Type 0 where
  pub total : value_of (word_of 1 (line_of 0 text)) ≡ length ms
  pub lines : (i : ℕ) (m : Member) → i < length ms → SafeLine (get_or ms i m) (line_of (suc i) text)

-- What `report` promises, for all bytes and every buffer: the answer, the whole buffer afterwards, and demand 3 of the text in it.
pub record Reported (src before after : List ℕ) (answer : TextAnswer) : Type 0 where
  pub answer_is : numbers_of answer ≡ answered (text_too_long 0) (report_of src) (length before)
  pub buffer_is : after ≡ buffer_after (text_too_long 0) (report_of src) before
  pub claim : (ms : List Member) → schedule src ≡ got ms → (numbers_of answer).question ≡ 0 → SafeReport ms (take (numbers_of answer).length after)

-- What `member_report` promises of a built member.
pub record MemberReported (x : Built) (before after : List ℕ) (answer : TextAnswer) : Type 0 where
  pub answer_is : numbers_of answer ≡ answered (text_too_long 1) (member_report_of x) (length before)
  pub buffer_is : after ≡ buffer_after (text_too_long 1) (member_report_of x) before
  pub claim : (numbers_of answer).question ≡ 0 → SafeLine (member_of x) (line_of 0 (take (numbers_of answer).length after))
