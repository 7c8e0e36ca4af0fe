-- The file of a held schedule, or the refusal; and the whole promise of writing it (document 02, request 2).
use Rattle.std.specs.Prelude.{ℕ, ◌+◌, ◌*◌, ◌≤◌, ◌≡◌, List, length, take}
use Rattle.question.specs.declared.Question.TheVariants.{File}
use Rattle.question.specs.declared.Refusal.{Refusal}
use Rattle.question.specs.Reading.{Reading, got, and_then, refusal}
use Rattle.varint.specs.Encoding.{Bytes}
use Rattle.member.specs.Member.{Member}
use Rattle.schedule.specs.Schedule.{schedule}
use Rattle.encoding.specs.ScheduleBytes.{schedule_bytes}
use Rattle.held_schedule.specs.HeldSchedule.{held_members}
use Rattle.text_answer.specs.Printed.{TextAnswer}
use Rattle.text_answer.specs.Printed.{numbers_of, answered, buffer_after}
use Rattle.report_text.specs.ReportText.{report_text}
use Rattle.report.specs.Report.{report_of}
use Rattle.report.specs.ReportClaim.{SafeReport}

-- the bytes of its members, or the first question answered no
unfoldable pub file_of : List ℕ → Reading Refusal (List ℕ)
file_of words = and_then (held_members words) (λ ms. got (schedule_bytes ms))

-- question 13: the file is longer than the buffer; it names no member
abbrev pub file_too_long : Refusal
file_too_long = refusal File 0

-- no file of n members has more bytes: two for their number, 61 for each
abbrev pub most_bytes : ℕ → ℕ
most_bytes n = 2 + 61 * n

-- of all strings of bytes, this file alone is read as ms
abbrev pub OnlyFile : List Member → List ℕ → Type 0
OnlyFile ms file = (s : List ℕ) → Bytes s → schedule s ≡ got ms → s ≡ file

-- Of the members ms and their file: it is their bytes; it is read as them, and no other is; it has at most 60,000 bytes, and at most those
-- that so many members can have; its report is theirs, with demand 3 of every line.
pub record FileClaim (ms : List Member) (file : List ℕ) : Type 0 where
  pub bytes : file ≡ schedule_bytes ms
  pub reads : schedule file ≡ got ms
  pub only : OnlyFile ms file
  pub short : length file ≤ 60000
  pub most : length file ≤ most_bytes (length ms)
  pub reports : report_of file ≡ got (report_text ms)
  pub safe : SafeReport ms (report_text ms)

-- each accepted file, written by us or not, is the only one for its members
abbrev pub EachOnly : Type 0
EachOnly = (file : List ℕ) (ms : List Member) → Bytes file → schedule file ≡ got ms → OnlyFile ms file

-- What `write_schedule` promises, for all words and every buffer: the answer, the whole buffer afterwards, what holds of the file in it,
-- that no two accepted files have the same members, and that question 1 is never the answer.
pub record ScheduleWritten (words before after : List ℕ) (answer : TextAnswer) : Type 0 where
  pub answer_is : numbers_of answer ≡ answered file_too_long (file_of words) (length before)
  pub buffer_is : after ≡ buffer_after file_too_long (file_of words) before
  pub claim : (ms : List Member) → held_members words ≡ got ms → (numbers_of answer).question ≡ 0 → FileClaim ms (take (numbers_of answer).length after)
  pub each_only : EachOnly
  pub never_1 : (numbers_of answer).question ≡ 1 → ⊥
