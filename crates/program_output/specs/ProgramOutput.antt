-- What the report program prints for a schedule's bytes (document 01, "One schedule, printed").
use Rattle.std.specs.Prelude.{ℕ, ◌≤◌, ◌≡◌, List, ◌++◌, length, take, drop}
use Rattle.text.specs.Put.{Put}
use Rattle.line.specs.Line.{refusal_words, line_text}
use Rattle.question.specs.declared.Refusal.{Refusal}
use Rattle.question.specs.Question.{number_of}
use Rattle.member.specs.Member.{Member}
use Rattle.question.specs.Reading.{Reading, got, no}
use Rattle.text_answer.specs.Printed.{text_too_long, ask_room}
use Rattle.schedule.specs.Schedule.{schedule}
use Rattle.report_text.specs.ReportText.{report_text}
use Rattle.report.specs.Report.{report_of}
use Rattle.report.specs.ReportClaim.{SafeReport}

-- refused N member M
abbrev pub refusal_text : Refusal → List ℕ
refusal_text r = line_text (refusal_words (number_of r.question) r.member)

-- the report, or the refusal
abbrev pub shown : Reading Refusal (List ℕ) → List ℕ
shown (got text) = text
shown (no r) = refusal_text r

unfoldable pub output_of : List ℕ → List ℕ
output_of src = shown (report_of src)

-- What `print_schedule` promises, for all bytes and every buffer.
pub record PrintedSchedule (src before after : List ℕ) (n : ℕ) : Type 0 where
  -- the report, or the refusal, 12 among them, is put at the buffer's start
  pub put : Put before 0 (shown (ask_room (text_too_long 0) (length before) (report_of src))) after n
  -- 60,000 bytes are room for every report: then the output is whole, 12 is never the refusal, and the bytes past the output stay
  pub whole : 60000 ≤ length before → (n ≡ length (output_of src)) × (after ≡ output_of src ++ drop (length (output_of src)) before)
  -- demand 3 of the text, wherever the report fits
  pub claim : (ms : List Member) → schedule src ≡ got ms → length (report_text ms) ≤ length before → SafeReport ms (take n after)
