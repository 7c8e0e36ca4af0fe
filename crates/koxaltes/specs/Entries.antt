-- The whole promise of each entry: what `report` and `write_schedule` promise (crates `report`, `writer`), said of the struct that the caller gets.
use Rattle.std.specs.Prelude.{ℕ, ◌≡◌, List, length, take}
use Rattle.text.specs.Text.{line_of}
use Rattle.question.specs.declared.Refusal.{Refusal}
use Rattle.bars.specs.declared.Group.{Group}
use Rattle.member.specs.Member.{Member}
use Rattle.question.specs.Reading.{Reading, got}
use Rattle.schedule.specs.Schedule.{schedule}
use Rattle.checks.specs.LineClaim.{SafeLine}
use Rattle.lent_member.specs.declared.Lent.{Lent}
use Rattle.lent_member.specs.Lent.{lent_verdict, lent_member}
use Rattle.held_schedule.specs.HeldSchedule.{held_members}
use Rattle.text_answer.specs.Printed.{text_too_long, answered, buffer_after}
use Rattle.report.specs.Report.{line_or_no, report_of}
use Rattle.report.specs.ReportClaim.{SafeReport}
use Rattle.writer.specs.Written.{file_of, file_too_long, FileClaim, EachOnly}
use Rattle.answer_record.specs.declared.AnswerRecord.{AnswerRecord}
use Rattle.answer_record.specs.AnswerRecord.{answer_record}

-- `koxaltes_report`, for all bytes and every buffer: the answer, the whole buffer afterwards, and demand 3 of the text in it.
pub record ReportEntry (src before after : List ℕ) (r : AnswerRecord) : Type 0 where
  pub answer_is : r ≡ answer_record (answered (text_too_long 0) (report_of src) (length before))
  pub buffer_is : after ≡ buffer_after (text_too_long 0) (report_of src) before
  pub claim : (ms : List Member) → schedule src ≡ got ms → r.question ≡ 0 → SafeReport ms (take r.length after)

-- the line of a lent member that is accepted; every refusal names member 1
unfoldable pub lent_report_of : Lent → List Group → List Group → Reading Refusal (List ℕ)
lent_report_of x first second = line_or_no (lent_verdict x first second) (lent_member x first second)

-- `koxaltes_member_report`, of a member m whose line, or refusal, is `line`.
pub record MemberEntry (line : Reading Refusal (List ℕ)) (m : Member) (before after : List ℕ) (r : AnswerRecord) : Type 0 where
  pub answer_is : r ≡ answer_record (answered (text_too_long 1) line (length before))
  pub buffer_is : after ≡ buffer_after (text_too_long 1) line before
  pub claim : r.question ≡ 0 → SafeLine m (line_of 0 (take r.length after))

-- `koxaltes_write_schedule`, for all words and every buffer: the answer, the whole buffer afterwards, what holds of the file in it, that no
-- two accepted files have the same members, and that question 1 is never the answer.
pub record WriteEntry (words before after : List ℕ) (r : AnswerRecord) : Type 0 where
  pub answer_is : r ≡ answer_record (answered file_too_long (file_of words) (length before))
  pub buffer_is : after ≡ buffer_after file_too_long (file_of words) before
  pub claim : (ms : List Member) → held_members words ≡ got ms → r.question ≡ 0 → FileClaim ms (take r.length after)
  pub each_only : EachOnly
  pub never_1 : r.question ≡ 1 → ⊥
