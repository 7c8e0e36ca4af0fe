-- The report of a schedule and of one built member, or the refusal.
-- (document 01, "One schedule, printed")
use Rattle.std.specs.Prelude.{ℕ, List, Err, Ok}
use Rattle.question.specs.declared.Refusal.{Refusal}
use Rattle.member.specs.Member.{Member}
use Rattle.verdict.specs.declared.Built.{Built}
use Rattle.verdict.specs.Built.{member_of}
use Rattle.question.specs.Reading.{Verdict}
use Rattle.verdict.specs.Verdict.{built_verdict}
use Rattle.question.specs.Reading.{Reading, got, no, refusal}
use Rattle.schedule.specs.Schedule.{schedule}
use Rattle.report_text.specs.ReportText.{report_text, member_text}

-- of a schedule's bytes
abbrev pub report_or_no : Reading Refusal (List Member) → Reading Refusal (List ℕ)
report_or_no (got ms) = got (report_text ms)
report_or_no (no r) = no r

unfoldable pub report_of : List ℕ → Reading Refusal (List ℕ)
report_of src = report_or_no (schedule src)

-- of a built member; every refusal names member 1
abbrev pub line_or_no : Verdict → Member → Reading Refusal (List ℕ)
line_or_no (Ok tt) m = got (member_text m)
line_or_no (Err q) m = no (refusal q 1)

unfoldable pub member_report_of : Built → Reading Refusal (List ℕ)
member_report_of x = line_or_no (built_verdict x.mark x.kind x.fields.v) (member_of x)
