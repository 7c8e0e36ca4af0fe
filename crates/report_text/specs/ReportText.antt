-- The report's text: the number of members and a line for each, as they are listed or as they stand in a schedule's bytes.
use Rattle.std.specs.Prelude.{ℕ, zero, suc, List, [], ◌++◌}
use Rattle.text.specs.Text.{text_of}
use Rattle.line.specs.Line.{line_words, report_words, line_text}
use Rattle.question.specs.declared.Question.{Question}
use Rattle.member.specs.Member.{Member}
use Rattle.verdict.specs.declared.Built.{Built}
use Rattle.verdict.specs.Built.{member_of}
use Rattle.question.specs.Reading.{Reading, got, no}
use Rattle.varint.specs.Placed.{Placed}
use Rattle.members.specs.Members.{member}
use Rattle.checks.specs.MemberOutcome.{mark_of, outcome_of}

-- the report's text: `members n`, then a line for each member
abbrev pub report_text : List Member → List ℕ
report_text ms = text_of (report_words mark_of outcome_of ms)

-- a member's line
abbrev pub member_text : Member → List ℕ
member_text m = line_text (line_words (mark_of m) (outcome_of m))

-- the lines of n members from p on
abbrev pub with_member : Reading Question (Placed Built) → (Placed Built → List ℕ) → List ℕ
with_member (got b) line = line b
with_member (no q) line = []

unfoldable pub lines_from : ℕ → List ℕ → ℕ → List ℕ
lines_from zero src p = []
lines_from (suc n) src p = with_member (member src p 0) (λ b. member_text (member_of b.value) ++ lines_from n src b.next)
