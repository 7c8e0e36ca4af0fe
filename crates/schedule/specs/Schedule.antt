-- The schedule that bytes define, or the first question answered no, with its member; and the answer.
-- (document 01, "Schedule bytes" and "Questions before any check")
use Rattle.std.specs.Prelude.{ℕ, Bool, List, leb, length, Err, Ok, Result}
use Rattle.question.specs.declared.Question.TheVariants.{Size, Count, Trailing}
use Rattle.question.specs.declared.Refusal.{Refusal}
use Rattle.member.specs.Member.{Member}
use Rattle.question.specs.Reading.{Reading, got, no, and_then, ask, refusal, named}
use Rattle.field_validator.specs.FieldsAt.{checked}
use Rattle.members.specs.Members.{members}

-- 4: at most 500 members
abbrev pub count_fits : ℕ → Bool
count_fits n = leb n 500

-- the whole: 1, the count (2, 3, 4), the members, 11
unfoldable pub schedule : List ℕ → Reading Refusal (List Member)
schedule s =
    ask (refusal Size 0) (leb (length s) 60000)
    (and_then (named 0 (checked Count count_fits s 0)) (λ n.
    and_then (members n.value s n.next 0 1) (λ ms.
    ask (refusal Trailing 0) (leb (length s) ms.next)
    (got ms.value))))

-- the number of members, or the refusal
abbrev pub ScheduleAnswer : Type 0
ScheduleAnswer = Result ℕ Refusal

-- the number of members, or the refusal
abbrev pub schedule_answer : Reading Refusal (List Member) → ScheduleAnswer
schedule_answer (got ms) = Ok (length ms)
schedule_answer (no r) = Err r
