-- A schedule held in memory: the words that a caller lends, and its members, or the first question answered no (document 02, request 2).
use Rattle.std.specs.Prelude.{ℕ, zero, suc, ◌+◌, ◌/◌, List, [], ◌∷◌, ltb, length}
use Rattle.question.specs.declared.Question.TheVariants.{Count, Mark}
use Rattle.question.specs.declared.Refusal.{Refusal}
use Rattle.question.specs.Reading.{Verdict}
use Rattle.question.specs.Reading.{Reading, got, and_then, ask, passed, refusal, named}
use Rattle.member.specs.Member.{Member}
use Rattle.field_layout.specs.Layout.{slot, part}
use Rattle.schedule.specs.Schedule.{count_fits}
use Rattle.verdict.specs.declared.Built.{Built}
use Rattle.verdict.specs.Built.{member_of}
use Rattle.verdict.specs.Verdict.{ask_verdict, built_verdict}

-- ---- The words: 42 to a member, its record (document 02's word).

abbrev pub record_words : ℕ
record_words = 42

-- the record at word p: mark, kind, 40 slots
unfoldable pub record_at : List ℕ → ℕ → Built
record_at words p = record { mark = slot words p; kind = slot words (p + 1); fields = record { v = part words (p + 2) 40 } }

-- n records from word p on
unfoldable pub records_from : ℕ → List ℕ → ℕ → List Built
records_from zero words p = []
records_from (suc n) words p = record_at words p ∷ records_from n words (p + record_words)

-- all of them; words left over are not read
unfoldable pub records_of : List ℕ → List Built
records_of words = records_from (length words / record_words) words 0

-- ---- The members.

-- 5 (range, and above the mark before) and the other questions of a built member
unfoldable pub record_verdict : ℕ → Built → Verdict
record_verdict before x = ask_verdict Mark (ltb before x.mark) (built_verdict x.mark x.kind x.fields.v)

-- the members of records, the first of them the i-th of the schedule
unfoldable pub record_members : ℕ → ℕ → List Built → Reading Refusal (List Member)
record_members before i [] = got []
record_members before i (x ∷ xs) =
    and_then (named i (passed (record_verdict before x) (got (member_of x)))) (λ m.
    and_then (record_members x.mark (i + 1) xs) (λ ms.
    got (m ∷ ms)))

-- the whole: 4, then each member's questions
unfoldable pub held_members : List ℕ → Reading Refusal (List Member)
held_members words = ask (refusal Count 0) (count_fits (length (records_of words))) (record_members 0 1 (records_of words))
