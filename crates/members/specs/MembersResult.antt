-- What the code's results say, in the terms of the definitions.
use Rattle.std.specs.Prelude.{ℕ, List}
use Rattle.question.specs.declared.Question.{Question}
use Rattle.question.specs.declared.Refusal.{Refusal}
use Rattle.member.specs.Member.{Member}
use Rattle.verdict.specs.declared.Built.{Built}
use Rattle.question.specs.Reading.{Reading, got, no}
use Rattle.varint.specs.Placed.{Placed, placed}

-- the mark of a member that was read
abbrev pub marked : Reading Question (Placed Built) → Reading Question (Placed ℕ)
marked (got b) = got (placed b.value.mark b.next)
marked (no q) = no q

-- where a row of members ends
abbrev pub members_end : Reading Refusal (Placed (List Member)) → Reading Refusal (Placed (Unit {0}))
members_end (got ms) = got (placed tt ms.next)
members_end (no r) = no r
