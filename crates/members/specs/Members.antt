-- The members of a schedule that bytes define, or the first question answered no, with its member.
-- (document 01, "Schedule bytes" and "Questions before any check")
use Rattle.std.specs.Prelude.{ℕ, zero, suc, ◌+◌, Bool, ◌&&◌, List, [], ◌∷◌, ltb}
use Rattle.question.specs.declared.Question.{Question}
use Rattle.question.specs.declared.Question.TheVariants.{Mark, Kind}
use Rattle.question.specs.declared.Refusal.{Refusal}
use Rattle.member.specs.Member.{Member}
use Rattle.field_table.specs.Fields.{known, kind_of, fields_of}
use Rattle.verdict.specs.declared.Built.{Built}
use Rattle.verdict.specs.Built.{member_of}
use Rattle.verdict.specs.Verdict.{mark_in_range, member_verdict}
use Rattle.question.specs.Reading.{Reading, got, and_then, passed, named}
use Rattle.varint.specs.Placed.{Placed, placed}
use Rattle.field_validator.specs.FieldsAt.{checked, fields, empty}

-- the member with this mark and kind, whose fields stand from p on: 7, then the questions of a whole member
unfoldable pub member_body : ℕ → ℕ → List ℕ → ℕ → Reading Question (Placed Built)
member_body mark kind s p =
    and_then (fields (fields_of (kind_of kind)) s p 0 empty) (λ f.
    passed (member_verdict (kind_of kind) f.value) (got (placed (record { mark = mark; kind = kind; fields = record { v = f.value } }) f.next)))

-- 5: in range, and above the mark before
unfoldable pub mark_rises : ℕ → ℕ → Bool
mark_rises before mark = mark_in_range mark && ltb before mark

-- the mark at p; the kind at p
unfoldable pub mark_at : List ℕ → ℕ → ℕ → Reading Question (Placed ℕ)
mark_at s p before = checked Mark (mark_rises before) s p

unfoldable pub kind_at : List ℕ → ℕ → Reading Question (Placed ℕ)
kind_at s p = checked Kind known s p

-- the member at p: 5, 6, then the rest
unfoldable pub member : List ℕ → ℕ → ℕ → Reading Question (Placed Built)
member s p before =
    and_then (mark_at s p before) (λ m.
    and_then (kind_at s m.next) (λ k.
    member_body m.value k.value s k.next))

-- n members from p on, the first of them the i-th of the schedule
unfoldable pub members : ℕ → List ℕ → ℕ → ℕ → ℕ → Reading Refusal (Placed (List Member))
members zero s p before i = got (placed [] p)
members (suc n) s p before i =
    and_then (named i (member s p before)) (λ m.
    and_then (members n s m.next m.value.mark (i + 1)) (λ ms.
    got (placed (member_of m.value ∷ ms.value) ms.next)))
