-- The questions of a whole member, 8 to 10 and then 14, and those of a single built member.
-- (document 01, "Questions before any check"; 14: document 02, request 5)
use Rattle.std.specs.Prelude.{ℕ, Bool, List, if◌then◌else◌, Err, Ok}
use Rattle.question.specs.declared.Question.{Question}
use Rattle.question.specs.declared.Question.TheVariants.{Mark, Kind, Field, Consistency, Bars, Ratio, ServiceMoment}
use Rattle.member.specs.Member.{Beam, Column, Mesh, Member, beam, column, mesh}
use Rattle.consistency.specs.Consistency.{beam_consistent, column_consistent, mesh_consistent}
use Rattle.reinforcement.specs.Reinforcement.{beam_bars, beam_ratio, column_bars}
use Rattle.service_moment.specs.ServiceMoment.{service_moment_fits}
use Rattle.field_domain.specs.Domain.{in_range}
use Rattle.field_table.specs.declared.MemberKind.{MemberKind}
use Rattle.field_table.specs.Fields.{known, kind_of, fields_of}
use Rattle.field_check.specs.FieldCheck.{fields_hold}
use Rattle.field_layout.specs.Layout.{member_at}
use Rattle.question.specs.Reading.{Verdict}

-- question q is put: a no is the answer
abbrev pub ask_verdict : Question → Bool → Verdict → Verdict
ask_verdict q holds next = if holds then next else Err q

-- 8, 9, 10, 14
unfoldable pub beam_verdict : Beam → Verdict
beam_verdict x =
    ask_verdict Consistency (beam_consistent x)
    (ask_verdict Bars (beam_bars x)
    (ask_verdict Ratio (beam_ratio x)
    (ask_verdict ServiceMoment (service_moment_fits x) (Ok tt))))

-- 8, 9
unfoldable pub column_verdict : Column → Verdict
column_verdict x = ask_verdict Consistency (column_consistent x) (ask_verdict Bars (column_bars x) (Ok tt))

-- 8
unfoldable pub mesh_verdict : Mesh → Verdict
mesh_verdict x = ask_verdict Consistency (mesh_consistent x) (Ok tt)

abbrev pub verdict_of : Member → Verdict
verdict_of (beam mark x) = beam_verdict x
verdict_of (column mark x) = column_verdict x
verdict_of (mesh mark x) = mesh_verdict x

-- of a member in slots, whatever its mark
unfoldable pub member_verdict : MemberKind → List ℕ → Verdict
member_verdict kind v = verdict_of (member_at 0 kind v)

-- 5, range only
unfoldable pub mark_in_range : ℕ → Bool
mark_in_range mark = in_range 1 999999 mark

-- 7, and the questions of a whole member of this kind
unfoldable pub fields_verdict : MemberKind → List ℕ → Verdict
fields_verdict kind v = ask_verdict Field (fields_hold (fields_of kind) 0 v) (member_verdict kind v)

-- 5 (range only), 6, 7, and the questions of a whole member
unfoldable pub built_verdict : ℕ → ℕ → List ℕ → Verdict
built_verdict mark number v = ask_verdict Mark (mark_in_range mark) (ask_verdict Kind (known number) (fields_verdict (kind_of number) v))
