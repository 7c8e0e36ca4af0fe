-- A member that a caller built, its groups of bars lent beside it as lists.
-- It is its mark, its kind, and the fields of its kind in the order of document 01 without the groups; the lists are tension and compression of a beam, the first alone of a column, none of a mesh.
use Rattle.std.specs.Prelude.{ℕ, Bool, ◌&&◌, List, [], ◌∷◌, take, if◌then◌else◌}
use Rattle.question.specs.declared.Question.TheVariants.{Mark, Kind, Field}
use Rattle.bars.specs.declared.Group.{Group}
use Rattle.member.specs.Member.{Beam, Column, Member, beam, column, mesh}
use Rattle.field_domain.specs.declared.Domain.{Domain}
use Rattle.field_domain.specs.Domain.{presence, is_always}
use Rattle.field_table.specs.declared.MemberKind.{MemberKind}
use Rattle.field_table.specs.declared.MemberKind.TheVariants as kinds
use Rattle.field_table.specs.Fields.{tension_count, column_count, known, kind_of, fields_of}
use Rattle.field_check.specs.FieldCheck.{fields_hold}
use Rattle.field_layout.specs.Layout.{slot, beam_from, column_from, mesh_at}
use Rattle.question.specs.Reading.{Verdict}
use Rattle.verdict.specs.Verdict.{ask_verdict, mark_in_range, verdict_of}
use Rattle.lent_groups.specs.LentGroups.{named_hold}
use Rattle.lent_member.specs.declared.Lent.{Lent}

-- ---- The member.

-- its fields by place: field i stands in place i, the groups left out, so those after a list's count follow it at once
abbrev pub compression_count_given : ℕ
compression_count_given = 9

abbrev pub beam_links_given : ℕ
beam_links_given = 10

abbrev pub column_links_given : ℕ
column_links_given = 5

-- its groups are the first of each list, as many as its count says
unfoldable pub lent_beam : Bool → List ℕ → List Group → List Group → Beam
lent_beam pointLoad v first second = beam_from pointLoad v beam_links_given (take (slot v tension_count) first) (take (slot v compression_count_given) second)

unfoldable pub lent_column : List ℕ → List Group → Column
lent_column v first = column_from v column_links_given (take (slot v column_count) first)

-- a mesh has no groups: its fields stand as in a schedule
abbrev pub lent_of : MemberKind → ℕ → List ℕ → List Group → List Group → Member
lent_of (kinds.Beam pointLoad) mark v first second = beam mark (lent_beam pointLoad v first second)
lent_of kinds.Column mark v first second = column mark (lent_column v first)
lent_of kinds.Mesh mark v first second = mesh mark (mesh_at v)

unfoldable pub lent_member : Lent → List Group → List Group → Member
lent_member x first second = lent_of (kind_of x.kind) x.mark x.fields.v first second

-- ---- Its questions: 5 (range only), 6, 7, and those of a whole member.

-- the fields of a kind without those of its groups
abbrev pub ungrouped : List Domain → List Domain
ungrouped [] = []
ungrouped (d ∷ ds) = if is_always (presence d) then d ∷ ungrouped ds else ungrouped ds

-- how many groups of the first and of the second list the counts name
abbrev pub first_count : MemberKind → List ℕ → ℕ
first_count (kinds.Beam pointLoad) v = slot v tension_count
first_count kinds.Column v = slot v column_count
first_count kinds.Mesh v = 0

abbrev pub second_count : MemberKind → List ℕ → ℕ
second_count (kinds.Beam pointLoad) v = slot v compression_count_given
second_count kinds.Column v = 0
second_count kinds.Mesh v = 0

-- 7
unfoldable pub lent_fields_hold : MemberKind → List ℕ → List Group → List Group → Bool
lent_fields_hold kind v first second =
    fields_hold (ungrouped (fields_of kind)) 0 v && (named_hold (first_count kind v) first && named_hold (second_count kind v) second)

unfoldable pub lent_verdict : Lent → List Group → List Group → Verdict
lent_verdict x first second =
    ask_verdict Mark (mark_in_range x.mark)
    (ask_verdict Kind (known x.kind)
    (ask_verdict Field (lent_fields_hold (kind_of x.kind) x.fields.v first second)
    (verdict_of (lent_member x first second))))
