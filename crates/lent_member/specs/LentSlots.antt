-- The slots (crate `field_layout`) into which the code puts a lent member: the terms of its inner contracts.
use Rattle.std.specs.Prelude.{ℕ, true, List, ◌++◌, length, drop, replicate}
use Rattle.bars.specs.declared.Group.{Group}
use Rattle.field_table.specs.declared.MemberKind.{MemberKind}
use Rattle.field_table.specs.declared.MemberKind.TheVariants as kinds
use Rattle.field_table.specs.Fields.{beam_links, column_links, beam_fields_of, column_fields, mesh_fields, kind_of}
use Rattle.field_layout.specs.Layout.{part, group_numbers}
use Rattle.verdict.specs.declared.Built.{Built}
use Rattle.lent_groups.specs.CopiedGroups.{first_four}
use Rattle.lent_member.specs.declared.Lent.{Lent}
use Rattle.lent_member.specs.Lent.{compression_count_given, beam_links_given, column_links_given}

-- the fields of a kind with its groups, each list after its count; of a beam as many as kind 4 has
abbrev pub beam_slots : List ℕ → List Group → List Group → List ℕ
beam_slots v first second = part v 0 9 ++ (group_numbers (first_four first) ++ (part v compression_count_given 1 ++ (group_numbers (first_four second) ++ part v beam_links_given (length (drop beam_links (beam_fields_of true))))))

abbrev pub column_slots : List ℕ → List Group → List ℕ
column_slots v first = part v 0 5 ++ (group_numbers (first_four first) ++ part v column_links_given (length (drop column_links column_fields)))

abbrev pub mesh_slots : List ℕ → List ℕ
mesh_slots v = part v 0 (length mesh_fields)

-- 40 slots: those given, then zeros
abbrev pub filled : List ℕ → List ℕ
filled s = s ++ drop (length s) (replicate 40 0)

unfoldable pub lent_slots : MemberKind → List ℕ → List Group → List Group → List ℕ
lent_slots (kinds.Beam pointLoad) v first second = filled (beam_slots v first second)
lent_slots kinds.Column v first second = filled (column_slots v first)
lent_slots kinds.Mesh v first second = filled (mesh_slots v)

abbrev pub built_of : Lent → List Group → List Group → Built
built_of x first second = record { mark = x.mark; kind = x.kind; fields = record { v = lent_slots (kind_of x.kind) x.fields.v first second } }
