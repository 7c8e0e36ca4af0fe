-- The numbers of a member's fields, by its kind and slots: the term of an inner contract.
use Rattle.std.specs.Prelude.{ℕ, List}
use Rattle.field_table.specs.declared.MemberKind.{MemberKind}
use Rattle.field_table.specs.declared.MemberKind.TheVariants as kinds
use Rattle.field_layout.specs.Layout.{beam_at, column_at, mesh_at}
use Rattle.encoding.specs.ScheduleBytes.{beam_numbers, column_numbers, mesh_numbers}

unfoldable pub field_numbers : MemberKind → List ℕ → List ℕ
field_numbers (kinds.Beam pointLoad) v = beam_numbers (beam_at pointLoad v)
field_numbers kinds.Column v = column_numbers (column_at v)
field_numbers kinds.Mesh v = mesh_numbers (mesh_at v)
