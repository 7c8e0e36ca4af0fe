-- The bytes of records one after the other, and those of their questions that must have passed before they are put: the terms of the writer's inner contracts.
use Rattle.std.specs.Prelude.{◌≡◌, true, List, map, ℕ}
use Rattle.quantity.specs.All.{All}
use Rattle.field_table.specs.Fields.{known, kind_of, fields_of}
use Rattle.field_check.specs.FieldCheck.{fields_hold}
use Rattle.verdict.specs.declared.Built.{Built}
use Rattle.verdict.specs.Built.{member_of}
use Rattle.verdict.specs.Verdict.{mark_in_range}
use Rattle.encoding.specs.ScheduleBytes.{members_bytes}

unfoldable pub records_bytes : List Built → List ℕ
records_bytes xs = members_bytes (map member_of xs)

-- 5 (range only), 6 and 7
abbrev pub InRange : Built → Type 0
InRange x = (mark_in_range x.mark ≡ true) × (known x.kind ≡ true) × (fields_hold (fields_of (kind_of x.kind)) 0 x.fields.v ≡ true)

abbrev pub AllInRange : List Built → Type 0
AllInRange xs = All InRange xs
