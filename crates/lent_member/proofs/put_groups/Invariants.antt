-- `lent_member::put_groups`: the slots hold the groups before i.
use mathlib.Core.Path.{◌≡◌}
use lib.ListN.{take}
use Rattle.std.proofs.lemmas.List.Edits.{sets}
use Rattle.field_layout.specs.Layout.{group_numbers}
use Rattle.lent_member.proofs.put_groups.Given as goal

abbrev pub invariant-loop-i : goal.invariant-loop-i
invariant-loop-i l = l.v ≡ sets l.initial.v l.at (group_numbers (take l.i l.groups))
