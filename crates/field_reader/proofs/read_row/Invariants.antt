use Prim.Native.Nat.{◌-◌}
use mathlib.Core.Path.{◌≡◌}
use Rattle.field_validator.specs.Taken.{taken_row}
use Rattle.field_reader.proofs.read_row.Given as goal

abbrev pub invariant-loop-i : goal.invariant-loop-i
invariant-loop-i l =
    let s = l.initial.input.src in
    (l.input.src ≡ s) × (taken_row (l.end - l.from) s.now l.initial.input.at l.from l.initial.v ≡ taken_row (l.end - l.i) s.now l.input.at l.i l.v)
