-- `held_schedule::read_record` meets its contract.
use Prim.Native.Nat.{◌+◌, ◌-◌}
use mathlib.Core.Path.{◌≡◌, refl}
use native.Mathlib.Omega.{arith}
use Rattle.field_layout.proofs.Part.{part_slice}
use Rattle.held_schedule.specs.HeldSchedule.{record_at}
use Rattle.held_schedule.proofs.read_record.Goals as goal

pub returns : goal.returns
unfolding record_at
returns c =
    let at = c.args.at in
    let n : at + 42 - (at + 2) ≡ 40 = omega arith in
    (rw (part_slice c.args.words.now (at + 2) 40 (omega arith), c.copy_from_slice.ensures.after, n), refl)
