use Prim.Native.Nat.{◌-◌, ◌*◌}
use mathlib.Core.Path.{◌≡◌}
use Rattle.text.proofs.Put.{Leaves}
use Rattle.held_schedule.specs.HeldSchedule.{record_words, records_from}
use Rattle.round_trip.specs.RecordBytes.{records_bytes, AllInRange}
use Rattle.writer.proofs.put_records.Given as goal

abbrev pub invariant-loop : goal.invariant-loop
invariant-loop l =
    let left = records_from (l.count - l.counter) l.words l.at in
    (l.at ≡ l.counter * record_words) × AllInRange left × Leaves l.initial.w (records_bytes (records_from l.count l.words 0)) l.w (records_bytes left)
