-- The text that `put_whole` puts.
use Rattle.std.specs.Prelude.{◌++◌}
use Rattle.varint.specs.Encoding.{bytes_of}
use Rattle.held_schedule.specs.HeldSchedule.{records_from}
use Rattle.round_trip.specs.RecordBytes.{records_bytes}
use Rattle.writer.proofs.write_records.Given as goal

abbrev pub ghost-put_whole : goal.ghost-put_whole
ghost-put_whole a = bytes_of a.put.1.now ++ records_bytes (records_from a.put.1.now a.put.0.now 0)
