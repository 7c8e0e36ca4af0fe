-- `writer::write_records` meets its contract.
use Rattle.std.proofs.Common.{rules, ◌+◌, ◌*◌}
use native.Mathlib.Omega.{arith}
use Rattle.writer.proofs.Written.{records_fit}
use Rattle.writer.proofs.write_records.Goals as goal

pub put_whole-requires : goal.put_whole-requires
put_whole-requires c κs within =
    let pre = c.requires in
    search (rules, records_fit c.args.count c.args.words.now (2 + 61 * c.args.count) pre.0 pre.2 (omega arith))
