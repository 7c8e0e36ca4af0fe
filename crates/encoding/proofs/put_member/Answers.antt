-- `encoding::put_member` meets its contract.
use Rattle.text.proofs.Put.{wrote_then}
use Rattle.encoding.specs.ScheduleBytes.{bytes_of_all}
use Rattle.encoding.proofs.Rows.{member_numbers_lem}
use Rattle.encoding.proofs.put_member.Goals as goal

pub put_fields-requires : goal.put_fields-requires
put_fields-requires c = rw c.kind_of.ensures c.requires.1

pub returns : goal.returns
unfolding bytes_of_all
returns c =
    rw (← member_numbers_lem _ _ _ c.requires.0, ← c.kind_of.ensures)
    (wrote_then c.put_number.ensures (wrote_then c.put_number-2.ensures c.put_fields.ensures))
