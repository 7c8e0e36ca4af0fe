-- `writer::put_records` meets its contract.
use Prim.Native.Nat.{ℕ, ◌+◌, ◌-◌, ◌*◌, ◌<◌}
use mathlib.Core.Path.{◌≡◌, refl}
use native.Mathlib.Omega.{arith}
use Rattle.text.proofs.Put.{leaves_all, leaves_more, leaves_none}
use Rattle.held_schedule.specs.HeldSchedule.{record_words}
use Rattle.writer.proofs.Records.{records_none, first_in_range, others_in_range, records_more, read_in_range, wrote_record}
use Rattle.writer.proofs.put_records.Goals as goal

one_fewer : (n i : ℕ) → n - (i + 1) ≡ n - i - 1
one_fewer n i = omega arith

pub loop-init : goal.loop-init
loop-init c =
    let e : c.args.count - 0 ≡ c.args.count = omega arith in
    rw e (refl, c.requires.1, leaves_all _ _ (omega arith))

pub put_member-requires : goal.put_member-requires
put_member-requires c =
    read_in_range c.read_record-next.ensures.0 (first_in_range _ _ _ (omega arith) c.loop.invariant.1)

pub loop-preserved : goal.loop-preserved
loop-preserved c =
    let l = c.loop in
    let r = c.read_record-next.ensures in
    let h : 0 < c.args.count - l.counter = omega arith in
    let at : c.read_record-next.result.1 ≡ (l.counter + 1) * record_words = rw r.1 (omega arith) in (
      at,
      rw (one_fewer c.args.count l.counter, r.1) (others_in_range _ _ _ h l.invariant.1),
      rw (one_fewer c.args.count l.counter, r.1) (leaves_more _ _ (rw (records_more _ _ _ h) at l.invariant.2) (wrote_record r.0 c.put_member.ensures)),
    )

pub returns : goal.returns
returns c =
    leaves_none (rw (records_none (c.args.count - c.loop.counter) _ c.loop.at (omega arith)) at c.loop.invariant.2)
