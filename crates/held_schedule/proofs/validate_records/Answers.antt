-- `held_schedule::validate_records` meets its contract. The loop's invariant: the answer to the records that are left is that to all of them.
use Rattle.std.specs.Prelude.{Ok}
use Prim.Native.Nat.{ℕ, ◌+◌, ◌-◌, ◌*◌, ◌<◌}
use mathlib.Core.Path.{◌≡◌, refl, sym, ◌∙◌}
use native.Mathlib.Omega.{arith}
use borrow.Author.Rules.{rules}
use Rattle.held_schedule.specs.HeldSchedule.{record_words}
use Rattle.held_schedule.proofs.Records.{counted, no_record, record_accepted}
use Rattle.held_schedule.proofs.validate_records.Goals as goal

one_fewer : (n i : ℕ) → n - (i + 1) ≡ n - i - 1
one_fewer n i = omega arith

pub loop-i-init : goal.loop-i-init
loop-i-init c =
    let e : c.args.count - 0 ≡ c.args.count = omega arith in
    (refl, rw e (counted _ _ 0 0 1))

pub loop-i-preserved : goal.loop-i-preserved
loop-i-preserved c =
    let h : 0 < c.args.count - c.loop-i.i-counter = omega arith in
    let yes : c.record_verdict.result ≡ Ok tt = search rules in
    let r = c.read_record-next.ensures in
    let at : c.read_record-next.result.1 ≡ (c.loop-i.i-counter + 1) * record_words = rw r.1 (omega arith) in (
      at,
      rw (one_fewer c.args.count c.loop-i.i-counter, r.0, r.1)
          (c.loop-i.invariant.1 ∙ record_accepted _ _ _ _ _ _ h (rw r.0 at (sym c.record_verdict.ensures ∙ yes))),
    )

pub returns : goal.returns
returns c = sym (c.loop-i.invariant.1 ∙ no_record _ (c.args.count - c.loop-i.i-counter) _ _ _ _ (omega arith))
