-- `report_text::put_members` meets its contract.
use Prim.Native.Nat.{ℕ, ◌+◌, ◌-◌, ◌<◌}
use mathlib.Core.Path.{◌≡◌, sym, ◌∙◌}
use native.Mathlib.Omega.{arith}
use Rattle.text.proofs.Put.{leaves_more, leaves_none}
use Rattle.members.proofs.Accepted.{member_was, first_accepted, others_accepted}
use Rattle.report_text.proofs.ReportText.{lines_none, lines_more, wrote_member}
use Rattle.report_text.proofs.put_members.Goals as goal

one_fewer : (n i : ℕ) → n - (i + 1) ≡ n - i - 1
one_fewer n i = omega arith

pub read_member-m-requires : goal.read_member-m-requires
read_member-m-requires c =
    let l = c.loop.invariant in
    rw l.0 (first_accepted _ _ _ (omega arith) l.1)

pub invariant_of-x : goal.invariant_of-x
invariant_of-x c =
    record { accepted = rw c.kind_of.ensures (member_was _ _ 0 c.read_member-m.result _ (sym c.read_member-m.ensures.reads)).accepted }

pub loop-preserved : goal.loop-preserved
loop-preserved c =
    let l = c.loop in
    let m = c.read_member-m in
    let reads = sym (rw l.invariant.0 at m.ensures.reads) in
    let h : 0 < c.args.schedule.count - l.counter = omega arith in
    rw (one_fewer c.args.schedule.count l.counter) (
      m.ensures.same ∙ l.invariant.0,
      others_accepted _ _ _ h _ _ reads l.invariant.1,
      leaves_more _ _ (rw (lines_more _ _ _ h _ _ reads) at l.invariant.2)
          (wrote_member m.result _ (rw c.kind_of.ensures at c.check_member.ensures) c.put_line.ensures),
    )

pub returns : goal.returns
returns c =
    leaves_none (rw (lines_none (c.args.schedule.count - c.loop.counter) _ c.loop.input.at (omega arith)) at c.loop.invariant.2)
