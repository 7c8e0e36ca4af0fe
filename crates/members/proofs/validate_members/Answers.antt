-- `members::validate_members` meets its contract.
use Prim.Native.Nat.{suc, ◌+◌, ◌-◌}
use mathlib.Core.Path.{◌≡◌, sym, ap, ◌∙◌}
use native.Mathlib.Omega.{arith}
use borrow.Author.Rules.{rules}
use Rattle.std.specs.Prelude.{Ok}
use Rattle.members.specs.MembersResult.{members_end}
use Rattle.members.proofs.Members.{no_member, member_read}
use Rattle.members.proofs.validate_members.Goals as goal

pub loop-i-preserved : goal.loop-i-preserved
loop-i-preserved c =
    let l = c.loop-i.invariant in
    let m = c.validate_member.ensures in
    let read : c.validate_member.result ≡ Ok c.in_ok-before.before = search rules in
    let left : c.args.count + 1 - c.loop-i.i-counter ≡ suc (c.args.count + 1 - (c.loop-i.i-counter + 1)) = omega arith in
    (m.same ∙ l.0, l.1 ∙ member_read _ _ _ _ _ _ left _ _ (rw l.0 at m.reads) _ read)

-- the last member
pub returns-in_ok-before-clause-moved : goal.returns-in_ok-before-clause-moved
returns-in_ok-before-clause-moved c =
    let l = c.loop-i.invariant in
    let m = c.validate_member.ensures in
    let read : c.validate_member.result ≡ Ok c.in_ok-before.before = search rules in
    let left : c.args.count + 1 - c.loop-i.i-counter ≡ suc 0 = omega arith in
    record {
      same = m.same ∙ l.0;
      reads = sym (l.1 ∙ member_read _ _ _ _ _ _ left _ _ (rw l.0 at m.reads) _ read ∙ ap members_end (no_member 0 _ _ _ _ (omega arith)));
    }
