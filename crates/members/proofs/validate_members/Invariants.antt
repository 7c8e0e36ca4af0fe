use Prim.Native.Nat.{◌+◌, ◌-◌}
use mathlib.Core.Path.{◌≡◌}
use Rattle.members.specs.Members.{members}
use Rattle.members.specs.MembersResult.{members_end}
use Rattle.members.proofs.validate_members.Given as goal

abbrev pub invariant-loop-i : goal.invariant-loop-i
invariant-loop-i l =
    let s = l.initial.input.src in
    (l.after.src ≡ s)
    × (members_end (members l.count s.now l.initial.input.at 0 1) ≡ members_end (members (l.count + 1 - l.i-counter) s.now l.after.at l.before l.i-counter))
