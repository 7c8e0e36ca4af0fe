-- What an accepted schedule says: how it was read, and that each of its members is accepted.
use Rattle.std.specs.Prelude.{Ok}
use Prim.Native.Nat.{ℕ, ◌≤◌}
use mathlib.Core.Path.{◌≡◌, refl, ap, ◌∙◌}
use mathlib.Core.Bool.{Bool, true, false}
use mathlib.Core.List.{List}
use native.Mathlib.Omega.{arith}
use lib.Dec.{leb}
use lib.ListN.{length}
use borrow.Author.Tests.{leb-true}
use Rattle.question.specs.declared.Question.{Question}
use Rattle.question.specs.declared.Question.TheVariants.{Size, Count, Trailing}
use Rattle.varint.specs.Varint.{number_at}
use Rattle.member.specs.Member.{Member}
use Rattle.member.specs.Accepted.{AcceptedMembers}
use Rattle.question.specs.Reading.{Reading, got, ask, refusal, named, no}
use Rattle.varint.specs.Placed.{placed}
use Rattle.field_validator.specs.FieldsAt.{checked}
use Rattle.field_validator.proofs.Checked.{passes}
use Rattle.members.specs.Members.{members}
use Rattle.members.proofs.Members.{members_length}
use Rattle.members.proofs.Accepted.{no_got, went_on, number_was, members_accepted}
use Rattle.schedule.specs.Schedule.{count_fits, schedule}

-- how an accepted schedule was read
pub record ScheduleRead (s : List ℕ) (ms : List Member) : Type 0 where
  pub count : ℕ
  pub start : ℕ
  pub end : ℕ
  pub short : length s ≤ 60000
  pub counted : number_at s 0 ≡ Ok (count, start)
  pub few : count ≤ 500
  pub reads : members count s start 0 1 ≡ got (placed ms end)
  pub whole : length s ≤ end

pub asked_got : {N A : Type 0} (q : N) (t : Bool) (next : Reading N A) (a : A) → ask q t next ≡ got a → (t ≡ true) × (next ≡ got a)
asked_got q true next a e = (refl, e)
asked_got q false next a e = absurd (no_got e)

named_got : {A : Type 0} (i : ℕ) (o : Reading Question A) (a : A) → named i o ≡ got a → o ≡ got a
named_got i (got x) a e = cc
named_got i (no q) a e = absurd (no_got e)

pub schedule_read : (s : List ℕ) (ms : List Member) → schedule s ≡ got ms → ScheduleRead s ms
unfolding schedule
schedule_read s ms e =
    let z = asked_got (refusal Size 0) (leb (length s) 60000) _ ms e in
    let n = went_on (named 0 (checked Count count_fits s 0)) _ ms z.1 in
    let c = named_got 0 (checked Count count_fits s 0) n.value n.was in
    let m = went_on (members n.value.value s n.value.next 0 1) _ ms n.then in
    let t = asked_got (refusal Trailing 0) (leb (length s) m.value.next) _ ms m.then in
    let same : m.value.value ≡ ms = cc in
    record {
      count = n.value.value;
      start = n.value.next;
      end = m.value.next;
      short = leb-true _ _ z.0;
      counted = number_was Count count_fits s 0 n.value.value n.value.next c;
      few = leb-true _ _ (passes Count count_fits s 0 n.value.value n.value.next c);
      reads = m.was ∙ ap (λ (l : List Member). got (placed l m.value.next)) same;
      whole = leb-true _ _ t.0;
    }

-- every member of an accepted schedule is accepted, and there are at most 500
pub schedule_accepted : (s : List ℕ) (ms : List Member) → schedule s ≡ got ms → AcceptedMembers ms × (length ms ≤ 500)
schedule_accepted s ms e =
    let r = schedule_read s ms e in
    (members_accepted r.count s r.start 0 1 ms r.end r.reads, omega (arith, r.few, members_length r.count s r.start 0 1 ms r.end r.reads))
