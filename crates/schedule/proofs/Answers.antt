-- The answer to a schedule, at each of the validator's ways out.
use Rattle.std.specs.Prelude.{Err, Ok, Result}
use Prim.Native.Nat.{ℕ, ◌≤◌, ◌<◌}
use mathlib.Core.Path.{◌≡◌, refl, sym, ap, ◌∙◌}
use mathlib.Core.List.{List}
use native.Mathlib.Omega.{arith}
use lib.Dec.{leb}
use lib.ListN.{length}
use borrow.Author.Tests.{le-leb, lt-leb}
use Rattle.question.specs.declared.Question.{Question}
use Rattle.question.specs.declared.Question.TheVariants.{Size, Count, Trailing}
use Rattle.question.specs.declared.Refusal.{Refusal}
use Rattle.varint.specs.Varint.{number_at}
use Rattle.member.specs.Member.{Member}
use Rattle.question.specs.Reading.{Reading, got, no, and_then, ask, refusal}
use Rattle.varint.specs.Placed.{Placed, placed, of_number}
use Rattle.varint.specs.Moved.{reading_of}
use Rattle.varint.proofs.Moved.{number_was_read, number_was_refused}
use Rattle.members.specs.Accepted.{AcceptedFrom}
use Rattle.members.specs.Members.{members}
use Rattle.schedule.specs.Schedule.{schedule, schedule_answer}
use Rattle.members.specs.MembersResult.{members_end}
use Rattle.members.proofs.Members.{members_length}
use Rattle.members.proofs.Accepted.{members_from}

module _ (s : List ℕ) where
  pub too_long : 60000 < length s → schedule_answer (schedule s) ≡ Err (refusal Size 0)
  unfolding schedule
  too_long h = rw (lt-leb _ _ h)

  -- a count that is too large
  pub too_many : (n at : ℕ) → length s ≤ 60000 → number_at s 0 ≡ Ok (n, at) → 500 < n → schedule_answer (schedule s) ≡ Err (refusal Count 0)
  unfolding schedule
  too_many n at short count h = rw (le-leb _ _ short, count, lt-leb _ _ h)

  -- the count is refused or read
  module _ (short : length s ≤ 60000) (r : Result ℕ Question) (at : ℕ) (was : reading_of r at ≡ of_number (number_at s 0)) where
    pub no_count : (q : Question) → r ≡ Err q → schedule_answer (schedule s) ≡ Err (refusal q 0)
    unfolding schedule
    no_count q e = rw (le-leb _ _ short, number_was_refused _ r at was q e)

    module _ (n : ℕ) (count : r ≡ Ok n) where
      pub count_was : number_at s 0 ≡ Ok (n, at)
      count_was = number_was_read _ r at was n count

      -- what follows the members
      after : Reading Refusal (Placed (List Member)) → Reading Refusal (List Member)
      after o = and_then o (λ ms. ask (refusal Trailing 0) (leb (length s) ms.next) (got ms.value))

      counted : n ≤ 500 → schedule s ≡ after (members n s at 0 1)
      unfolding schedule after
      counted h = rw (le-leb _ _ short, count_was, le-leb _ _ h)

      -- the members are refused or end
      module _ (few : n ≤ 500) (t : Result (Unit {0}) Refusal) (end : ℕ) (ends : reading_of t end ≡ members_end (members n s at 0 1)) where
        pub member_no : (q : Refusal) → t ≡ Err q → schedule_answer (schedule s) ≡ Err q
        unfolding after
        member_no q e = ap schedule_answer (counted few) ∙ cases (members n s at 0 1) (rw e at ends)
          where
            cases : (o : Reading Refusal (Placed (List Member))) → no q ≡ members_end o → schedule_answer (after o) ≡ Err q
            cases (got ms) e = absurd (let z : ◌≡◌ {A = ℕ} 0 1 = cc in omega arith)
            cases (no t) e = cc

        module _ (e : t ≡ (Ok tt)) where
          pub bytes_left : end < length s → schedule_answer (schedule s) ≡ Err (refusal Trailing 0)
          unfolding after
          bytes_left h = ap schedule_answer (counted few) ∙ cases (members n s at 0 1) (rw e at ends)
            where
              cases : (o : Reading Refusal (Placed (List Member))) → got (placed tt end) ≡ members_end o → schedule_answer (after o) ≡ Err (refusal Trailing 0)
              cases (got ms) e =
                  let same : ◌≡◌ {A = Placed (Unit {0})} (placed tt end) (placed tt ms.next) = cc in
                  let f : ms.next ≡ end = sym (ap (λ (r : Placed (Unit {0})). r.next) same) in
                  rw (f, lt-leb _ _ h)
              cases (no t) e = absurd (let z : ◌≡◌ {A = ℕ} 0 1 = cc in omega arith)

          pub all_read : length s ≤ end → schedule_answer (schedule s) ≡ Ok n
          unfolding after
          all_read h = ap schedule_answer (counted few) ∙ cases (members n s at 0 1) refl (rw e at ends)
            where
              cases : (o : Reading Refusal (Placed (List Member))) → members n s at 0 1 ≡ o → got (placed tt end) ≡ members_end o → schedule_answer (after o) ≡ Ok n
              cases (got ms) r e =
                  let same : ◌≡◌ {A = Placed (Unit {0})} (placed tt end) (placed tt ms.next) = cc in
                  let f : ms.next ≡ end = sym (ap (λ (r : Placed (Unit {0})). r.next) same) in
                  rw (f, le-leb _ _ h, members_length n s at 0 1 ms.value ms.next r)
              cases (no t) r e = absurd (let z : ◌≡◌ {A = ℕ} 0 1 = cc in omega arith)

          -- the members are accepted
          pub all_accepted : AcceptedFrom n s at
          all_accepted = cases (members n s at 0 1) refl (rw e at ends)
            where
              cases : (o : Reading Refusal (Placed (List Member))) → members n s at 0 1 ≡ o → got (placed tt end) ≡ members_end o → AcceptedFrom n s at
              cases (got ms) r e = members_from n s at 0 1 ms.value ms.next r
              cases (no t) r e = absurd (let z : ◌≡◌ {A = ℕ} 0 1 = cc in omega arith)
