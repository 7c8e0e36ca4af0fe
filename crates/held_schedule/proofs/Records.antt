-- Records in a row: the steps as the code takes them, and what accepted records passed.
use Rattle.std.specs.Prelude.{Err, Ok}
use Prim.Native.Nat.{ℕ, zero, suc, ◌+◌, ◌-◌, ◌/◌, ◌≤◌, ◌<◌}
use mathlib.Core.Path.{◌≡◌, refl, sym, ap, ◌∙◌}
use mathlib.Core.Bool.{true}
use mathlib.Core.List.{List, [], ◌∷◌}
use native.Mathlib.Omega.{arith}
use lib.Dec.{ltb}
use lib.ListN.{length}
use borrow.Author.Tests.{lt-leb, le-leb, leb-true}
use Rattle.question.specs.declared.Question.{Question}
use Rattle.question.specs.declared.Question.TheVariants.{Count, Mark}
use Rattle.question.specs.declared.Refusal.{Refusal}
use Rattle.question.specs.Reading.{Verdict}
use Rattle.question.specs.Reading.{Reading, got, no, and_then, passed, refusal, named}
use Rattle.member.specs.Member.{Member}
use Rattle.field_validator.proofs.Taken.{got_is}
use Rattle.verdict.specs.declared.Built.{Built}
use Rattle.verdict.specs.Built.{member_of}
use Rattle.verdict.proofs.Accepted.{asked_yes, BuiltPassed, built_passed}
use Rattle.members.proofs.Accepted.{no_got, went_on}
use Rattle.schedule.specs.Schedule.{ScheduleAnswer}
use Rattle.schedule.specs.Schedule.{count_fits, schedule_answer}
use Rattle.schedule.proofs.Accepted.{asked_got}
use Rattle.held_schedule.specs.HeldSchedule.{record_words, record_at, records_from, records_of, record_verdict, record_members, held_members}

-- ---- What records that are accepted passed.

-- one record: that its mark rises, and the questions of a built member
pub record Passed (before : ℕ) (x : Built) : Type 0 where
  pub rises : ltb before x.mark ≡ true
  pub built : BuiltPassed x.mark x.kind x.fields.v

pub passed_all : (before : ℕ) (x : Built) → record_verdict before x ≡ (Ok tt) → Passed before x
unfolding record_verdict
passed_all before x e =
    let r = asked_yes Mark (ltb before x.mark) _ e in
    record { rises = r.0; built = built_passed x.mark x.kind x.fields.v r.1 }

-- a row: its first record, and the others
pub record RecordsPassed (before i : ℕ) (x : Built) (xs : List Built) (ms : List Member) : Type 0 where
  pub accepted : Passed before x
  pub others : List Member
  pub list : ms ≡ member_of x ∷ others
  pub passes : record_members x.mark (i + 1) xs ≡ got others

pub records_passed : (before i : ℕ) (x : Built) (xs : List Built) (ms : List Member) → record_members before i (x ∷ xs) ≡ got ms → RecordsPassed before i x xs ms
unfolding record_members
records_passed before i x xs ms = on_verdict (record_verdict before x) refl
  where
    on_verdict : (t : Verdict) → record_verdict before x ≡ t
        → and_then (named i (passed t (got (member_of x)))) (λ m. and_then (record_members x.mark (i + 1) xs) (λ ms. got (m ∷ ms))) ≡ got ms → RecordsPassed before i x xs ms
    on_verdict (Ok tt) e f =
        let w = went_on (record_members x.mark (i + 1) xs) (λ ms. got (member_of x ∷ ms)) ms f in
        record { accepted = passed_all before x e; others = w.value; list = sym (got_is w.then); passes = w.was }
    on_verdict (Err q) e f = absurd (no_got f)

-- as many members as records
pub record_members_length : (xs : List Built) (before i : ℕ) (ms : List Member) → record_members before i xs ≡ got ms → length ms ≡ length xs
unfolding record_members
record_members_length [] before i ms e = ap length (sym (got_is e))
record_members_length (x ∷ xs) before i ms e =
    let r = records_passed before i x xs ms e in
    ap length r.list ∙ ap suc (record_members_length xs x.mark (i + 1) r.others r.passes)

-- as many records as the count says
pub records_length : (n : ℕ) (words : List ℕ) (p : ℕ) → length (records_from n words p) ≡ n
unfolding records_from
records_length zero words p = refl
records_length (suc n) words p = ap suc (records_length n words (p + record_words))

-- ---- The walk.

-- the answer to n records: their number, or the refusal
abbrev pub answer_of : ℕ → Reading Refusal (List Member) → ScheduleAnswer
answer_of n (got ms) = Ok n
answer_of n (no r) = Err r

pub counted : (n : ℕ) (words : List ℕ) (p before i : ℕ)
    → schedule_answer (record_members before i (records_from n words p)) ≡ answer_of n (record_members before i (records_from n words p))
counted n words p before i = on_members (record_members before i (records_from n words p)) refl
  where
    on_members : (o : Reading Refusal (List Member)) → record_members before i (records_from n words p) ≡ o → schedule_answer o ≡ answer_of n o
    on_members (got ms) e = ap Ok (record_members_length (records_from n words p) before i ms e ∙ records_length n words p)
    on_members (no r) e = refl

module _ (n left : ℕ) (words : List ℕ) (p before i : ℕ) where
  pub no_record : left ≤ 0 → answer_of n (record_members before i (records_from left words p)) ≡ Ok n
  unfolding record_members records_from
  no_record h = let e : left ≡ 0 = omega arith in rw e

  module _ (h : 0 < left) where
    one_more : left ≡ suc (left - 1)
    one_more = omega arith

    pub record_refused : (q : Question) → record_verdict before (record_at words p) ≡ Err q
        → answer_of n (record_members before i (records_from left words p)) ≡ Err (refusal q i)
    unfolding record_members records_from
    record_refused q e = rw (one_more, e)

    pub record_accepted : record_verdict before (record_at words p) ≡ (Ok tt)
        → answer_of n (record_members before i (records_from left words p)) ≡ answer_of n (record_members (record_at words p).mark (i + 1) (records_from (left - 1) words (p + record_words)))
    unfolding record_members records_from
    record_accepted e =
        ap (λ (k : ℕ). answer_of n (record_members before i (records_from k words p))) one_more
        ∙ rw e (kept (member_of (record_at words p)) (record_members (record_at words p).mark (i + 1) (records_from (left - 1) words (p + record_words))))
      where
        kept : (m : Member) (o : Reading Refusal (List Member)) → answer_of n (and_then o (λ ms. got (m ∷ ms))) ≡ answer_of n o
        kept m (got ms) = refl
        kept m (no r) = refl

-- ---- The whole.

module _ (words : List ℕ) where
  pub too_many : 500 < length words / record_words → schedule_answer (held_members words) ≡ Err (refusal Count 0)
  unfolding held_members records_of
  too_many h = rw (records_length (length words / record_words) words 0, lt-leb _ _ h)

  -- what a held schedule that is accepted passed
  pub held_passed : (ms : List Member) → held_members words ≡ got ms → (length (records_of words) ≤ 500) × (record_members 0 1 (records_of words) ≡ got ms)
  unfolding held_members
  held_passed ms e =
      let a = asked_got (refusal Count 0) (count_fits (length (records_of words))) (record_members 0 1 (records_of words)) ms e in
      (leb-true _ _ a.0, a.1)

  pub few : length words / record_words ≤ 500 → held_members words ≡ record_members 0 1 (records_from (length words / record_words) words 0)
  unfolding held_members records_of
  few h = rw (records_length (length words / record_words) words 0, le-leb _ _ h)
