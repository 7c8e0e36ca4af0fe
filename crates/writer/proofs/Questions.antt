-- The questions put to a held schedule are not question 1.
use Rattle.std.specs.Prelude.{Err, Ok}
use Prim.Native.Nat.{ℕ, ◌+◌}
use mathlib.Core.Path.{◌≡◌, subst}
use mathlib.Core.Bool.{Bool, true, false}
use mathlib.Core.List.{List, [], ◌∷◌}
use native.Mathlib.Omega.{arith}
use lib.Dec.{ltb}
use lib.ListN.{length}
use Rattle.quantity.proofs.Choice.{if_case}
use Rattle.question.specs.declared.Question.{Question}
use Rattle.question.specs.declared.Question.TheVariants.{Mark, Kind, Field, Consistency, Bars, Ratio, ServiceMoment}
use Rattle.question.specs.declared.Refusal.{Refusal}
use Rattle.question.specs.Reading.{Verdict}
use Rattle.question.specs.Question.{number_of}
use Rattle.question.specs.Reading.{Reading, got, no, and_then, passed, named}
use Rattle.member.specs.Member.{Member, beam, column, mesh}
use Rattle.consistency.specs.Consistency.{beam_consistent, column_consistent, mesh_consistent}
use Rattle.reinforcement.specs.Reinforcement.{beam_bars, beam_ratio, column_bars}
use Rattle.service_moment.specs.ServiceMoment.{service_moment_fits}
use Rattle.field_table.specs.Fields.{known, kind_of, fields_of}
use Rattle.field_check.specs.FieldCheck.{fields_hold}
use Rattle.field_layout.specs.Layout.{member_at}
use Rattle.verdict.specs.declared.Built.{Built}
use Rattle.verdict.specs.Built.{member_of}
use Rattle.verdict.specs.Verdict.{ask_verdict, mark_in_range, beam_verdict, column_verdict, mesh_verdict, verdict_of, member_verdict, fields_verdict, built_verdict}
use Rattle.schedule.specs.Schedule.{count_fits}
use Rattle.held_schedule.specs.HeldSchedule.{records_of, record_verdict, record_members, held_members}

abbrev NotSize : Question → Type 0
NotSize q = number_of q ≡ 1 → ⊥

-- a verdict, and a reading, whose no is not question 1
data NoSize : Verdict → Type 0 where
  accepted : NoSize (Ok tt)
  refused : {q : Question} → NotSize q → NoSize (Err q)

abbrev ReadsNoSize : {A : Type 0} → Reading Refusal A → Type 0
ReadsNoSize (got a) = Unit
ReadsNoSize (no r) = NotSize r.question

asked : (q : Question) → NotSize q → (t : Bool) {next : Verdict} → NoSize next → NoSize (ask_verdict q t next)
asked q h true f = f
asked q h false f = refused h

-- of a whole member
member_questions : (m : Member) → NoSize (verdict_of m)
unfolding beam_verdict column_verdict mesh_verdict
member_questions (beam mark x) =
    asked Consistency (λ n. omega arith) (beam_consistent x)
    (asked Bars (λ n. omega arith) (beam_bars x)
    (asked Ratio (λ n. omega arith) (beam_ratio x)
    (asked ServiceMoment (λ n. omega arith) (service_moment_fits x) accepted)))
member_questions (column mark x) = asked Consistency (λ n. omega arith) (column_consistent x) (asked Bars (λ n. omega arith) (column_bars x) accepted)
member_questions (mesh mark x) = asked Consistency (λ n. omega arith) (mesh_consistent x) accepted

record_questions : (before : ℕ) (x : Built) → NoSize (record_verdict before x)
unfolding record_verdict built_verdict fields_verdict member_verdict
record_questions before x =
    let v = x.fields.v in
    asked Mark (λ n. omega arith) (ltb before x.mark)
    (asked Mark (λ n. omega arith) (mark_in_range x.mark)
    (asked Kind (λ n. omega arith) (known x.kind)
    (asked Field (λ n. omega arith) (fields_hold (fields_of (kind_of x.kind)) 0 v) (member_questions (member_at 0 (kind_of x.kind) v)))))

-- one reading after another
then_questions : {A B : Type 0} (o : Reading Refusal A) (f : A → Reading Refusal B) → ReadsNoSize o → ((a : A) → ReadsNoSize (f a)) → ReadsNoSize (and_then o f)
then_questions (got a) f h g = g a
then_questions (no r) f h g = h

named_questions : (i : ℕ) (t : Verdict) (m : Member) → NoSize t → ReadsNoSize (named i (passed t (got m)))
named_questions i t m accepted = tt
named_questions i t m (refused h) = h

records_questions : (xs : List Built) (before i : ℕ) → ReadsNoSize (record_members before i xs)
unfolding record_members
records_questions [] before i = tt
records_questions (x ∷ xs) before i =
    then_questions (named i (passed (record_verdict before x) (got (member_of x)))) _ (named_questions i (record_verdict before x) (member_of x) (record_questions before x)) (λ m.
    then_questions (record_members x.mark (i + 1) xs) (λ ms. got (m ∷ ms)) (records_questions xs x.mark (i + 1)) (λ ms. tt))

pub held_questions : (words : List ℕ) (r : Refusal) → held_members words ≡ no r → number_of r.question ≡ 1 → ⊥
unfolding held_members
held_questions words r e =
    subst ReadsNoSize e (if_case ReadsNoSize (count_fits (length (records_of words))) _ _ (λ _. records_questions (records_of words) 0 1) (λ _ n. omega arith))
