-- The promise of writing, from what the validator said and what was put.
use Rattle.std.specs.Prelude.{Err, Ok}
use Prim.Native.Nat.{ℕ, ◌*◌, ◌/◌, ◌≤◌}
use mathlib.Core.Path.{◌≡◌, refl, sym, ap, ◌∙◌}
use mathlib.Core.List.{List, ◌++◌}
use native.Mathlib.Omega.{arith}
use lib.ListN.{length, length-append}
use lib.Dec.{leb}
use Rattle.quantity.proofs.Choice.{if_case}
use Rattle.question.specs.declared.Refusal.{Refusal}
use Rattle.question.specs.Reading.{Reading, got}
use Rattle.question.specs.Reading as reading
use Rattle.question.proofs.Numbers.{numbered}
use Rattle.varint.specs.Encoding.{bytes_of}
use Rattle.member.specs.Member.{Member}
use Rattle.schedule.specs.Schedule.{schedule, schedule_answer}
use Rattle.members.proofs.Accepted.{went_on}
use Rattle.field_validator.proofs.Taken.{got_is}
use Rattle.schedule.proofs.Accepted.{schedule_accepted}
use Rattle.encoding.specs.ScheduleBytes.{members_bytes, schedule_bytes}
use Rattle.held_schedule.specs.HeldSchedule.{record_words, records_from, records_of, record_members, held_members}
use Rattle.held_schedule.proofs.Records.{record_members_length, records_length, held_passed}
use Rattle.text_answer.specs.Printed.{TextAnswer}
use Rattle.text_answer.specs.Printed.{numbers_for, answered, Printed}
use Rattle.text_answer.proofs.Printed.{text_written, refused_is}
use Rattle.report.specs.Report.{report_of}
use Rattle.report.proofs.ReportClaim.{report_safe}
use Rattle.round_trip.specs.RecordBytes.{records_bytes, AllInRange}
use Rattle.round_trip.proofs.Only.{only_file}
use Rattle.round_trip.proofs.ReadBack.{records_in_range, records_most, count_most, file_most, file_short, file_back}
use Rattle.writer.specs.Written.{file_of, file_too_long, most_bytes, FileClaim, EachOnly, ScheduleWritten}
use Rattle.writer.proofs.Questions.{held_questions}

-- ---- The members of a held schedule that is accepted.

module _ (words : List ℕ) (ms : List Member) (e : held_members words ≡ got ms) where
  asked : (length (records_of words) ≤ 500) × (record_members 0 1 (records_of words) ≡ got ms)
  asked = held_passed words ms e

  file_claim : FileClaim ms (schedule_bytes ms)
  unfolding report_of
  file_claim =
      let back : schedule (schedule_bytes ms) ≡ got ms = file_back (records_of words) ms asked.0 asked.1 in
      record {
        bytes = refl;
        reads = back;
        only = λ s small f. only_file s small ms f;
        short = file_short (records_of words) ms asked.0 asked.1;
        most = file_most (records_of words) ms asked.0 asked.1;
        reports = rw back;
        safe = report_safe ms (schedule_accepted (schedule_bytes ms) ms back).0;
      }

  -- what the code goes by
  record Counted (count : ℕ) : Type 0 where
    few : count ≤ 500
    inside : count * record_words ≤ length words
    in_range_lem : AllInRange (records_from count words 0)
    file : bytes_of count ++ records_bytes (records_from count words 0) ≡ schedule_bytes ms

  counted : (count : ℕ) → count ≡ length ms → Counted count
  unfolding records_of schedule_bytes records_bytes
  counted count c =
      let l : length (records_of words) ≡ length words / record_words = records_length (length words / record_words) words 0 in
      let n : count ≡ length words / record_words = c ∙ record_members_length (records_of words) 0 1 ms asked.1 ∙ l in
      let r = records_in_range (records_of words) 0 1 ms asked.1 in
      record {
        few = omega (arith, asked.0);
        inside = omega arith;
        in_range_lem = rw n r.0;
        file = ap (λ (k : ℕ). bytes_of k ++ records_bytes (records_from count words 0)) c ∙ ap (λ (l : List Member). bytes_of (length ms) ++ members_bytes l) (rw n r.1);
      }

-- no file has more than 60,000 bytes
pub file_fits : (words t : List ℕ) → file_of words ≡ got t → length t ≤ 60000
unfolding file_of
file_fits words t e =
    let w = went_on (held_members words) (λ ms. got (schedule_bytes ms)) t e in
    let same : schedule_bytes w.value ≡ t = got_is w.then in
    rw (← same) (file_claim words w.value w.was).short

-- no file of count members needs more room
pub records_fit : (count : ℕ) (words : List ℕ) (room : ℕ) → count ≤ 500 → AllInRange (records_from count words 0) → most_bytes count ≤ room
    → length (bytes_of count ++ records_bytes (records_from count words 0)) ≤ room
records_fit count words room few a h =
    rw length-append (omega (arith, count_most count few, records_most (records_from count words 0) a, records_length count words 0))

-- ---- The promise.

-- the answer to a text that is asked for is 0 or the refusal
never_1_of : (text : List ℕ) (room : ℕ) → (answered file_too_long (got text) room).question ≡ 1 → ⊥
never_1_of text room =
    if_case (λ (o : Reading Refusal (List ℕ)). (numbers_for o).question ≡ 1 → ⊥) (leb (length text) room) _ _ (λ _ n. omega arith) (λ _ n. omega arith)

each_only : EachOnly
each_only file ms bytes e s small f = only_file s small ms f ∙ sym (only_file file bytes ms e)

written : (words d d' : List ℕ) (a : TextAnswer) (ms : List Member) → held_members words ≡ got ms → Printed file_too_long (schedule_bytes ms) d d' a → ScheduleWritten words d d' a
unfolding file_of
written words d d' a ms e p =
    record {
      answer_is = rw e p.answer_is;
      buffer_is = rw e p.buffer_is;
      claim = λ k f w.
          let same : ms ≡ k = cc in
          rw (← same) (rw (text_written file_too_long (schedule_bytes ms) d d' a p w) (file_claim words ms e));
      each_only = each_only;
      never_1 = λ n. never_1_of (schedule_bytes ms) (length d) (rw p.answer_is at n);
    }

pub refused : (words d : List ℕ) (r : Refusal) → held_members words ≡ reading.no r → ScheduleWritten words d d (Err r)
unfolding file_of
refused words d r e =
    record {
      answer_is = rw e (refused_is file_too_long r d).0;
      buffer_is = rw e (refused_is file_too_long r d).1;
      claim = λ k f w. absurd (numbered r.question w);
      each_only = each_only;
      never_1 = held_questions words r e;
    }

-- ---- How the validator's answer picks the case.

-- the members, and what the code goes by
record Ready (words : List ℕ) (count : ℕ) : Type 0 where
  ms : List Member
  held : held_members words ≡ got ms
  goes_by : Counted words ms held count

ready_of : (words : List ℕ) (o : Reading Refusal (List Member)) (count : ℕ) → held_members words ≡ o → Ok count ≡ schedule_answer o → Ready words count
ready_of words (got ms) count e a = let c : count ≡ length ms = cc in record { ms = ms; held = e; goes_by = counted words ms e count c }
ready_of words (reading.no r) count e a = absurd (let z : ◌≡◌ {A = ℕ} 0 1 = cc in omega arith)

module _ (words : List ℕ) (count : ℕ) (e : Ok count ≡ schedule_answer (held_members words)) where
  ready : Ready words count
  ready = ready_of words (held_members words) count refl e

  pub validated_ready : (count ≤ 500) × (count * record_words ≤ length words) × AllInRange (records_from count words 0)
  validated_ready = let g = ready.goes_by in (g.few, g.inside, g.in_range_lem)

  pub validated_yes : {d d' : List ℕ} {a : TextAnswer} → Printed file_too_long (bytes_of count ++ records_bytes (records_from count words 0)) d d' a → ScheduleWritten words d d' a
  validated_yes {d} {d'} {a} p = written words d d' a ready.ms ready.held (rw ready.goes_by.file at p)
