-- Demand 3 of a text in the buffer, and how the validator's answer picks the case.
use Rattle.std.specs.Prelude.{Err, Ok}
use Prim.Native.Nat.{ℕ, suc}
use mathlib.Core.Path.{◌≡◌, refl, sym, ◌∙◌}
use mathlib.Core.List.{List, ◌++◌}
use native.Mathlib.Omega.{arith}
use lib.ListN.{get_or}
use Rattle.quantity.proofs.All.{all_at}
use Rattle.text.specs.Text.{line_of}
use Rattle.line.specs.Line.{line_words, head_words, line_text}
use Rattle.line.proofs.ParsedLine.{head_parsed, member_parsed, parsed_alone}
use Rattle.question.specs.declared.Question.{Question}
use Rattle.question.specs.declared.Refusal.{Refusal}
use Rattle.question.proofs.Numbers.{numbered}
use Rattle.outcome.specs.declared.Outcome.{Outcome}
use Rattle.varint.specs.Varint.{number_at}
use Rattle.varint.proofs.Septets.{same_value}
use Rattle.member.specs.Member.{Member}
use Rattle.member.specs.Accepted.{AcceptedMember, AcceptedMembers}
use Rattle.field_layout.specs.declared.valid.ValidMember.{ValidMember}
use Rattle.field_layout.specs.Valid.{valid_member}
use Rattle.verdict.specs.declared.Built.{Built}
use Rattle.verdict.specs.Built.{member_of}
use Rattle.verdict.specs.Verdict.{built_verdict}
use Rattle.verdict.proofs.Accepted.{accepted_built}
use Rattle.question.specs.Reading.{Reading, got, refusal}
use Rattle.question.specs.Reading as reading
use Rattle.schedule.specs.Schedule.{schedule}
use Rattle.schedule.specs.Schedule.{schedule_answer}
use Rattle.schedule.proofs.Accepted.{schedule_read, schedule_accepted}
use Rattle.checks.specs.MemberOutcome.{mark_of, outcome_of}
use Rattle.checks.proofs.Safe.{line_safe}
use Rattle.text_answer.specs.Printed.{TextAnswer}
use Rattle.report_text.specs.ReportText.{report_text, member_text, lines_from}
use Rattle.text_answer.specs.Printed.{text_too_long, Printed}
use Rattle.report.specs.Report.{report_of, member_report_of}
use Rattle.report.specs.ReportClaim.{SafeReport, Reported, MemberReported}
use Rattle.text_answer.proofs.Printed.{text_written, refused_is}
use Rattle.report_text.proofs.ReportText.{report_lines, mark_of_lem}

-- ---- A schedule.

pub report_safe : (ms : List Member) → AcceptedMembers ms → SafeReport ms (report_text ms)
report_safe ms a =
    record {
      total = head_parsed mark_of outcome_of ms;
      lines = λ i m h.
          line_safe (get_or ms i m) (line_of (suc i) (report_text ms)) (all_at AcceptedMember ms a i m (λ g. absurd (omega arith)))
          (member_parsed mark_of outcome_of ms i m h);
    }

pub reported : (s d d' : List ℕ) (a : TextAnswer) (ms : List Member) → schedule s ≡ got ms → Printed (text_too_long 0) (report_text ms) d d' a → Reported s d d' a
unfolding report_of
reported s d d' a ms e p =
    record {
      answer_is = rw e p.answer_is;
      buffer_is = rw e p.buffer_is;
      claim = λ k f w.
          let same : ms ≡ k = cc in
          rw (← same) (rw (text_written _ (report_text ms) d d' a p w) (report_safe ms (schedule_accepted s ms e).0));
    }

pub refused : (s d : List ℕ) (r : Refusal) → schedule s ≡ reading.no r → Reported s d d (Err r)
unfolding report_of
refused s d r e =
    record {
      answer_is = rw e (refused_is (text_too_long 0) r d).0;
      buffer_is = rw e (refused_is (text_too_long 0) r d).1;
      claim = λ k f w. absurd (numbered r.question w);
    }

-- ---- How the validator's answer picks the case.

pub validated_no : (o : Reading Refusal (List Member)) (r : Refusal) → Err r ≡ schedule_answer o → o ≡ reading.no r
validated_no (got ms) r e = absurd (let z : ◌≡◌ {A = ℕ} 0 1 = cc in omega arith)
validated_no (reading.no q) r e = cc

record Read (s : List ℕ) (count at : ℕ) : Type 0 where
  ms : List Member
  reads : schedule s ≡ got ms
  text : line_text (head_words count) ++ lines_from count s at ≡ report_text ms

read_of : (s : List ℕ) (o : Reading Refusal (List Member)) (count at : ℕ) → schedule s ≡ o → Ok count ≡ schedule_answer o → number_at s 0 ≡ Ok (count, at)
    → Read s count at
read_of s (got ms) count at e a n =
    let f = schedule_read s ms e in
    let same = same_value _ _ _ _ (sym n ∙ f.counted) in
    record { ms = ms; reads = e; text = rw (same.0, same.1) (report_lines f.count s f.start ms f.end f.reads) }
read_of s (reading.no r) count at e a n = absurd (let z : ◌≡◌ {A = ℕ} 0 1 = cc in omega arith)

pub validated_yes : (s d d' : List ℕ) (a : TextAnswer) (count at : ℕ) → Ok count ≡ schedule_answer (schedule s) → number_at s 0 ≡ Ok (count, at)
    → Printed (text_too_long 0) (line_text (head_words count) ++ lines_from count s at) d d' a → Reported s d d' a
validated_yes s d d' a count at e n w =
    let r = read_of s (schedule s) count at refl e n in
    reported s d d' a r.ms r.reads (rw r.text at w)

-- ---- A built member.

module _ (x : Built) where
  pub member_reported : (d d' : List ℕ) (a : TextAnswer) → built_verdict x.mark x.kind x.fields.v ≡ (Ok tt) →
      Printed (text_too_long 1) (member_text (member_of x)) d d' a → MemberReported x d d' a
  unfolding member_report_of
  member_reported d d' a e p =
      record {
        answer_is = rw e p.answer_is;
        buffer_is = rw e p.buffer_is;
        claim = λ w.
            rw (text_written _ (member_text (member_of x)) d d' a p w)
            (line_safe (member_of x) (line_of 0 (member_text (member_of x))) (accepted_built x.mark x.kind x.fields.v e) (parsed_alone (mark_of (member_of x)) (outcome_of (member_of x))));
      }

  pub printed_member : {d d' : List ℕ} {a : TextAnswer} (m : ValidMember) (o : Outcome) → valid_member m ≡ member_of x → o ≡ outcome_of (valid_member m) →
      Printed (text_too_long 1) (line_text (line_words m.mark o)) d d' a → Printed (text_too_long 1) (member_text (member_of x)) d d' a
  printed_member m o same e p = rw (← same, mark_of_lem m.mark m.kind m.fields.v, ← e) p

  pub member_refused : (d : List ℕ) (q : Question) → built_verdict x.mark x.kind x.fields.v ≡ Err q →
      MemberReported x d d (Err (record { question = q; member = 1 }))
  unfolding member_report_of
  member_refused d q e =
      record { answer_is = rw e (refused_is (text_too_long 1) (refusal q 1) d).0; buffer_is = rw e (refused_is (text_too_long 1) (refusal q 1) d).1; claim = λ w. absurd (numbered q w) }
