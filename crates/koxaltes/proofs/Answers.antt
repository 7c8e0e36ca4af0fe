-- From the answers of crates `report` and `writer` to those that a caller gets.
use Rattle.std.specs.Prelude.{Err, Ok}
use Prim.Native.Nat.{ℕ}
use mathlib.Core.Path.{◌≡◌, refl, ap, subst, ◌∙◌}
use mathlib.Core.List.{List}
use lib.ListN.{length, take}
use Rattle.question.proofs.Numbers.{numbered}
use Rattle.member.specs.Member.{Member}
use Rattle.bars.specs.declared.Group.{Group}
use Rattle.verdict.specs.declared.Built.{Built}
use Rattle.verdict.specs.Built.{member_of}
use Rattle.question.specs.Reading.{Verdict}
use Rattle.verdict.specs.Verdict.{built_verdict}
use Rattle.question.specs.Reading.{got}
use Rattle.lent_groups.specs.CopiedGroups.{first_four}
use Rattle.field_table.specs.Fields.{kind_of}
use Rattle.lent_member.specs.declared.Lent.{Lent}
use Rattle.lent_member.specs.Lent.{lent_member, first_count, second_count}
use Rattle.lent_member.specs.LentSlots.{built_of}
use Rattle.lent_member.proofs.InSlots.{slots_again, copied, slots, lent_verdict_lem, lent_member_lem}
use Rattle.text_answer.specs.Printed.{TextAnswer}
use Rattle.text_answer.specs.Printed.{numbers_of, text_too_long, answered}
use Rattle.report_text.specs.ReportText.{member_text}
use Rattle.report.specs.Report.{line_or_no, member_report_of}
use Rattle.report.specs.ReportClaim.{Reported, MemberReported}
use Rattle.writer.specs.Written.{ScheduleWritten}
use Rattle.answer_record.specs.declared.AnswerRecord.{AnswerRecord}
use Rattle.answer_record.specs.AnswerRecord.{answer_record}
use Rattle.koxaltes.specs.Entries.{lent_report_of, ReportEntry, MemberEntry, WriteEntry}

pub report_entry : {src before after : List ℕ} {a : TextAnswer} {r : AnswerRecord} → Reported src before after a → r ≡ answer_record (numbers_of a) → ReportEntry src before after r
report_entry p e = record {
  answer_is = e ∙ ap answer_record p.answer_is;
  buffer_is = p.buffer_is;
  claim = λ ms s z. rw e (p.claim ms s (rw e at z));
}

pub write_entry : {words before after : List ℕ} {a : TextAnswer} {r : AnswerRecord} → ScheduleWritten words before after a → r ≡ answer_record (numbers_of a) → WriteEntry words before after r
write_entry p e = record {
  answer_is = e ∙ ap answer_record p.answer_is;
  buffer_is = p.buffer_is;
  claim = λ ms s z. rw e (p.claim ms s (rw e at z));
  each_only = p.each_only;
  never_1 = λ z. p.never_1 (rw e at z);
}

pub member_entry : {x y : Built} {before after : List ℕ} {a : TextAnswer} {r : AnswerRecord} → x ≡ y → MemberReported x before after a → r ≡ answer_record (numbers_of a) → MemberEntry (member_report_of y) (member_of y) before after r
member_entry {before = before} {after = after} {r = r} i p e =
    subst (λ (b : Built). MemberEntry (member_report_of b) (member_of b) before after r) i
    (record { answer_is = e ∙ ap answer_record p.answer_is; buffer_is = p.buffer_is; claim = λ z. rw e (p.claim (rw e at z)) })

-- The built member made of the groups that the counts name is the lent one.
module _ (x : Lent) (first second : List Group) where
  lent_report : member_report_of (copied x first second) ≡ lent_report_of x first second
  unfolding member_report_of lent_report_of
  lent_report = rw (← lent_verdict_lem x first second) (of_verdict (built_verdict x.mark x.kind (slots x first second)) refl)
    where
      of_verdict : (w : Verdict) → built_verdict x.mark x.kind (slots x first second) ≡ w → line_or_no w (member_of (copied x first second)) ≡ line_or_no w (lent_member x first second)
      of_verdict (Ok tt) e = ap (λ (m : Member). got (member_text m)) (lent_member_lem x first second e)
      of_verdict (Err q) e = refl

  accepted : (room : ℕ) {r : AnswerRecord} → r ≡ answer_record (answered (text_too_long 1) (member_report_of (copied x first second)) room) → r.question ≡ 0 → member_of (copied x first second) ≡ lent_member x first second
  unfolding member_report_of
  accepted room e z = lent_member_lem x first second (of_verdict (built_verdict x.mark x.kind (slots x first second)) (rw e at z))
    where
      of_verdict : (w : Verdict) → (answer_record (answered (text_too_long 1) (line_or_no w (member_of (copied x first second))) room)).question ≡ 0 → w ≡ (Ok tt)
      of_verdict (Ok tt) h = refl
      of_verdict (Err q) h = absurd (numbered q h)

  lent_copied : {before after : List ℕ} {r : AnswerRecord} → MemberEntry (member_report_of (copied x first second)) (member_of (copied x first second)) before after r → MemberEntry (lent_report_of x first second) (lent_member x first second) before after r
  lent_copied {before = before} {after = after} {r = r} p =
      record {
        answer_is = rw (← lent_report) p.answer_is;
        buffer_is = rw (← lent_report) p.buffer_is;
        claim = λ z. rw (← accepted (length before) {r = r} p.answer_is z) (p.claim z);
      }

  pub lent_entry : {gs hs : List Group} {before after : List ℕ} {r : AnswerRecord}
      → gs ≡ first_four (take (first_count (kind_of x.kind) x.fields.v) first) → hs ≡ first_four (take (second_count (kind_of x.kind) x.fields.v) second)
      → MemberEntry (member_report_of (built_of x gs hs)) (member_of (built_of x gs hs)) before after r → MemberEntry (lent_report_of x first second) (lent_member x first second) before after r
  lent_entry i j p = lent_copied (rw (i, j, slots_again (kind_of x.kind) x.fields.v (take (first_count (kind_of x.kind) x.fields.v) first) (take (second_count (kind_of x.kind) x.fields.v) second)) at p)
