-- The two ways out of `print_schedule`.
use Rattle.std.specs.Prelude.{Err, Ok}
use Prim.Native.Nat.{ℕ, ◌^◌, ◌≤◌, ◌<◌}
use mathlib.Core.Path.{◌≡◌, refl, sym, ap, ap₂, ◌∙◌}
use mathlib.Core.List.{List, ◌++◌}
use native.Mathlib.Nat.{zero-add}
use native.Mathlib.Decide.{dec_le}
use native.Mathlib.Omega.{arith}
use borrow.Author.Tests.{le-leb, lt-leb}
use lib.ListN.{length, take, drop, length-append}
use lib.Seq.{sets-eq, take-append_seam}
use Rattle.text.specs.Put.{Put, last_position}
use Rattle.text.proofs.Put.{put_whole, learnt_length}
use Rattle.line.specs.Line.{refusal_words, line_text}
use Rattle.line.proofs.Length.{refusal_short}
use Rattle.question.specs.declared.Refusal.{Refusal}
use Rattle.question.specs.Question.{number_of}
use Rattle.question.proofs.Numbers.{numbered}
use Rattle.member.specs.Member.{Member}
use Rattle.question.specs.Reading.{Reading, got}
use Rattle.question.specs.Reading as reading
use Rattle.schedule.specs.Schedule.{schedule}
use Rattle.schedule.proofs.Accepted.{schedule_accepted}
use Rattle.text_answer.specs.Printed.{TextAnswer}
use Rattle.report_text.specs.ReportText.{report_text}
use Rattle.text_answer.specs.Printed.{Numbers, numbers_of, text_too_long, ask_room, answered, buffer_after}
use Rattle.text_answer.specs.Printed.{written as writtenTo, refused as refusedBy}
use Rattle.report.specs.Report.{report_of, report_or_no}
use Rattle.report.specs.ReportClaim.{Reported}
use Rattle.report_text.proofs.Length.{report_short}
use Rattle.program_output.specs.ProgramOutput.{refusal_text, shown, output_of, PrintedSchedule}

-- a text that fits was put
put_text : (s d d' : List ℕ) (n : ℕ) → length d < last_position → length s ≤ length d → n ≡ length s → d' ≡ s ++ drop (length s) d → Put d 0 s d' n
put_text s d d' n k h e f =
    record { bytes = f ∙ sym (sets-eq s d 0 (omega arith) ∙ rw zero-add); next = omega arith; short = k }

-- a text that was put, where it fits
put_fits : (s d d' : List ℕ) (n : ℕ) → Put d 0 s d' n → length s ≤ length d → (n ≡ length s) × (d' ≡ s ++ drop (length s) d)
put_fits s d d' n w h = (learnt_length w (omega (arith, w.short)), put_whole w h)

-- a report is at most 60,000 bytes
report_fits : (s t : List ℕ) → report_of s ≡ got t → length t ≤ 60000
unfolding report_of
report_fits s t e = go (schedule s) refl e
  where
    go : (o : Reading Refusal (List Member)) → schedule s ≡ o → report_or_no o ≡ got t → length t ≤ 60000
    go (got ms) p q =
        let same : report_text ms ≡ t = cc in
        let a = schedule_accepted s ms p in
        rw (← same) (report_short ms a.0 a.1)
    go (reading.no r) p q = absurd (let z : ◌≡◌ {A = ℕ} 0 1 = cc in omega arith)

-- ---- Answers in numbers.

abbrev question : Numbers → ℕ
question n = n.question

abbrev member : Numbers → ℕ
member n = n.member

abbrev extent : Numbers → ℕ
extent n = n.length

-- two refusals with the same numbers have the same text
same_refusal : (r q : Refusal) → refusedBy r ≡ refusedBy q → refusal_text r ≡ refusal_text q
same_refusal r q e = ap₂ (λ (k m : ℕ). line_text (refusal_words k m)) (ap question e) (ap member e)

-- a report that fits is not refused
no_refusal : (s d : List ℕ) (ms : List Member) (r : Refusal) → schedule s ≡ got ms → length (report_text ms) ≤ length d → refusedBy r ≡ answered (text_too_long 0) (report_of s) (length d) → ⊥
unfolding report_of
no_refusal s d ms r f h e = numbered r.question (ap question (rw (f, le-leb (length (report_text ms)) (length d) h) at e))

-- ---- A report, a file or a refusal o, for a buffer that is too short refused by `full`.

-- what `print_schedule` promises of it
pub record Shown (full : Refusal) (o : Reading Refusal (List ℕ)) (d d' : List ℕ) (n : ℕ) : Type 0 where
  pub put : Put d 0 (shown (ask_room full (length d) o)) d' n
  pub whole : 60000 ≤ length d → (n ≡ length (shown o)) × (d' ≡ shown o ++ drop (length (shown o)) d)

module _ (full : Refusal) (d d' : List ℕ) (n : ℕ) where
  pub written : (o : Reading Refusal (List ℕ)) → length d < last_position → writtenTo n ≡ answered full o (length d) → d' ≡ buffer_after full o d → Shown full o d d' n
  written (got t) k e f = go (dec_le (length t) (length d))
    where
      go : Dec (length t ≤ length d) → Shown full (got t) d d' n
      go (yes h) =
          let l = le-leb (length t) (length d) h in
          let c : n ≡ length t = ap extent (rw l at e) in
          let b : d' ≡ t ++ drop (length t) d = rw l at f in
          record { put = rw l (put_text t d d' n k h c b); whole = λ _. (c, b) }
      go (no h) =
          let g : length d < length t = omega arith in
          absurd (numbered full.question (sym (ap question (rw (lt-leb (length t) (length d) g) at e))))
  written (reading.no r) k e f = absurd (numbered r.question (sym (ap question e)))

  pub refused : (o : Reading Refusal (List ℕ)) (r : Refusal) (d₁ : List ℕ) → ((t : List ℕ) → o ≡ got t → length t ≤ 60000) → length (refusal_text r) ≤ 60000 →
      refusedBy r ≡ answered full o (length d) → d₁ ≡ buffer_after full o d → Put d₁ 0 (refusal_text r) d' n → Shown full o d d' n
  refused (got t) r d₁ s u e f w = go (dec_le (length t) (length d))
    where
      go : Dec (length t ≤ length d) → Shown full (got t) d d' n
      go (yes h) = absurd (numbered r.question (ap question (rw (le-leb (length t) (length d) h) at e)))
      go (no h) =
          let g : length d < length t = omega arith in
          let l = lt-leb (length t) (length d) g in
          let same = same_refusal r full (rw l at e) in
          let b : d₁ ≡ d = rw l at f in
          record { put = rw l (rw (same, b) at w); whole = λ k. absurd (omega (arith, s t refl)) }
  refused (reading.no q) r d₁ s u e f w =
      let same = same_refusal r q e in
      let w' : Put d 0 (refusal_text q) d' n = rw (same, f) at w in
      let u' : length (refusal_text q) ≤ 60000 = rw same at u in
      record { put = w'; whole = λ k. put_fits (refusal_text q) d d' n w' (omega arith) }

-- ---- Of a schedule's bytes.

module _ (s d d' : List ℕ) (n : ℕ) where
  pub was_written : (a : TextAnswer) → a ≡ Ok n → length d < last_position → Reported s d d' a → PrintedSchedule s d d' n
  unfolding output_of
  was_written a e k p =
      let o = written (text_too_long 0) d d' n (report_of s) k (ap numbers_of (sym e) ∙ p.answer_is) p.buffer_is in
      record { put = o.put; whole = o.whole; claim = λ ms f _. rw e at (p.claim ms f (rw e)) }

  -- k is the question's number as the code has it; it and the member's have at most ten digits
  pub was_refused : (a : TextAnswer) (r : Refusal) (k : ℕ) (d₁ : List ℕ) → a ≡ Err r → k < 10 ^ 10 → r.member < 10 ^ 10 → k ≡ number_of r.question →
      Reported s d d₁ a → Put d₁ 0 (line_text (refusal_words k r.member)) d' n → PrintedSchedule s d d' n
  unfolding output_of
  was_refused a r k d₁ i h g e p w =
      let u : length (line_text (refusal_words k r.member)) ≤ 60000 = omega (arith, refusal_short 10 10 k r.member (omega arith) (omega arith) h g) in
      let o = refused (text_too_long 0) d d' n (report_of s) r d₁ (report_fits s) (rw e at u) (ap numbers_of (sym i) ∙ p.answer_is) p.buffer_is (rw e at w) in
      record { put = o.put; whole = o.whole; claim = λ ms f h. absurd (no_refusal s d ms r f h (ap numbers_of (sym i) ∙ p.answer_is)) }

-- what is printed stands within a buffer of 60,000 bytes or more
pub within : (s d d' : List ℕ) (n : ℕ) → PrintedSchedule s d d' n → 60000 ≤ length d → (n ≤ length d') × (n ≡ length (take n d'))
within s d d' n p h =
    let t = output_of s in
    let e : n ≡ length t = (p.whole h).0 in
    let f : d' ≡ t ++ drop (length t) d = (p.whole h).1 in
    rw (e, f) (omega (arith, length-append t (drop (length t) d)), ap length (sym (take-append_seam t (drop (length t) d))))
