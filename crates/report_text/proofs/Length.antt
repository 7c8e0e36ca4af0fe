-- How long a report can be.
use Prim.Native.Nat.{ℕ, zero, suc, ◌+◌, ◌*◌, ◌^◌, ◌≤◌, ◌<◌}
use mathlib.Core.Path.{◌≡◌, refl}
use mathlib.Core.List.{List, ◌++◌, map}
use native.Mathlib.Omega.{arith}
use lib.ListN.{length, length-append, length-map}
use Rattle.quantity.specs.All.{All}
use Rattle.quantity.proofs.All.{all_map}
use Rattle.line.specs.Line.{line_words, head_words, report_words, line_text}
use Rattle.line.proofs.Length.{line_short, head_short, text_short}
use Rattle.member.specs.Member.{Member, beam, column, mesh}
use Rattle.member.specs.Accepted.{AcceptedMember, AcceptedMembers}
use Rattle.question.specs.declared.Question.{Question}
use Rattle.field_layout.specs.declared.valid.ValidMember.{ValidMember}
use Rattle.field_layout.specs.Valid.{valid_member}
use Rattle.verdict.specs.declared.Built.{Built}
use Rattle.verdict.specs.Built.{member_of}
use Rattle.outcome.specs.declared.Outcome.{Outcome}
use Rattle.question.specs.Reading.{Reading, got, no}
use Rattle.varint.specs.Placed.{Placed}
use Rattle.members.specs.Members.{member}
use Rattle.members.proofs.Accepted.{member_was}
use Rattle.checks.specs.MemberOutcome.{mark_of, outcome_of}
use Rattle.checks.proofs.Figures.{member_short}
use Rattle.report_text.specs.ReportText.{report_text, member_text, lines_from, with_member}
use Rattle.report_text.proofs.ReportText.{mark_of_lem}

mark_short : (m : Member) → AcceptedMember m → mark_of m < 10 ^ 6
mark_short (beam mark x) a = omega (arith, a.0.1)
mark_short (column mark x) a = omega (arith, a.0.1)
mark_short (mesh mark x) a = omega (arith, a.0.1)

-- a mark of at most six digits, and figures of at most nine
pub member_line_short : (m : Member) → AcceptedMember m → length (member_text m) ≤ 55
member_line_short m a =
    let f = member_short m a in
    line_short 6 9 (mark_of m) (outcome_of m) (omega arith) (omega arith) (mark_short m a) f.first f.second f.third f.fourth

pub line_fits : (m : ValidMember) (o : Outcome) → o ≡ outcome_of (valid_member m) → length (line_text (line_words m.mark o)) ≤ 55
line_fits m o e = rw (← mark_of_lem m.mark m.kind m.fields.v, e) (member_line_short (valid_member m) m.accepted)

lines_short : (ms : List Member) → AcceptedMembers ms → All (λ l. length (line_text l) ≤ 55) (map (λ m. line_words (mark_of m) (outcome_of m)) ms)
lines_short ms a = all_map AcceptedMember _ (λ m. line_words (mark_of m) (outcome_of m)) member_line_short ms a

pub report_short : (ms : List Member) → AcceptedMembers ms → length ms ≤ 500 → length (report_text ms) ≤ 60000
report_short ms a h =
    let head : length (line_text (head_words (length ms))) ≤ 55 = omega (arith, head_short 3 (length ms) (omega arith) (omega arith)) in
    omega (arith, text_short 55 (report_words mark_of outcome_of ms) (head, lines_short ms a), length-map ms (λ m. line_words (mark_of m) (outcome_of m)))

-- the lines of members read one after the other
lines_most : (n : ℕ) (s : List ℕ) (p : ℕ) → length (lines_from n s p) ≤ 55 * n
unfolding lines_from
lines_most zero s p = omega arith
lines_most (suc n) s p = go (lines_most n s) (member s p 0) refl
  where
    go : ((q : ℕ) → length (lines_from n s q) ≤ 55 * n) → (o : Reading Question (Placed Built)) → member s p 0 ≡ o →
        length (with_member o (λ b. member_text (member_of b.value) ++ lines_from n s b.next)) ≤ 55 * suc n
    go h (got b) e =
        let m = member_of b.value in
        rw length-append (omega (arith, h b.next, member_line_short m (member_was s p 0 b.value b.next e).accepted))
    go h (no q) e = omega arith

pub report_fits : (count : ℕ) (s : List ℕ) (p : ℕ) {n : ℕ} → count < 2 ^ 32 → 19 + 55 * count ≤ n →
    length (line_text (head_words count) ++ lines_from count s p) ≤ n
report_fits count s p h k = rw length-append (omega (arith, head_short 10 count (omega arith) (omega arith), lines_most count s p))
