-- The lines of members read one after the other, and that they are the report's.
use Prim.Native.Nat.{ℕ, zero, suc, ◌+◌, ◌-◌, ◌<◌, ◌≤◌}
use mathlib.Core.Path.{◌≡◌, refl, sym, ap, ◌∙◌}
use mathlib.Core.List.{List, [], ◌∷◌, ◌++◌, map}
use native.Mathlib.Omega.{arith}
use lib.ListN.{length}
use Rattle.text.specs.Text.{text_of, ended_by}
use Rattle.text.specs.declared.Writer.{Writer}
use Rattle.text.specs.Wrote.{Wrote}
use Rattle.line.specs.Line.{line_words, head_words, line_text}
use Rattle.line.proofs.Text.{text_append}
use Rattle.outcome.specs.declared.Outcome.{Outcome}
use Rattle.member.specs.Member.{Member}
use Rattle.field_table.specs.declared.MemberKind.{MemberKind}
use Rattle.field_table.specs.declared.MemberKind.TheVariants as kinds
use Rattle.field_table.specs.Fields.{kind_of}
use Rattle.verdict.specs.declared.Built.{Built}
use Rattle.field_layout.specs.Layout.{member_at}
use Rattle.verdict.specs.Built.{member_of}
use Rattle.question.specs.Reading.{got}
use Rattle.varint.specs.Placed.{placed, Placed}
use Rattle.members.specs.Members.{member, members}
use Rattle.members.proofs.Members.{first_read, members_length}
use Rattle.members.proofs.Accepted.{any_before}
use Rattle.checks.specs.MemberOutcome.{mark_of, outcome_of}
use Rattle.report_text.specs.ReportText.{report_text, member_text, lines_from}

-- ---- One turn.

pub lines_none : (n : ℕ) (s : List ℕ) (p : ℕ) → n ≤ 0 → lines_from n s p ≡ []
unfolding lines_from
lines_none n s p h = let e : n ≡ 0 = omega arith in rw e

pub lines_more : (n : ℕ) (s : List ℕ) (p : ℕ) → 0 < n → (b : Built) (next : ℕ) → member s p 0 ≡ got (placed b next)
    → lines_from n s p ≡ member_text (member_of b) ++ lines_from (n - 1) s next
unfolding lines_from
lines_more n s p h b next e =
    let one_less : n ≡ suc (n - 1) = omega arith in
    ap (λ (k : ℕ). lines_from k s p) one_less ∙ rw e

-- the mark of a member in slots
pub mark_of_lem : (mark : ℕ) (kind : MemberKind) (v : List ℕ) → mark_of (member_at mark kind v) ≡ mark
unfolding member_at
mark_of_lem mark (kinds.Beam pointLoad) v = refl
mark_of_lem mark kinds.Column v = refl
mark_of_lem mark kinds.Mesh v = refl

-- what is put for a member is its text
pub wrote_member : (b : Built) {w w' : Writer} (o : Outcome) → o ≡ outcome_of (member_of b) →
    Wrote w (line_text (line_words b.mark o)) w' → Wrote w (member_text (member_of b)) w'
wrote_member b o e h = rw (mark_of_lem b.mark (kind_of b.kind) b.fields.v, ← e) h

-- ---- All of them.

-- the lines of members that were read are the report's
pub members_lines : (n : ℕ) (s : List ℕ) (p before i : ℕ) (ms : List Member) (end : ℕ) → members n s p before i ≡ got (placed ms end) →
    lines_from n s p ≡ text_of (map (λ m. line_words (mark_of m) (outcome_of m)) ms)
unfolding members lines_from text_of ended_by
members_lines zero s p before i ms end e =
    let same : placed [] p ≡ placed ms end = cc in
    rw (← ap (λ (x : Placed (List Member)). x.value) same)
members_lines (suc n) s p before i ms end e =
    let f = first_read n s p before i ms end e in
    let r = members_lines n s f.next f.first.mark (i + 1) f.others end f.reads_others in
    rw (f.list, any_before s p before _ f.reads) (ap (λ (l : List ℕ). member_text (member_of f.first) ++ l) r ∙
    sym (text_append (line_words (mark_of (member_of f.first)) (outcome_of (member_of f.first)) ∷ []) (map (λ m. line_words (mark_of m) (outcome_of m)) f.others)))

pub report_lines : (n : ℕ) (s : List ℕ) (p : ℕ) (ms : List Member) (end : ℕ) → members n s p 0 1 ≡ got (placed ms end) →
    line_text (head_words n) ++ lines_from n s p ≡ report_text ms
report_lines n s p ms end e =
    rw (← members_length n s p 0 1 ms end e) (ap (λ (l : List ℕ). line_text (head_words (length ms)) ++ l) (rw (members_length n s p 0 1 ms end e) (members_lines n s p 0 1 ms end e))
    ∙ sym (text_append (head_words (length ms) ∷ []) (map (λ m. line_words (mark_of m) (outcome_of m)) ms)))
