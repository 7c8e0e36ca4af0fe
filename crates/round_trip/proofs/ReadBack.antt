-- The members of a held schedule are read back from their bytes, and these are at most 60,000.
use Rattle.std.specs.Prelude.{Ok}
use Prim.Native.Nat.{ℕ, suc, ◌+◌, ◌*◌, ◌^◌, ◌≤◌, ◌<◌}
use mathlib.Core.Path.{◌≡◌, refl, sym, ap, ◌∙◌}
use mathlib.Core.Bool.{true}
use mathlib.Core.List.{List, [], ◌∷◌, ◌++◌, map, append_assoc, append-nil}
use native.Mathlib.Nat.{zero-add, add-zero}
use native.Mathlib.Omega.{arith}
use lib.Dec.{ltb→lt}
use lib.ListN.{length, length-append}
use borrow.Author.Tests.{le-leb}
use Rattle.question.specs.declared.Question.TheVariants.{Mark, Kind}
use Rattle.question.specs.Reading.{got}
use Rattle.varint.specs.Varint.{number_at}
use Rattle.varint.specs.Encoding.{septets_of, bytes_of}
use Rattle.varint.proofs.Encoded.{bytes_read}
use Rattle.member.specs.Member.{Member}
use Rattle.field_domain.proofs.InRange.{in_between}
use Rattle.field_table.specs.Fields.{known, kind_of, fields_of}
use Rattle.field_table.proofs.Tables.{fields_fit}
use Rattle.field_layout.specs.Layout.{member_at}
use Rattle.verdict.specs.declared.Built.{Built}
use Rattle.verdict.specs.Built.{member_of}
use Rattle.verdict.specs.Verdict.{mark_in_range, verdict_of, member_verdict}
use Rattle.varint.specs.Placed.{placed}
use Rattle.field_validator.specs.FieldsAt.{empty, fields}
use Rattle.field_validator.proofs.Checked.{number_passes}
use Rattle.field_validator.proofs.Taken.{got_is}
use Rattle.members.specs.Members.{member_body, mark_rises, mark_at, kind_at, member, members}
use Rattle.schedule.specs.Schedule.{schedule}
use Rattle.encoding.specs.ScheduleBytes.{bytes_of_all, member_numbers, members_bytes, schedule_bytes}
use Rattle.encoding.proofs.Rows.{member_numbers_lem}
use Rattle.held_schedule.specs.HeldSchedule.{record_members}
use Rattle.held_schedule.proofs.Records.{Passed, records_passed, record_members_length}
use Rattle.round_trip.specs.RecordBytes.{records_bytes, AllInRange}
use Rattle.round_trip.proofs.Present.{present_numbers, present_numbers_lem}
use Rattle.round_trip.proofs.Size.{bytes_most, member_most}
use Rattle.round_trip.proofs.Unread.{Agree, member_same}
use Rattle.round_trip.proofs.Only.{three}
use Rattle.round_trip.proofs.Back.{from_first, both_ended, back, always_there, kind_ordered}

-- ---- One member.

abbrev made : ℕ → ℕ → List ℕ → Built
made mark number v = record { mark = mark; kind = number; fields = record { v = v } }

-- read back: the same member
record MemberBack (before : ℕ) (x : Built) (pre rest : List ℕ) : Type 0 where
  built : Built
  reads : member (pre ++ (bytes_of_all (member_numbers (member_of x)) ++ rest)) (length pre) before
      ≡ got (placed built (length pre + length (bytes_of_all (member_numbers (member_of x)))))
  mark_is : built.mark ≡ x.mark
  member_is : member_of built ≡ member_of x

member_reads : (s : List ℕ) (before p a c r mark number : ℕ) (w : List ℕ) → number_at s p ≡ Ok (mark, a) → number_at s a ≡ Ok (number, c)
    → fields (fields_of (kind_of number)) s c 0 empty ≡ got (placed w r) → mark_rises before mark ≡ true → known number ≡ true → member_verdict (kind_of number) w ≡ (Ok tt)
    → member s p before ≡ got (placed (made mark number w) r)
unfolding member mark_at kind_at member_body
member_reads s before p a c r mark number w m k f rises is_known verdict =
    rw (number_passes Mark (mark_rises before) s p mark a m rises, number_passes Kind known s a number c k is_known, f, verdict)

-- the bytes of mark, kind and fields, taken apart from the left
module _ (pre a b n rest : List ℕ) where
  from_mark : pre ++ ((a ++ (b ++ n)) ++ rest) ≡ pre ++ (a ++ (b ++ (n ++ rest)))
  from_mark = ap (λ (t : List ℕ). pre ++ t) (sym (three a b n rest))

  from_kind : pre ++ ((a ++ (b ++ n)) ++ rest) ≡ (pre ++ a) ++ (b ++ (n ++ rest))
  from_kind = from_mark ∙ sym (append_assoc pre a (b ++ (n ++ rest)))

  from_fields : pre ++ ((a ++ (b ++ n)) ++ rest) ≡ ((pre ++ a) ++ b) ++ (n ++ rest)
  from_fields = from_kind ∙ sym (append_assoc (pre ++ a) b (n ++ rest))

  to_end : length ((pre ++ a) ++ b) + length n ≡ length pre + length (a ++ (b ++ n))
  to_end = simp length-append (omega arith)

member_back : (before mark number : ℕ) (v : List ℕ) → Passed before (made mark number v) → (pre rest : List ℕ) → MemberBack before (made mark number v) pre rest
unfolding mark_rises mark_in_range known bytes_of_all member_verdict
member_back before mark number v p pre rest =
    let kind = kind_of number in
    let fs = fields_of kind in
    let n = bytes_of_all (present_numbers fs 0 v) in
    let a = bytes_of mark in
    let b = bytes_of number in
    let pre2 = (pre ++ a) ++ b in
    let r = back (always_there fs) v fs 0 empty (kind_ordered kind) (omega (arith, fields_fit kind)) (λ k c h. absurd (omega arith)) p.built.held pre2 rest in
    let agree : Agree fs v r.slots = λ k h t. rw zero-add at (r.agrees k (ltb→lt k (length fs) h) t) in
    let numbers : member_numbers (member_at mark kind v) ≡ (mark ∷ number ∷ present_numbers fs 0 v) = rw (present_numbers_lem v kind p.built.held) (sym (member_numbers_lem mark number v p.built.is_known)) in
    let m-small : mark < 2 ^ 32 = omega (arith, in_between {lo = 1} {hi = 999999} {x = mark} p.built.mark_in_range_lem) in
    let k-small : number < 2 ^ 32 = omega (arith, in_between {lo = 1} {hi = 4} {x = number} p.built.is_known) in
    let s = pre ++ ((a ++ (b ++ n)) ++ rest) in
    let m : number_at s (length pre) ≡ Ok (mark, length (pre ++ a)) = rw (from_mark pre a b n rest, length-append) (bytes_read mark m-small pre (b ++ (n ++ rest))) in
    let k : number_at s (length (pre ++ a)) ≡ Ok (number, length pre2) = rw (from_kind pre a b n rest, length-append (pre ++ a) b) (bytes_read number k-small (pre ++ a) (n ++ rest)) in
    let f : fields fs s (length pre2) 0 empty ≡ got (placed r.slots (length pre + length (a ++ (b ++ n)))) = rw (from_fields pre a b n rest, ← to_end pre a b n rest) r.reads in
    record {
      built = made mark number r.slots;
      reads =
          rw numbers
          (member_reads s before (length pre) (length (pre ++ a)) (length pre2) (length pre + length (a ++ (b ++ n))) mark number r.slots m k f
          (rw (p.built.mark_in_range_lem, p.rises)) p.built.is_known (ap verdict_of (member_same v r.slots 0 kind agree) ∙ p.built.verdict));
      mark_is = refl;
      member_is = member_same v r.slots mark kind agree;
    }

-- ---- Members in a row.

members_step : (n : ℕ) (s : List ℕ) (p before i : ℕ) (b : Built) (next end : ℕ) (ms : List Member) → member s p before ≡ got (placed b next)
    → members n s next b.mark (i + 1) ≡ got (placed ms end) → members (suc n) s p before i ≡ got (placed (member_of b ∷ ms) end)
unfolding members
members_step n s p before i b next end ms e f = rw (e, f)

members_back : (xs : List Built) (before i : ℕ) (ms : List Member) → record_members before i xs ≡ got ms → (pre rest : List ℕ)
    → members (length xs) (pre ++ (members_bytes ms ++ rest)) (length pre) before i ≡ got (placed ms (length pre + length (members_bytes ms)))
unfolding record_members members members_bytes
members_back [] before i ms e pre rest =
    let l : [] ≡ ms = got_is e in
    rw (← l) (ap (λ (n : ℕ). got (placed [] n)) (sym (add-zero (length pre))))
members_back (x ∷ xs) before i ms e pre rest =
    let r = records_passed before i x xs ms e in
    let a = bytes_of_all (member_numbers (member_of x)) in
    let b = members_bytes r.others in
    let m = member_back before x.mark x.kind x.fields.v r.accepted pre (b ++ rest) in
    let s = from_first pre a b rest in
    let s2 = append_assoc pre a (b ++ rest) in
    let l = length-append pre a in
    let f = members_back xs x.mark (i + 1) r.others r.passes (pre ++ a) rest in
    rw (r.list, s)
    (members_step (length xs) (pre ++ (a ++ (b ++ rest))) (length pre) before i m.built (length pre + length a) (length pre + length (a ++ b)) r.others m.reads
    (rw (m.mark_is, ← s2, ← l) (f ∙ ap (λ (n : ℕ). got (placed r.others n)) (ap (λ (n : ℕ). n + length b) l ∙ both_ended pre a b)))
    ∙ ap (λ (y : Member). got (placed (y ∷ r.others) (length pre + length (a ++ b)))) m.member_is)

-- ---- The bytes of the records, and how many.

pub records_in_range : (xs : List Built) (before i : ℕ) (ms : List Member) → record_members before i xs ≡ got ms → AllInRange xs × (map member_of xs ≡ ms)
unfolding record_members
records_in_range [] before i ms e = (tt, got_is e)
records_in_range (x ∷ xs) before i ms e =
    let r = records_passed before i x xs ms e in
    let p = r.accepted.built in
    let o = records_in_range xs x.mark (i + 1) r.others r.passes in
    (((p.mark_in_range_lem, p.is_known, p.held), o.0), rw (r.list, o.1))

pub records_most : (xs : List Built) → AllInRange xs → length (records_bytes xs) ≤ 61 * length xs
unfolding records_bytes members_bytes
records_most [] h = omega arith
records_most (x ∷ xs) h =
    let m = member_most x.mark x.kind x.fields.v h.0.0 h.0.1 h.0.2 in
    rw length-append (omega (arith, m, records_most xs h.1))

pub count_most : (n : ℕ) → n ≤ 500 → length (bytes_of n) ≤ 2
unfolding bytes_of septets_of
count_most n h = bytes_most n 500 h

-- ---- The file of at most 500 members.

module _ (xs : List Built) (ms : List Member) (few : length xs ≤ 500) (e : record_members 0 1 xs ≡ got ms) where
  same_length : length ms ≡ length xs
  same_length = record_members_length xs 0 1 ms e

  pub file_most : length (schedule_bytes ms) ≤ 2 + 61 * length ms
  unfolding schedule_bytes records_bytes
  file_most =
      let r = records_in_range xs 0 1 ms e in
      let m : length (members_bytes ms) ≤ 61 * length xs = rw r.1 at (records_most xs r.0) in
      rw (same_length, length-append) (omega (arith, count_most (length xs) few, m))

  pub file_short : length (schedule_bytes ms) ≤ 60000
  file_short = omega (arith, file_most, same_length)

  pub file_back : schedule (schedule_bytes ms) ≡ got ms
  unfolding schedule schedule_bytes
  file_back =
      let a = bytes_of (length xs) in
      let b = members_bytes ms in
      let nil : a ++ (b ++ []) ≡ a ++ b = ap (λ (t : List ℕ). a ++ t) (append-nil b) in
      let c : number_at (a ++ b) 0 ≡ Ok (length xs, length a) = bytes_read (length xs) (omega arith) [] b ∙ ap (λ (p : ℕ). Ok (length xs, p)) (zero-add (length a)) in
      let m : members (length xs) (a ++ b) (length a) 0 1 ≡ got (placed ms (length a + length b)) = rw (← nil) (members_back xs 0 1 ms e a []) in
      let l : length (a ++ b) ≡ length a + length b = length-append a b in
      rw (same_length, le-leb (length (a ++ b)) 60000 (rw same_length at file_short), c, le-leb (length xs) 500 few, m, le-leb (length (a ++ b)) (length a + length b) (omega arith))
