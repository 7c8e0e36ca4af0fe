-- An accepted file is the only one for its members: its bytes are theirs.
use Prim.Native.Nat.{ℕ, zero, suc, ◌+◌, ◌≤◌}
use mathlib.Core.Path.{◌≡◌, sym, ap, ◌∙◌}
use mathlib.Core.Bool.{true, false}
use mathlib.Core.List.{List, [], ◌∷◌, ◌++◌, append_assoc, append-nil}
use native.Mathlib.Omega.{arith}
use lib.ListN.{length, get_or, set, drop, length-set, drop_of_length-le}
use lib.Seq.{get_or-set_same, get_or-set_other}
use Rattle.quantity.proofs.Choice.{both_true}
use Rattle.varint.specs.Encoding.{bytes_of, Bytes}
use Rattle.varint.proofs.Encoded.{only_bytes}
use Rattle.member.specs.Member.{Member}
use Rattle.field_domain.specs.declared.Domain.{Domain}
use Rattle.field_domain.specs.Domain.{presence, is_present}
use Rattle.field_domain.proofs.Present.{count_below, any_slot, present_same}
use Rattle.field_table.specs.Fields.{kind_of, fields_of}
use Rattle.field_table.proofs.Tables.{fields_fit}
use Rattle.verdict.specs.declared.Built.{Built}
use Rattle.verdict.specs.Built.{member_of}
use Rattle.question.specs.Reading.{got, and_then}
use Rattle.varint.specs.Placed.{Placed, placed}
use Rattle.field_validator.specs.FieldsAt.{empty}
use Rattle.field_validator.specs.Taken.{taken}
use Rattle.field_validator.proofs.Held.{ordered, in_order}
use Rattle.field_validator.proofs.Taken.{got_is, on_taken, kept}
use Rattle.members.specs.Members.{member, members}
use Rattle.members.proofs.Members.{first_read, members_length}
use Rattle.members.proofs.Accepted.{no_got, member_parts}
use Rattle.schedule.specs.Schedule.{schedule}
use Rattle.schedule.proofs.Accepted.{schedule_read}
use Rattle.encoding.specs.ScheduleBytes.{bytes_of_all, member_numbers, members_bytes, schedule_bytes}
use Rattle.encoding.proofs.Rows.{member_numbers_lem}
use Rattle.round_trip.proofs.Present.{present_numbers, present_numbers_lem}

-- three lists before another
pub three : (a b c d : List ℕ) → a ++ (b ++ (c ++ d)) ≡ (a ++ (b ++ c)) ++ d
three a b c d = ap (λ (t : List ℕ). a ++ t) (sym (append_assoc b c d)) ∙ sym (append_assoc a (b ++ c) d)

module _ (s : List ℕ) (small : Bytes s) where
  -- ---- The fields of a member.

  module _ (w : List ℕ) (q : ℕ) where
    only_fields : (fs : List Domain) (p i : ℕ) (v : List ℕ) → ordered i fs ≡ true → i + length fs ≤ length v → taken fs s p i v ≡ got (placed w q)
        → drop p s ≡ bytes_of_all (present_numbers fs i w) ++ drop q s
    unfolding taken present_numbers ordered bytes_of_all
    only_fields [] p i v o l e =
        let f : p ≡ q = ap (λ (x : Placed (List ℕ)). x.next) (got_is e) in rw f
    only_fields (d ∷ ds) p i v o l u =
        on_taken (λ r. and_then r (λ x. taken ds s x.next (i + 1) x.value) ≡ got (placed w q) → drop p s ≡ bytes_of_all (present_numbers (d ∷ ds) i w) ++ drop q s) d s p i v
        (λ a e.
        let k = kept s w q ds p (i + 1) v e in
        let same : is_present d w ≡ false = present_same any_slot d i v w b.0 (λ j _ g. k j (omega arith)) ∙ a in
        rw same (only_fields ds p (i + 1) v b.1 (omega arith) e))
        (λ x next a n e.
        let k = kept s w q ds next (i + 1) (set v i x) e in
        let at : get_or w i 0 ≡ x = k i (omega arith) ∙ get_or-set_same v i x 0 (omega arith) in
        let same : is_present d w ≡ true = present_same any_slot d i v w b.0 (λ j _ g. k j (omega arith) ∙ get_or-set_other v i j x 0 (λ f. omega arith)) ∙ a in
        rw (same, at)
        (only_bytes s small p x next n
        ∙ ap (λ (t : List ℕ). bytes_of x ++ t) (only_fields ds next (i + 1) (set v i x) b.1 (rw (length-set v i x) (omega arith)) e)
        ∙ sym (append_assoc (bytes_of x) (bytes_of_all (present_numbers ds (i + 1) w)) (drop q s))))
        (λ r e. absurd (no_got e))
        u
      where
        b : (count_below any_slot (presence d) i ≡ true) × (ordered (i + 1) ds ≡ true)
        b = both_true (count_below any_slot (presence d) i) (ordered (i + 1) ds) o

  -- ---- A member.

  only_member : (p before : ℕ) (x : Placed Built) → member s p before ≡ got x → drop p s ≡ bytes_of_all (member_numbers (member_of x.value)) ++ drop x.next s
  unfolding bytes_of_all
  only_member p before x e =
      let r = member_parts s p before x e in
      let kind = kind_of r.kind in
      let m = only_bytes s small p r.mark r.after_mark r.mark_is in
      let k = only_bytes s small r.after_mark r.kind r.after_kind r.kind_is in
      let f = only_fields r.slots x.next (fields_of kind) r.after_kind 0 empty (in_order kind) (omega (arith, fields_fit kind)) r.takes in
      rw (r.member_is, ← member_numbers_lem r.mark r.kind r.slots r.is_known, ← present_numbers_lem r.slots kind r.held)
      (m ∙ ap (λ (t : List ℕ). bytes_of r.mark ++ t) (k ∙ ap (λ (t : List ℕ). bytes_of r.kind ++ t) f)
      ∙ three (bytes_of r.mark) (bytes_of r.kind) (bytes_of_all (present_numbers (fields_of kind) 0 r.slots)) (drop x.next s))

  -- ---- Members in a row, and the file.

  only_members : (n p before i : ℕ) (ms : List Member) (end : ℕ) → members n s p before i ≡ got (placed ms end) → drop p s ≡ members_bytes ms ++ drop end s
  unfolding members members_bytes
  only_members zero p before i ms end e =
      let same : placed [] p ≡ placed ms end = got_is e in
      let l : [] ≡ ms = ap (λ (x : Placed (List Member)). x.value) same in
      let q : p ≡ end = ap (λ (x : Placed (List Member)). x.next) same in
      rw (← l, q)
  only_members (suc n) p before i ms end e =
      let f = first_read n s p before i ms end e in
      rw f.list
      (only_member p before (placed f.first f.next) f.reads
      ∙ ap (λ (t : List ℕ). bytes_of_all (member_numbers (member_of f.first)) ++ t) (only_members n f.next f.first.mark (i + 1) f.others end f.reads_others)
      ∙ sym (append_assoc (bytes_of_all (member_numbers (member_of f.first))) (members_bytes f.others) (drop end s)))

  pub only_file : (ms : List Member) → schedule s ≡ got ms → s ≡ schedule_bytes ms
  unfolding schedule_bytes
  only_file ms e =
      let r = schedule_read s ms e in
      let c = only_bytes s small 0 r.count r.start r.counted in
      let m = only_members r.count r.start 0 1 ms r.end r.reads in
      rw (members_length r.count s r.start 0 1 ms r.end r.reads)
      (c ∙ ap (λ (t : List ℕ). bytes_of r.count ++ t) (m ∙ ap (λ (t : List ℕ). members_bytes ms ++ t) (drop_of_length-le s r.whole) ∙ append-nil (members_bytes ms)))
