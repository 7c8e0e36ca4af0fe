-- How many bytes a member has: at most 61, so that no file exceeds 60,000.
use Prim.Native.Nat.{ℕ, zero, suc, ◌+◌, ◌/◌, ◌≤◌, ◌<◌}
use mathlib.Core.Path.{◌≡◌}
use mathlib.Core.Bool.{true, false}
use mathlib.Core.List.{List, [], ◌∷◌}
use native.Mathlib.Decide.{dec_le}
use native.Mathlib.Omega.{arith}
use lib.Dec.{ltb}
use lib.ListN.{length, length-append}
use borrow.Author.Tests.{lt-ltb, le-ltb}
use Rattle.quantity.proofs.Choice.{if_case, both_true}
use Rattle.table.proofs.Table.{key_between}
use Rattle.material.specs.Concrete.{concretes}
use Rattle.material.specs.Steel.{steels, link_steels}
use Rattle.varint.specs.Encoding.{septets_of, bytes_of}
use Rattle.field_domain.specs.declared.Domain.{Domain}
use Rattle.field_domain.specs.declared.Domain.TheVariants.{Range, ZeroOr, Bar, Grade, Steel, LinkSteel, GroupDiameter, GroupBars}
use Rattle.field_domain.specs.Domain.{holds, is_present, field_holds}
use Rattle.field_domain.proofs.InRange.{in_between, a_bar}
use Rattle.field_domain.proofs.Present.{present_holds}
use Rattle.field_table.specs.declared.MemberKind.{MemberKind}
use Rattle.field_table.specs.declared.MemberKind.TheVariants as kinds
use Rattle.field_table.specs.Fields.{known, kind_of, fields_of}
use Rattle.field_check.specs.FieldCheck.{fields_hold}
use Rattle.field_layout.specs.Layout.{slot, member_at}
use Rattle.field_layout.proofs.Held.{in_range_lem, zero_or, in_bars, a_grade, a_steel, a_link_steel}
use Rattle.verdict.specs.Verdict.{mark_in_range}
use Rattle.encoding.specs.ScheduleBytes.{bytes_of_all, member_numbers}
use Rattle.encoding.proofs.Rows.{member_numbers_lem}
use Rattle.round_trip.proofs.Present.{present_numbers, present_numbers_lem}

-- ---- A smaller number has no more bytes.

septets_some : (k v : ℕ) → 1 ≤ length (septets_of k v)
unfolding septets_of
septets_some zero v = omega arith
septets_some (suc k) v = if_case (λ (l : List ℕ). 1 ≤ length l) (ltb v 128) _ _ (λ _. omega arith) (λ _. omega arith)

septets_most : (k v n : ℕ) → v ≤ n → length (septets_of k v) ≤ length (septets_of k n)
unfolding septets_of
septets_most zero v n h = omega arith
septets_most (suc k) v n h = go (dec_le 128 v) (septets_most k (v / 128) (n / 128) (omega arith))
  where
    go : Dec (128 ≤ v) → length (septets_of k (v / 128)) ≤ length (septets_of k (n / 128)) → length (septets_of (suc k) v) ≤ length (septets_of (suc k) n)
    go (yes g) i = let l : 128 ≤ n = omega arith in rw (le-ltb v 128 g, le-ltb n 128 l) (omega arith)
    go (no g) i = let l : v < 128 = omega arith in rw (lt-ltb v 128 l) (septets_some (suc k) n)

pub bytes_most : (v n : ℕ) → v ≤ n → length (bytes_of v) ≤ length (bytes_of n)
unfolding bytes_of
bytes_most v n h = septets_most 4 v n h

-- ---- A field.

-- the largest value of a field; of a grade or a steel, the largest of one byte
unfoldable pub largest : Domain → ℕ
largest (Range lo hi) = hi
largest (ZeroOr lo hi) = hi
largest (Bar lo hi) = hi
largest Grade = 127
largest Steel = 127
largest LinkSteel = 127
largest (GroupDiameter k j) = 50
largest (GroupBars k j) = 20

pub at_most : (d : Domain) (i : ℕ) (v : List ℕ) → is_present d v ≡ true → field_holds d i v ≡ true → slot v i ≤ largest d
unfolding largest holds
at_most (Range lo hi) i v p e = (in_range_lem v i lo hi e).1
at_most (ZeroOr lo hi) i v p e = zero_or v i lo hi e
at_most (Bar lo hi) i v p e = (in_bars v i lo hi e).most
at_most Grade i v p e = (key_between 0 127 (slot v i) concretes tt (a_grade v i e)).1
at_most Steel i v p e = (key_between 0 127 (slot v i) steels tt (a_steel v i e)).1
at_most LinkSteel i v p e = (key_between 0 127 (slot v i) link_steels tt (a_link_steel v i e)).1
at_most (GroupDiameter k j) i v p e = (a_bar 6 50 (slot v i) (present_holds (GroupDiameter k j) i v p e)).most
at_most (GroupBars k j) i v p e = (in_between {lo = 1} {hi = 20} (present_holds (GroupBars k j) i v p e)).1

-- ---- The fields of a kind.

-- the bytes of fields that all hold their largest values
total : List Domain → ℕ
total [] = 0
total (d ∷ ds) = length (bytes_of (largest d)) + total ds

fields_most : (fs : List Domain) (i : ℕ) (v : List ℕ) → fields_hold fs i v ≡ true → length (bytes_of_all (present_numbers fs i v)) ≤ total fs
unfolding present_numbers total bytes_of_all
fields_most [] i v e = omega arith
fields_most (d ∷ ds) i v e =
    let f = both_true (field_holds d i v) (fields_hold ds (i + 1) v) e in
    let h = fields_most ds (i + 1) v f.1 in
    if_case (λ (l : List ℕ). length (bytes_of_all l) ≤ length (bytes_of (largest d)) + total ds) (is_present d v) _ _
    (λ p. rw length-append (omega (arith, h, bytes_most (slot v i) (largest d) (at_most d i v p f.0))))
    (λ p. omega (arith, h))

kind_most : (kind : MemberKind) → total (fields_of kind) ≤ 57
unfolding total largest fields_of bytes_of septets_of
kind_most (kinds.Beam false) = omega arith
kind_most (kinds.Beam true) = omega arith
kind_most kinds.Column = omega arith
kind_most kinds.Mesh = omega arith

-- ---- A member.

pub member_most : (mark number : ℕ) (v : List ℕ) → mark_in_range mark ≡ true → known number ≡ true → fields_hold (fields_of (kind_of number)) 0 v ≡ true
    → length (bytes_of_all (member_numbers (member_at mark (kind_of number) v))) ≤ 61
unfolding mark_in_range known bytes_of septets_of bytes_of_all
member_most mark number v m k e =
    let fs = fields_of (kind_of number) in
    let a : length (bytes_of mark) ≤ 3 = bytes_most mark 999999 (in_between {lo = 1} {hi = 999999} m).1 in
    let b : length (bytes_of number) ≤ 1 = bytes_most number 4 (in_between {lo = 1} {hi = 4} k).1 in
    rw (← member_numbers_lem mark number v k, ← present_numbers_lem v (kind_of number) e, length-append, length-append)
    (omega (arith, a, b, fields_most fs 0 v e, kind_most (kind_of number)))
