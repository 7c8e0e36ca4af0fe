-- Records as the loop of `put_records` takes them.
use Prim.Native.Nat.{ℕ, suc, ◌+◌, ◌-◌, ◌≤◌, ◌<◌}
use mathlib.Core.Path.{◌≡◌, ap}
use mathlib.Core.Bool.{true}
use mathlib.Core.List.{List, [], ◌++◌}
use native.Mathlib.Omega.{arith}
use Rattle.text.specs.declared.Writer.{Writer}
use Rattle.text.specs.Wrote.{Wrote}
use Rattle.field_table.specs.Fields.{known, kind_of, fields_of}
use Rattle.field_check.specs.FieldCheck.{fields_hold}
use Rattle.verdict.specs.declared.Built.{Built}
use Rattle.verdict.specs.Built.{member_of}
use Rattle.encoding.specs.ScheduleBytes.{bytes_of_all, member_numbers, members_bytes}
use Rattle.held_schedule.specs.HeldSchedule.{record_words, record_at, records_from}
use Rattle.round_trip.specs.RecordBytes.{records_bytes, InRange, AllInRange}

pub records_none : (left : ℕ) (words : List ℕ) (p : ℕ) → left ≤ 0 → records_bytes (records_from left words p) ≡ []
unfolding records_from records_bytes members_bytes
records_none left words p h = let e : left ≡ 0 = omega arith in rw e

module _ (left : ℕ) (words : List ℕ) (p : ℕ) (h : 0 < left) where
  one_less : left ≡ suc (left - 1)
  one_less = omega arith

  pub first_in_range : AllInRange (records_from left words p) → InRange (record_at words p)
  unfolding records_from
  first_in_range a = (rw one_less at a).0

  pub others_in_range : AllInRange (records_from left words p) → AllInRange (records_from (left - 1) words (p + record_words))
  unfolding records_from
  others_in_range a = (rw one_less at a).1

  pub records_more : records_bytes (records_from left words p) ≡ bytes_of_all (member_numbers (member_of (record_at words p))) ++ records_bytes (records_from (left - 1) words (p + record_words))
  unfolding records_from records_bytes members_bytes
  records_more = ap (λ (n : ℕ). records_bytes (records_from n words p)) one_less

-- ---- A record that was read.

module _ {x y : Built} (e : x ≡ y) where
  pub read_in_range : InRange y → (known x.kind ≡ true) × (fields_hold (fields_of (kind_of x.kind)) 0 x.fields.v ≡ true)
  read_in_range r = rw e (r.1, r.2)

  pub wrote_record : {w w' : Writer} → Wrote w (bytes_of_all (member_numbers (member_of x))) w' → Wrote w (bytes_of_all (member_numbers (member_of y))) w'
  wrote_record h = rw (← e) h
