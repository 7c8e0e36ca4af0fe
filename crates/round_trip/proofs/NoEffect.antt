-- Slots past a count or past the last field, and words past the last whole record, have no effect: held schedules whose records agree where
-- a field is there have the same members, or the same refusal.
use Rattle.std.specs.Prelude.{Err, Ok}
use Prim.Native.Nat.{ℕ, zero, suc, ◌+◌, ◌*◌, ◌/◌, ◌≤◌, ◌<◌}
use mathlib.Core.Path.{◌≡◌, refl, sym, ap, ◌∙◌}
use mathlib.Core.Bool.{Bool, true, false, ◌&&◌, true≢false}
use mathlib.Core.List.{List, [], ◌∷◌}
use native.Mathlib.Nat.{zero-add, add-zero, zero-mul}
use native.Mathlib.Omega.{arith}
use lib.Dec.{lt→ltb}
use lib.ListN.{length, get_or}
use Rattle.quantity.proofs.Choice.{both_true}
use Rattle.question.specs.declared.Question.{Question}
use Rattle.question.specs.declared.Question.TheVariants.{Count}
use Rattle.question.specs.Reading.{Verdict}
use Rattle.question.specs.Reading.{Reading, got, ask, passed, refusal}
use Rattle.member.specs.Member.{Member}
use Rattle.field_domain.specs.declared.Domain.{Domain}
use Rattle.field_domain.specs.declared.Domain.TheVariants.{Grade}
use Rattle.field_domain.specs.Domain.{presence, is_present, field_holds}
use Rattle.field_domain.proofs.Present.{count_below, SameCounts, present_same, always_present}
use Rattle.field_table.specs.declared.MemberKind.{MemberKind}
use Rattle.field_table.specs.Fields.{known, kind_of, fields_of}
use Rattle.field_check.specs.FieldCheck.{fields_hold}
use Rattle.field_layout.specs.Layout.{slot}
use Rattle.verdict.specs.declared.Built.{Built}
use Rattle.verdict.specs.Built.{member_of}
use Rattle.verdict.specs.Verdict.{member_verdict, fields_verdict, built_verdict}
use Rattle.schedule.specs.Schedule.{count_fits}
use Rattle.held_schedule.specs.HeldSchedule.{record_words, record_at, records_from, records_of, record_verdict, record_members, held_members}
use Rattle.held_schedule.proofs.Records.{passed_all, records_length}
use Rattle.round_trip.proofs.Unread.{Agree, member_same}
use Rattle.round_trip.proofs.Back.{well_placed, well_ordered, always_there, kind_ordered}

-- ---- Question 7.

module _ (v w : List ℕ) where
  field_same : (d : Domain) (i : ℕ) → is_present d w ≡ is_present d v → (is_present d v ≡ true → slot w i ≡ slot v i) → field_holds d i w ≡ field_holds d i v
  unfolding field_holds
  field_same d i same a = go (is_present d v) refl
    where
      go : (c : Bool) → is_present d v ≡ c → field_holds d i w ≡ field_holds d i v
      go true e = rw (same, e, a e)
      go false e = rw (same, e)

  -- the fields from slot i on; the counts are below slot n
  fields_same : (isCount : ℕ → Bool) (n : ℕ) → SameCounts isCount n v w → (ds : List Domain) (i : ℕ) → i + length ds ≤ n → well_ordered isCount i ds ≡ true
      → ((k : ℕ) → k < length ds → is_present (get_or ds k Grade) v ≡ true → slot w (i + k) ≡ slot v (i + k)) → fields_hold ds i w ≡ fields_hold ds i v
  unfolding well_ordered
  fields_same isCount n c [] i l o a = refl
  fields_same isCount n c (d ∷ ds) i l o a =
      let t = both_true (well_placed isCount d i) _ o in
      let p = both_true (count_below isCount (presence d) i) _ t.0 in
      let same = present_same isCount d i v w p.0 (λ k e h. c k e (omega arith)) in
      let first = field_same d i same (λ e. rw add-zero at (a 0 (omega arith) e)) in
      let rest = fields_same isCount n c ds (i + 1) (omega arith) t.1 (λ k h e. let z : i + suc k ≡ i + 1 + k = omega arith in rw (← z) (a (suc k) (omega arith) e)) in
      ap (λ (b : Bool). b && fields_hold ds (i + 1) w) first ∙ ap (λ (b : Bool). field_holds d i v && b) rest

  kind_same : (kind : MemberKind) → Agree (fields_of kind) v w → fields_hold (fields_of kind) 0 w ≡ fields_hold (fields_of kind) 0 v
  kind_same kind a =
      let fs = fields_of kind in
      fields_same (always_there fs) (length fs) (λ k e h. a k (lt→ltb _ _ h) (always_present (get_or fs k Grade) v e)) fs 0 (omega arith) (kind_ordered kind)
      (λ k h e. let z : 0 + k ≡ k = omega arith in rw z (a k (lt→ltb _ _ h) e))

-- ---- Records.

-- y has the mark and the kind of x, and, where the kind is known, its fields
pub record SameRecord (x y : Built) : Type 0 where
  pub mark : y.mark ≡ x.mark
  pub kind : y.kind ≡ x.kind
  pub fields : known x.kind ≡ true → Agree (fields_of (kind_of x.kind)) x.fields.v y.fields.v

-- the member, or the question answered no
abbrev record_reading : ℕ → Built → Reading Question Member
record_reading before x = passed (record_verdict before x) (got (member_of x))

record_same : (before : ℕ) (x y : Built) → SameRecord x y → record_reading before y ≡ record_reading before x
unfolding record_verdict built_verdict fields_verdict member_verdict
record_same before x y s = on_kind (known x.kind) refl
  where
    refused : (t : Verdict) (m n : Member) → (t ≡ (Ok tt) → ⊥) → passed t (got m) ≡ passed t (got n)
    refused (Ok tt) m n h = absurd (h refl)
    refused (Err q) m n h = refl

    on_kind : (k : Bool) → known x.kind ≡ k → record_reading before y ≡ record_reading before x
    on_kind true e =
        let a = s.fields e in
        let v = x.fields.v in
        let w = y.fields.v in
        let kind = kind_of x.kind in
        rw (s.mark, s.kind, kind_same v w kind a, member_same v w 0 kind a, member_same v w x.mark kind a)
    on_kind false e =
        let same : record_verdict before y ≡ record_verdict before x = rw (s.mark, s.kind, e) in
        ap (λ (t : Verdict). passed t (got (member_of y))) same
        ∙ refused (record_verdict before x) (member_of y) (member_of x) (λ h. true≢false (sym (passed_all before x h).built.is_known ∙ e))

module _ (words words' : List ℕ) where
  records_same : (n p before i : ℕ) → ((k : ℕ) → k < n → SameRecord (record_at words (p + k * record_words)) (record_at words' (p + k * record_words)))
      → record_members before i (records_from n words' p) ≡ record_members before i (records_from n words p)
  unfolding records_from record_members
  records_same zero p before i a = refl
  records_same (suc n) p before i a =
      let x = record_at words p in
      let here = rw (zero-mul, add-zero) at (a 0 (omega arith)) in
      let r = record_same before x (record_at words' p) here in
      let rest = records_same n (p + record_words) x.mark (i + 1)
      (λ k h. let z : p + suc k * record_words ≡ p + record_words + k * record_words = omega arith in rw (← z) (a (suc k) (omega arith))) in
      rw (r, here.mark, rest)

  pub held_same : length words' / record_words ≡ length words / record_words
      → ((k : ℕ) → k < length words / record_words → SameRecord (record_at words (k * record_words)) (record_at words' (k * record_words))) → held_members words' ≡ held_members words
  unfolding held_members records_of
  held_same e a = rw (e, records_length (length words / record_words) words 0, records_length (length words / record_words) words' 0)
      (ap (ask (refusal Count 0) (count_fits (length words / record_words))) (records_same (length words / record_words) 0 0 1 (λ k h. rw zero-add (a k h))))
