-- The slots into which a lent member is put hold that member, and the questions put to them are its own.
use Prim.Native.Nat.{ℕ, zero, suc, ◌≤◌, ◌<◌}
use mathlib.Core.Path.{◌≡◌, refl, sym, ap, ap₂, ◌∙◌}
use mathlib.Core.Bool.{Bool, true, false, ◌&&◌}
use mathlib.Core.List.{List, [], ◌∷◌}
use native.Mathlib.Omega.{arith}
use lib.Dec.{ltb, ltb→lt}
use lib.ListN.{length, get_or, take, drop}
use borrow.Author.Tests.{lt-ltb, le-leb}
use Rattle.std.specs.Prelude.{if◌then◌else◌, Ok}
use Rattle.quantity.proofs.Choice.{both_true, and_true, and_false, and_assoc, and_comm}
use Rattle.question.specs.declared.Question.TheVariants.{Mark, Kind, Field}
use Rattle.bars.specs.declared.Group.{Group}
use Rattle.member.specs.Member.{beam, column, mesh}
use Rattle.field_domain.specs.declared.Domain.{Domain}
use Rattle.field_domain.specs.declared.Domain.TheVariants.{Range, GroupDiameter, GroupBars}
use Rattle.field_domain.specs.Domain.{group_diameter, group_bars, holds, is_present, field_holds}
use Rattle.field_domain.proofs.InRange.{in_between}
use Rattle.field_table.specs.declared.MemberKind.{MemberKind}
use Rattle.field_table.specs.declared.MemberKind.TheVariants as kinds
use Rattle.field_table.specs.Fields.{groups, beam_fields, beam_fields_of, column_fields, mesh_fields, known, kind_of, fields_of}
use Rattle.field_check.specs.FieldCheck.{fields_hold}
use Rattle.field_check.proofs.Joined.{holds_append}
use Rattle.field_layout.specs.Layout.{slot, beam_at, column_at, mesh_at, member_at}
use Rattle.field_layout.proofs.Held.{hold_at}
use Rattle.verdict.specs.declared.Built.{Built}
use Rattle.question.specs.Reading.{Verdict}
use Rattle.verdict.specs.Verdict.{ask_verdict, mark_in_range, verdict_of, member_verdict, fields_verdict, built_verdict}
use Rattle.verdict.proofs.Accepted.{built_passed}
use Rattle.lent_groups.specs.LentGroups.{group_holds, groups_hold, named_hold}
use Rattle.lent_groups.specs.CopiedGroups.{no_group, first_four}
use Rattle.lent_groups.proofs.Named.{named_groups, named_hold_lem}
use Rattle.lent_member.specs.declared.Lent.{Lent}
use Rattle.lent_member.specs.Lent.{lent_beam, lent_column, lent_of, lent_member, ungrouped, first_count, second_count, lent_fields_hold, lent_verdict}
use Rattle.lent_member.specs.LentSlots.{beam_slots, column_slots, mesh_slots, filled, lent_slots, built_of}

-- ---- Tests in another order.

-- the second test matters only where the first holds
where_first : (a : Bool) {x y : Bool} → (a ≡ true → x ≡ y) → (a && x) ≡ (a && y)
where_first true f = f refl
where_first false f = refl

groups_last : (p a c b r : Bool) → (p && (a && (c && (b && r)))) ≡ (p && (c && r) && (a && b))
groups_last false a c b r = refl
groups_last true false c b r = sym (and_false (c && r))
groups_last true true false b r = refl
groups_last true true true b r = and_comm b r

group_last : (p a r : Bool) → (p && (a && r)) ≡ (p && r && (a && true))
group_last false a r = refl
group_last true a r = and_comm a r ∙ ap (λ (b : Bool). r && b) (sym (and_true a))

-- ---- Question 7 of a table of fields in parts.

-- a field that is a count up to 4
at_most_four : (fs : List Domain) (lo k : ℕ) (v : List ℕ) → fields_hold fs 0 v ≡ true → k < length fs → get_or fs k (Range 0 0) ≡ Range lo 4 → slot v k ≤ 4
unfolding field_holds is_present holds
at_most_four fs lo k v e h d = (in_between {lo = lo} {hi = 4} {x = slot v k} (rw d at (hold_at fs v e k h))).1

-- one group's two fields, of the list whose count n stands in slot k, asked where its place is below the count
abbrev asks : ℕ → ℕ → ℕ → Group → Bool → Bool
asks k n place g next = (if ltb place n then holds (GroupDiameter k place) g.diameter else true) && ((if ltb place n then holds (GroupBars k place) g.bars else true) && next)

none_hold : (n : ℕ) → groups_hold (take n []) ≡ true
none_hold zero = refl
none_hold (suc n) = refl

-- a group that is asked
named : (k n place : ℕ) (g : Group) {next next' : Bool} → ltb place n ≡ true → next ≡ next' → asks k n place g next ≡ (group_holds g && next')
unfolding holds
named k n place g e f = rw (e, f) (sym (and_assoc (group_diameter g.diameter) (group_bars g.bars) _))

-- the fields of a list of groups hold where the groups that its count names do
groups_hold_lem : (k n : ℕ) (a b c d : Group) → asks k n 0 a (asks k n 1 b (asks k n 2 c (asks k n 3 d true))) ≡ groups_hold (take n (a ∷ b ∷ c ∷ d ∷ []))
groups_hold_lem k zero a b c d = refl
groups_hold_lem k (suc zero) a b c d = named k 1 0 a refl refl
groups_hold_lem k (suc (suc zero)) a b c d = named k 2 0 a refl (named k 2 1 b refl refl)
groups_hold_lem k (suc (suc (suc zero))) a b c d = named k 3 0 a refl (named k 3 1 b refl (named k 3 2 c refl refl))
groups_hold_lem k (suc (suc (suc (suc n)))) a b c d =
    let m = suc (suc (suc (suc n))) in
    named k m 0 a (lt-ltb 0 m (omega arith)) (named k m 1 b (lt-ltb 1 m (omega arith)) (named k m 2 c (lt-ltb 2 m (omega arith)) (named k m 3 d (lt-ltb 3 m (omega arith)) (sym (none_hold n)))))

-- the fields of the groups that a count n names in a list, copied out, hold where the list's do
list_holds : (k n : ℕ) (list : List Group) → n ≤ 4
    → asks k n 0 (get_or (take n list) 0 no_group) (asks k n 1 (get_or (take n list) 1 no_group) (asks k n 2 (get_or (take n list) 2 no_group) (asks k n 3 (get_or (take n list) 3 no_group) true))) ≡ named_hold n list
list_holds k n list h = groups_hold_lem k n (get_or (take n list) 0 no_group) (get_or (take n list) 1 no_group) (get_or (take n list) 2 no_group) (get_or (take n list) 3 no_group) ∙ named_hold_lem n list h

none_named : (list : List Group) → named_hold 0 list ≡ true
unfolding named_hold
none_named list = rw (le-leb 0 (length list) (omega arith))

-- ---- Question 7 of each kind.

module _ (v : List ℕ) (first second : List Group) where
  beam_slots_lem : List ℕ
  beam_slots_lem = filled (beam_slots v (take (slot v 8) first) (take (slot v 9) second))

  column_slots_lem : List ℕ
  column_slots_lem = filled (column_slots v (take (slot v 4) first))

  tension_most : fields_hold (take 9 beam_fields) 0 v ≡ true → slot v 8 ≤ 4
  tension_most p = at_most_four (take 9 beam_fields) 1 8 v p (ltb→lt 8 9 tt) refl

  compression_most : holds (Range 0 4) (slot v 9) ≡ true → slot v 9 ≤ 4
  unfolding holds
  compression_most q = (in_between {lo = 0} {hi = 4} q).1

  column_most : fields_hold (take 5 column_fields) 0 v ≡ true → slot v 4 ≤ 4
  column_most p = at_most_four (take 5 column_fields) 1 4 v p (ltb→lt 4 5 tt) refl

  -- what follows a beam's lists: the slots hold the fields as they were given
  loads_given : (pointLoad : Bool) → fields_hold (drop 26 (beam_fields_of pointLoad)) 26 beam_slots_lem ≡ fields_hold (drop 10 (ungrouped (beam_fields_of pointLoad))) 10 v
  unfolding field_holds is_present beam_slots_lem
  loads_given false = refl
  loads_given true = refl

  beam_holds : (pointLoad : Bool)
      → fields_hold (beam_fields_of pointLoad) 0 beam_slots_lem ≡ (fields_hold (ungrouped (beam_fields_of pointLoad)) 0 v && (named_hold (slot v 8) first && named_hold (slot v 9) second))
  unfolding field_holds is_present beam_slots_lem
  beam_holds pointLoad =
      let fs = beam_fields_of pointLoad in
      holds_append (take 9 fs) (drop 9 fs) 0 beam_slots_lem
      ∙ where_first (fields_hold (take 9 fs) 0 v)
      (λ p. holds_append (groups 8) (drop 17 fs) 9 beam_slots_lem ∙ ap₂ ◌&&◌ (list_holds 8 (slot v 8) first (tension_most p))
      (where_first (holds (Range 0 4) (slot v 9))
      (λ q. holds_append (groups 17) (drop 26 fs) 18 beam_slots_lem ∙ ap₂ ◌&&◌ (list_holds 17 (slot v 9) second (compression_most q)) (loads_given pointLoad))))
      ∙ groups_last (fields_hold (take 9 fs) 0 v) (named_hold (slot v 8) first) (holds (Range 0 4) (slot v 9)) (named_hold (slot v 9) second) (fields_hold (drop 10 (ungrouped fs)) 10 v)
      ∙ ap (λ (b : Bool). b && (named_hold (slot v 8) first && named_hold (slot v 9) second)) (sym (holds_append (take 9 fs) (drop 9 (ungrouped fs)) 0 v))

  column_holds : fields_hold column_fields 0 column_slots_lem ≡ (fields_hold (ungrouped column_fields) 0 v && (named_hold (slot v 4) first && named_hold 0 second))
  unfolding field_holds is_present column_slots_lem
  column_holds =
      holds_append (take 5 column_fields) (drop 5 column_fields) 0 column_slots_lem
      ∙ where_first (fields_hold (take 5 column_fields) 0 v)
      (λ p. holds_append (groups 4) (drop 13 column_fields) 5 column_slots_lem ∙ ap (λ (b : Bool). b && fields_hold (drop 13 column_fields) 5 v) (list_holds 4 (slot v 4) first (column_most p)))
      ∙ group_last (fields_hold (take 5 column_fields) 0 v) (named_hold (slot v 4) first) (fields_hold (drop 13 column_fields) 5 v)
      ∙ ap₂ (λ (b c : Bool). b && (named_hold (slot v 4) first && c)) (sym (holds_append (take 5 column_fields) (drop 5 (ungrouped column_fields)) 0 v)) (sym (none_named second))

  mesh_holds : fields_hold mesh_fields 0 (filled (mesh_slots v)) ≡ (fields_hold (ungrouped mesh_fields) 0 v && (named_hold 0 first && named_hold 0 second))
  unfolding field_holds is_present
  mesh_holds = sym (and_true (fields_hold mesh_fields 0 v)) ∙ ap₂ (λ (b c : Bool). fields_hold mesh_fields 0 v && (b && c)) (sym (none_named first)) (sym (none_named second))

  -- ---- The member of each kind, where question 7 holds.

  beam_is : (pointLoad : Bool) → (fields_hold (ungrouped (beam_fields_of pointLoad)) 0 v && (named_hold (slot v 8) first && named_hold (slot v 9) second)) ≡ true → beam_at pointLoad beam_slots_lem ≡ lent_beam pointLoad v first second
  unfolding beam_at lent_beam beam_slots_lem field_holds is_present
  beam_is pointLoad e =
      let fs = beam_fields_of pointLoad in
      let f = both_true (fields_hold (ungrouped fs) 0 v) _ e in
      let n = both_true (named_hold (slot v 8) first) _ f.1 in
      let p = both_true (fields_hold (take 9 fs) 0 v) _ (sym (holds_append (take 9 fs) (drop 9 (ungrouped fs)) 0 v) ∙ f.0) in
      let q = both_true (holds (Range 0 4) (slot v 9)) _ p.1 in
      rw (named_groups (slot v 8) first (tension_most p.0) n.0, named_groups (slot v 9) second (compression_most q.0) n.1)

  column_is : (fields_hold (ungrouped column_fields) 0 v && (named_hold (slot v 4) first && named_hold 0 second)) ≡ true → column_at column_slots_lem ≡ lent_column v first
  unfolding column_at lent_column column_slots_lem field_holds is_present
  column_is e =
      let f = both_true (fields_hold (ungrouped column_fields) 0 v) _ e in
      let p = both_true (fields_hold (take 5 column_fields) 0 v) _ (sym (holds_append (take 5 column_fields) (drop 5 (ungrouped column_fields)) 0 v) ∙ f.0) in
      rw (named_groups (slot v 4) first (column_most p.0) (both_true (named_hold (slot v 4) first) _ f.1).0)

  mesh_is : mesh_at (filled (mesh_slots v)) ≡ mesh_at v
  unfolding mesh_at
  mesh_is = refl

-- ---- A member of any kind.

-- a mark has no part in the questions of a whole member
mark_free : (mark : ℕ) (kind : MemberKind) (v : List ℕ) → verdict_of (member_at 0 kind v) ≡ verdict_of (member_at mark kind v)
unfolding member_at
mark_free mark (kinds.Beam pointLoad) v = refl
mark_free mark kinds.Column v = refl
mark_free mark kinds.Mesh v = refl

module _ (v : List ℕ) (first second : List Group) where
  -- the slots as the code fills them, with the groups that the counts name
  abbrev slots_of : MemberKind → List ℕ
  slots_of kind = lent_slots kind v (take (first_count kind v) first) (take (second_count kind v) second)

  fields_hold_lem : (kind : MemberKind) → fields_hold (fields_of kind) 0 (slots_of kind) ≡ lent_fields_hold kind v first second
  unfolding lent_slots lent_fields_hold fields_of beam_slots_lem column_slots_lem
  fields_hold_lem (kinds.Beam pointLoad) = beam_holds v first second pointLoad
  fields_hold_lem kinds.Column = column_holds v first second
  fields_hold_lem kinds.Mesh = mesh_holds v first second

  member_is : (mark : ℕ) (kind : MemberKind) → lent_fields_hold kind v first second ≡ true → member_at mark kind (slots_of kind) ≡ lent_of kind mark v first second
  unfolding lent_slots lent_fields_hold fields_of beam_slots_lem column_slots_lem member_at
  member_is mark (kinds.Beam pointLoad) e = ap (beam mark) (beam_is v first second pointLoad e)
  member_is mark kinds.Column e = ap (column mark) (column_is v first second e)
  member_is mark kinds.Mesh e = ap (mesh mark) (mesh_is v first second)

  -- 7, and the questions of a whole member
  verdict_is : (mark : ℕ) (kind : MemberKind)
      → fields_verdict kind (slots_of kind) ≡ ask_verdict Field (lent_fields_hold kind v first second) (verdict_of (lent_of kind mark v first second))
  unfolding fields_verdict member_verdict
  verdict_is mark kind = rw (fields_hold_lem kind) (of_fields (lent_fields_hold kind v first second) refl)
    where
      of_fields : (b : Bool) → lent_fields_hold kind v first second ≡ b
          → ask_verdict Field b (verdict_of (member_at 0 kind (slots_of kind))) ≡ ask_verdict Field b (verdict_of (lent_of kind mark v first second))
      of_fields true e = mark_free mark kind (slots_of kind) ∙ ap verdict_of (member_is mark kind e)
      of_fields false e = refl

-- copying the groups out once more changes nothing
pub slots_again : (kind : MemberKind) (v : List ℕ) (first second : List Group) → lent_slots kind v (first_four first) (first_four second) ≡ lent_slots kind v first second
unfolding lent_slots
slots_again (kinds.Beam pointLoad) v first second = refl
slots_again kinds.Column v first second = refl
slots_again kinds.Mesh v first second = refl

module _ (x : Lent) (first second : List Group) where
  abbrev v : List ℕ
  v = x.fields.v

  -- the member as the code builds it, of the groups that the counts name, and its slots
  abbrev pub copied : Built
  copied = built_of x (take (first_count (kind_of x.kind) v) first) (take (second_count (kind_of x.kind) v) second)

  abbrev pub slots : List ℕ
  slots = copied.fields.v

  -- the questions of the slots are those of the lent member
  pub lent_verdict_lem : built_verdict x.mark x.kind slots ≡ lent_verdict x first second
  unfolding built_verdict lent_verdict lent_member
  lent_verdict_lem = ap (λ (t : Verdict). ask_verdict Mark (mark_in_range x.mark) (ask_verdict Kind (known x.kind) t)) (verdict_is v first second x.mark (kind_of x.kind))

  -- an accepted member is the one in the slots
  pub lent_member_lem : built_verdict x.mark x.kind slots ≡ (Ok tt) → member_at x.mark (kind_of x.kind) slots ≡ lent_member x first second
  unfolding lent_member
  lent_member_lem a =
      member_is v first second x.mark (kind_of x.kind) (sym (fields_hold_lem v first second (kind_of x.kind)) ∙ (built_passed x.mark x.kind slots a).held)
