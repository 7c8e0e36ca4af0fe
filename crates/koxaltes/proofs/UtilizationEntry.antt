-- From the answers of crate `utilization` to those that a caller gets.
use Rattle.std.specs.Prelude.{Err, Ok, Option, Some, None}
use mathlib.Core.Path.{◌≡◌, refl, sym, ap, subst, ◌∙◌}
use mathlib.Core.Bool.{true, false≢true}
use mathlib.Core.List.{List}
use lib.ListN.{take}
use lib.Ieee.{Float, le}
use Rattle.bars.specs.declared.Group.{Group}
use Rattle.verdict.specs.declared.Built.{Built}
use Rattle.verdict.specs.Built.{member_of}
use Rattle.question.specs.Reading.{Verdict}
use Rattle.verdict.specs.Verdict.{built_verdict}
use Rattle.lent_groups.specs.CopiedGroups.{first_four}
use Rattle.field_table.specs.Fields.{kind_of}
use Rattle.lent_member.specs.declared.Lent.{Lent}
use Rattle.lent_member.specs.Lent.{lent_member, first_count, second_count}
use Rattle.lent_member.specs.LentSlots.{built_of}
use Rattle.lent_member.proofs.InSlots.{slots_again, copied, slots, lent_verdict_lem, lent_member_lem}
use Rattle.question.proofs.Numbers.{numbered}
use Rattle.governing.specs.Governing.{ratios_of, governing_of, Among, FiniteNonneg, Governs}
use Rattle.governing.proofs.Largest.{governs}
use Rattle.utilization.specs.Utilized.{UtilizationAnswer}
use Rattle.utilization.specs.Utilized.{Values, values_of, utilization_by, utilization_answer, Utilized}
use Rattle.answer_record.specs.declared.UtilizationRecord.{UtilizationRecord}
use Rattle.answer_record.specs.UtilizationRecord.{with_governing, utilization_record}
use Rattle.koxaltes.specs.UtilizationEntry.{lent_utilization_of, UtilizationEntry}

-- the governing one of a record
module _ (n : Values) where
  record_utilization : (utilization_record n).utilization ≡ n.utilization
  record_utilization = of_value (governing_of n.utilization)
    where
      of_value : (g : Option Float) → (with_governing n g).utilization ≡ n.utilization
      of_value (Some x) = refl
      of_value None = refl

  record_question : (utilization_record n).question ≡ n.question
  record_question = of_value (governing_of n.utilization)
    where
      of_value : (g : Option Float) → (with_governing n g).question ≡ n.question
      of_value (Some x) = refl
      of_value None = refl

  record_reached : (utilization_record n).governs ≡ true → Among (ratios_of n.utilization) (utilization_record n).governing
  record_reached = of_value (governing_of n.utilization) (governs n.utilization refl)
    where
      of_value : (g : Option Float) → Governs n.utilization g → (with_governing n g).governs ≡ true → Among (ratios_of n.utilization) (with_governing n g).governing
      of_value (Some x) h e = h.reached x refl
      of_value None h e = absurd (false≢true e)

  record_largest : FiniteNonneg (ratios_of n.utilization) → (x : Float) → Among (ratios_of n.utilization) x
      → ((utilization_record n).governs ≡ true) × (le x (utilization_record n).governing ≡ true)
  record_largest f x a = of_value (governing_of n.utilization) (governs n.utilization refl)
    where
      of_value : (g : Option Float) → Governs n.utilization g → ((with_governing n g).governs ≡ true) × (le x (with_governing n g).governing ≡ true)
      of_value (Some y) h = (refl, h.largest f x a)
      of_value None h = absurd (h.largest f x a)

pub member_utilized : {x y : Built} {a : UtilizationAnswer} {r : UtilizationRecord} → x ≡ y → Utilized x a → r ≡ utilization_record (values_of a) → UtilizationEntry (utilization_answer y) (member_of y) r
member_utilized {a = a} {r = r} i p e =
    subst (λ (b : Built). UtilizationEntry (utilization_answer b) (member_of b) r) i
    (record {
      answer_is = e ∙ ap utilization_record p.answer_is;
      nearest_is = λ z. rw (e, record_utilization (values_of a)) (p.nearest_is (asked z));
      decides = λ z. rw (e, record_utilization (values_of a)) (p.decides (asked z));
      reached = rw (e, record_utilization (values_of a)) (record_reached (values_of a));
      largest = λ z. rw (e, record_utilization (values_of a)) (record_largest (values_of a) (p.finite (asked z)));
    })
  where
    asked : r.question ≡ 0 → (values_of a).question ≡ 0
    asked z = sym (record_question (values_of a)) ∙ rw e at z

-- The built member made of the groups that the counts name is the lent one.
module _ (x : Lent) (first second : List Group) where
  lent_utilization : utilization_answer (copied x first second) ≡ lent_utilization_of x first second
  unfolding utilization_answer lent_utilization_of
  lent_utilization = rw (← lent_verdict_lem x first second) (of_verdict (built_verdict x.mark x.kind (slots x first second)) refl)
    where
      of_verdict : (w : Verdict) → built_verdict x.mark x.kind (slots x first second) ≡ w → utilization_by w (member_of (copied x first second)) ≡ utilization_by w (lent_member x first second)
      of_verdict (Ok tt) e = ap (utilization_by (Ok tt)) (lent_member_lem x first second e)
      of_verdict (Err q) e = refl

  accepted : {r : UtilizationRecord} → r ≡ utilization_record (utilization_answer (copied x first second)) → r.question ≡ 0 → member_of (copied x first second) ≡ lent_member x first second
  unfolding utilization_answer
  accepted e z = lent_member_lem x first second (of_verdict (built_verdict x.mark x.kind (slots x first second)) (rw e at z))
    where
      of_verdict : (w : Verdict) → (utilization_record (utilization_by w (member_of (copied x first second)))).question ≡ 0 → w ≡ (Ok tt)
      of_verdict (Ok tt) h = refl
      of_verdict (Err q) h = absurd (numbered q h)

  lent_copied : {r : UtilizationRecord} → UtilizationEntry (utilization_answer (copied x first second)) (member_of (copied x first second)) r → UtilizationEntry (lent_utilization_of x first second) (lent_member x first second) r
  lent_copied {r = r} p =
      record {
        answer_is = rw (← lent_utilization) p.answer_is;
        nearest_is = λ z. rw (← accepted {r = r} p.answer_is z) (p.nearest_is z);
        decides = λ z. rw (← accepted {r = r} p.answer_is z) (p.decides z);
        reached = p.reached;
        largest = p.largest;
      }

  pub lent_utilized : {gs hs : List Group} {r : UtilizationRecord}
      → gs ≡ first_four (take (first_count (kind_of x.kind) x.fields.v) first) → hs ≡ first_four (take (second_count (kind_of x.kind) x.fields.v) second)
      → UtilizationEntry (utilization_answer (built_of x gs hs)) (member_of (built_of x gs hs)) r → UtilizationEntry (lent_utilization_of x first second) (lent_member x first second) r
  lent_utilized i j p = lent_copied (rw (i, j, slots_again (kind_of x.kind) x.fields.v (take (first_count (kind_of x.kind) x.fields.v) first) (take (second_count (kind_of x.kind) x.fields.v) second)) at p)
