-- The whole promise of `koxaltes_member_utilization`: what `utilization_of` promises (crate `utilization`), said of the struct that the caller gets.
use Rattle.std.specs.Prelude.{◌≡◌, true, List, Float}
use Rattle.std.specs.Float.Ieee.{le}
use Rattle.bars.specs.declared.Group.{Group}
use Rattle.member.specs.Member.{Member}
use Rattle.checks.specs.MemberOutcome.{outcome_of}
use Rattle.lent_member.specs.declared.Lent.{Lent}
use Rattle.lent_member.specs.Lent.{lent_verdict, lent_member}
use Rattle.ratio.specs.Ratio.{nearest}
use Rattle.governing.specs.Governing.{ratios_of, Among}
use Rattle.utilization.specs.Utilization.{utilization_of}
use Rattle.utilization.specs.Utilized.{Values, utilization_by, DecidesMember}
use Rattle.answer_record.specs.declared.UtilizationRecord.{UtilizationRecord}
use Rattle.answer_record.specs.UtilizationRecord.{utilization_record}

unfoldable pub lent_utilization_of : Lent → List Group → List Group → Values
lent_utilization_of x first second = utilization_by (lent_verdict x first second) (lent_member x first second)

-- Of a member m: the answer; that each utilization is the double nearest to its fraction, and decides its check; that the governing one was reached, and is the largest.
pub record UtilizationEntry (answer : Values) (m : Member) (r : UtilizationRecord) : Type 0 where
  pub answer_is : r ≡ utilization_record answer
  pub nearest_is : r.question ≡ 0 → r.utilization ≡ utilization_of nearest m (outcome_of m)
  pub decides : r.question ≡ 0 → DecidesMember m r.utilization
  pub reached : r.governs ≡ true → Among (ratios_of r.utilization) r.governing
  pub largest : r.question ≡ 0 → (x : Float) → Among (ratios_of r.utilization) x → (r.governs ≡ true) × (le x r.governing ≡ true)
