-- The utilization of a built member, and the whole promise of `utilization_of`.
use Rattle.std.specs.Prelude.{ℕ, ◌≡◌, true, leb, Err, Ok, Result}
use Rattle.question.specs.declared.Refusal.{Refusal}
use Rattle.question.specs.Question.{number_of}
use Rattle.material.specs.Concrete.{concrete_of}
use Rattle.material.specs.Steel.{steel_of}
use Rattle.member.specs.Member.{Member, beam, column, mesh, Column, Mesh}
use Rattle.section.specs.declared.Section.{Section}
use Rattle.section.specs.Section.{section_of, M, Vd}
use Rattle.bending.specs.Steps.{bending_capacity}
use Rattle.web_crushing.specs.Exact.{WebHolds}
use Rattle.shear.specs.Steps.{shear_capacity}
use Rattle.cracking.specs.Steps.{crack_width, width_limit}
use Rattle.deflection.specs.Steps.{deflection_holds}
use Rattle.axial.specs.Steps.{axial_capacity}
use Rattle.anchorage.specs.Steps.{anchorage_length}
use Rattle.lap.specs.Steps.{lap_length}
use Rattle.verdict.specs.declared.Built.{Built}
use Rattle.question.specs.Reading.{Verdict}
use Rattle.verdict.specs.Built.{member_of}
use Rattle.verdict.specs.Verdict.{built_verdict}
use Rattle.checks.specs.MemberOutcome.{outcome_of}
use Rattle.ratio.specs.declared.Utilization.{Utilization}
use Rattle.governing.specs.Governing.{ratios_of, FiniteNonneg}
use Rattle.ratio.specs.Ratio.{quotient, nearest, no_ratio, four_ratios, Decides}
use Rattle.utilization.specs.Utilization.{utilization_of}

-- What an answer says: the number of the question answered no and its member, 0 and 0 where none was; and the four utilizations, none of them reached in a refusal.
pub record Values : Type 0 where
  pub question : ℕ
  pub member : ℕ
  pub utilization : Utilization

abbrev pub values_given : Utilization → Values
values_given u = record { question = 0; member = 0; utilization = u }

abbrev pub values_refused : Refusal → Values
values_refused r = record { question = number_of r.question; member = r.member; utilization = four_ratios no_ratio no_ratio no_ratio no_ratio }

-- the utilization, or the first question answered no
abbrev pub UtilizationAnswer : Type 0
UtilizationAnswer = Result Utilization Refusal

abbrev pub values_of : UtilizationAnswer → Values
values_of (Ok u) = values_given u
values_of (Err r) = values_refused r

-- the questions of a single built member; every refusal names member 1
abbrev pub utilization_by : Verdict → Member → Values
utilization_by (Ok tt) m = values_given (utilization_of quotient m (outcome_of m))
utilization_by (Err q) m = values_refused (record { question = q; member = 1 })

unfoldable pub utilization_answer : Built → Values
utilization_answer x = utilization_by (built_verdict x.mark x.kind x.fields.v) (member_of x)

-- each utilization decides its check; that of the shear stands only where 6.3.1v holds
pub record DecidesBeam (x : Section) (u : Utilization) : Type 0 where
  pub moment : Decides u.firstReached u.first (leb (M x) (bending_capacity x))
  pub shear : Decides u.secondReached u.second (leb (Vd x) (shear_capacity x))
  pub web : u.secondReached ≡ true → WebHolds x
  pub width : Decides u.thirdReached u.third (leb (crack_width x) (width_limit x.environment))
  pub deflection : Decides u.fourthReached u.fourth (deflection_holds x)

pub record DecidesColumn (x : Column) (u : Utilization) : Type 0 where
  pub axial : Decides u.firstReached u.first (leb x.N (axial_capacity x (concrete_of x.concrete) (steel_of x.steel)))

pub record DecidesMesh (x : Mesh) (u : Utilization) : Type 0 where
  pub anchorage : Decides u.firstReached u.first (leb (anchorage_length x) x.anchorage)
  pub lap : Decides u.secondReached u.second (leb (lap_length x) x.lap)

abbrev pub DecidesMember : Member → Utilization → Type 0
DecidesMember (beam mark x) u = DecidesBeam (section_of x) u
DecidesMember (column mark x) u = DecidesColumn x u
DecidesMember (mesh mark x) u = DecidesMesh x u

-- What `utilization_of` promises: the answer; that each utilization is the double nearest to its fraction, finite and not negative; and that it decides its check.
pub record Utilized (x : Built) (answer : UtilizationAnswer) : Type 0 where
  pub answer_is : values_of answer ≡ utilization_answer x
  pub nearest_is : (values_of answer).question ≡ 0 → (values_of answer).utilization ≡ utilization_of nearest (member_of x) (outcome_of (member_of x))
  pub finite : (values_of answer).question ≡ 0 → FiniteNonneg (ratios_of (values_of answer).utilization)
  pub decides : (values_of answer).question ≡ 0 → DecidesMember (member_of x) (values_of answer).utilization
