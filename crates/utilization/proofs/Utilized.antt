-- The utilizations of an accepted member are the nearest doubles, and each decides its check.
use Rattle.std.specs.Prelude.{Err, Ok}
use Prim.Native.Nat.{ℕ, ◌*◌, ◌^◌, ◌≤◌, ◌<◌}
use mathlib.Core.Path.{◌≡◌}
use native.Mathlib.Nat.{mul-le-mul_left, mul-le-mul_right}
use native.Mathlib.Omega.{arith}
use lib.Dec.{leb, eqb}
use Rattle.quantity.specs.Rounding.{down}
use Rattle.quantity.proofs.Choice.{choice_most}
use Rattle.quantity.proofs.Reflects.{same_le}
use Rattle.quantity.proofs.Rounding.{le_down, down_le, down_below}
use Rattle.question.specs.declared.Question.{Question}
use Rattle.question.proofs.Numbers.{numbered}
use Rattle.outcome.specs.declared.Outcome.{Outcome}
use Rattle.member.specs.Member.{Member, beam, column, mesh, Beam, Column, Mesh}
use Rattle.member.specs.Accepted.{AcceptedMember, AcceptedBeam, AcceptedColumn, AcceptedMesh}
use Rattle.section.specs.declared.Section.{Section}
use Rattle.section.specs.Section.{section_of, l₀}
use Rattle.cracking.specs.Steps.{width_limit}
use Rattle.deflection.specs.Steps.{deflection, deflection_holds}
use Rattle.deflection.proofs.Bounds.{divisor_between}
use Rattle.verdict.specs.declared.Built.{Built}
use Rattle.field_layout.specs.declared.valid.ValidMember.{ValidMember}
use Rattle.field_layout.specs.Valid.{valid_member}
use Rattle.verdict.specs.Built.{member_of}
use Rattle.verdict.specs.Verdict.{built_verdict}
use Rattle.checks.specs.MemberOutcome.{outcome_of}
use Rattle.beam.proofs.Safe.{beam_safe}
use Rattle.column.proofs.Safe.{column_given}
use Rattle.checks.proofs.Figures.{member_short}
use Rattle.ratio.specs.declared.Utilization.{Utilization}
use Rattle.ratio.specs.Ratio.{quotient, nearest, ExactFigures}
use Rattle.utilization.specs.Utilization.{deflection_limit, beam_utilization, column_utilization, mesh_utilization, utilization_of}
use Rattle.governing.specs.Governing.{ratios_of, FiniteNonneg}
use Rattle.utilization.specs.Utilized.{utilization_answer, DecidesMember, Utilized}
use Rattle.utilization.proofs.Figures.{exact_figures, beam_figures, axial_figure, mesh_figures}
use Rattle.ratio.proofs.Nearest.{figure_nearest, limit_nearest, figure_decides, limit_decides, figure_where_reached, no_ratio_nonneg, figure_nonneg, limit_nonneg}

-- ---- Limits.

pub width_limit_small : (environment : ℕ) → width_limit environment < 2 ^ 53
unfolding width_limit
width_limit_small environment = omega (arith, choice_most (eqb environment 1) 300 200)

pub deflection_limit_small : (span strict : ℕ) → span ≤ 12000 → deflection_limit span strict < 2 ^ 53
unfolding deflection_limit
deflection_limit_small span strict most =
    let d = (divisor_between span strict).0 in
    let k : deflection_limit span strict ≤ 100 * span = down_le d (omega (arith, mul-le-mul_left (100 * span) d)) in
    omega (arith, most)

-- a whole number against a fraction rounded down: as against the fraction
down_leb : (k n : ℕ) {d : ℕ} → 0 < d → leb k (down n d) ≡ leb (k * d) n
down_leb k n {d} p = same_le k (down n d) (k * d) n (λ h. omega (arith, mul-le-mul_right d h, down_below n d)) (λ h. le_down p h)

deflection_by_limit : (x : Section) → leb (deflection x) (deflection_limit (l₀ x) x.strict) ≡ deflection_holds x
unfolding deflection_limit deflection_holds
deflection_by_limit x = down_leb (deflection x) (100 * l₀ x) (divisor_between (l₀ x) x.strict).0

-- ---- The four of a member.

beam_nearest : (x : Beam) (o : Outcome) → AcceptedBeam x → ExactFigures o → beam_utilization quotient x o ≡ beam_utilization nearest x o
unfolding beam_utilization
beam_nearest x o a e =
    rw (
      figure_nearest x.M o.first (omega (arith, a.M_most)) e.first,
      figure_nearest x.Vd o.second (omega (arith, a.Vd_most)) e.second,
      limit_nearest _ _ e.third (width_limit_small x.environment),
      limit_nearest _ _ e.fourth (deflection_limit_small _ x.strict a.l₀_most),
    )

column_nearest : (x : Column) (o : Outcome) → AcceptedColumn x → ExactFigures o → column_utilization quotient x o ≡ column_utilization nearest x o
unfolding column_utilization
column_nearest x o a e = rw (figure_nearest x.N o.first (omega (arith, a.N_most)) e.first)

mesh_nearest : (x : Mesh) (o : Outcome) → AcceptedMesh x → ExactFigures o → mesh_utilization quotient x o ≡ mesh_utilization nearest x o
unfolding mesh_utilization
mesh_nearest x o a e =
    rw (limit_nearest o.first x.anchorage e.first (omega (arith, a.anchorage)), limit_nearest o.second x.lap e.second (omega (arith, a.lap)))

member_exact : (m : Member) → AcceptedMember m → ExactFigures (outcome_of m)
member_exact m a = exact_figures (outcome_of m) (member_short m a)

member_nearest : (m : Member) → AcceptedMember m → utilization_of quotient m (outcome_of m) ≡ utilization_of nearest m (outcome_of m)
member_nearest (beam mark x) a = beam_nearest x _ a.1 (member_exact (beam mark x) a)
member_nearest (column mark x) a = column_nearest x _ a.1 (member_exact (column mark x) a)
member_nearest (mesh mark x) a = mesh_nearest x _ a.1 (member_exact (mesh mark x) a)

member_decides : (m : Member) → AcceptedMember m → DecidesMember m (utilization_of nearest m (outcome_of m))
unfolding beam_utilization column_utilization mesh_utilization section_of
member_decides (beam mark x) a =
    let e = member_exact (beam mark x) a in
    let f = beam_figures x a.1 in
    record {
      moment = figure_decides _ _ _ e.first f.moment;
      shear = figure_decides _ _ _ e.second f.shear;
      web = figure_where_reached _ _ _ (beam_safe x a.1).web;
      width = limit_decides _ _ _ f.width (width_limit_small x.environment);
      deflection = rw (← deflection_by_limit (section_of x)) (limit_decides _ _ _ f.deflection_is (deflection_limit_small _ x.strict a.1.l₀_most));
    }
member_decides (column mark x) a =
    record { axial = figure_decides _ _ _ (member_exact (column mark x) a).first (axial_figure x _ _ (column_given x a.1)) }
member_decides (mesh mark x) a =
    let f = mesh_figures x in
    record {
      anchorage = limit_decides _ _ _ f.anchorage (omega (arith, a.1.anchorage));
      lap = limit_decides _ _ _ f.lap (omega (arith, a.1.lap));
    }

-- ---- Those of an accepted member are finite and not negative.

nearest_member_nonneg : (m : Member) → AcceptedMember m → FiniteNonneg (ratios_of (utilization_of nearest m (outcome_of m)))
unfolding beam_utilization column_utilization mesh_utilization
nearest_member_nonneg (beam mark x) a =
    let e = member_exact (beam mark x) a in (
      figure_nonneg x.M _ (omega (arith, a.1.M_most)),
      (figure_nonneg x.Vd _ (omega (arith, a.1.Vd_most)), (limit_nonneg _ _ e.third, (limit_nonneg _ _ e.fourth, tt))),
    )
nearest_member_nonneg (column mark x) a =
    (figure_nonneg x.N _ (omega (arith, a.1.N_most)), (no_ratio_nonneg, (no_ratio_nonneg, (no_ratio_nonneg, tt))))
nearest_member_nonneg (mesh mark x) a =
    let e = member_exact (mesh mark x) a in
    (limit_nonneg _ x.anchorage e.first, (limit_nonneg _ x.lap e.second, (no_ratio_nonneg, (no_ratio_nonneg, tt))))

member_nonneg : (m : Member) → AcceptedMember m → FiniteNonneg (ratios_of (utilization_of quotient m (outcome_of m)))
member_nonneg m a = rw (member_nearest m a) (nearest_member_nonneg m a)

-- ---- The answer.

pub valid_exact : (m : ValidMember) {o : Outcome} → o ≡ outcome_of (valid_member m) → ExactFigures o
valid_exact m e = rw e (member_exact (valid_member m) m.accepted)

module _ (x : Built) where
  pub given : (m : ValidMember) {o : Outcome} {u : Utilization} → built_verdict x.mark x.kind x.fields.v ≡ (Ok tt) → valid_member m ≡ member_of x
      → o ≡ outcome_of (valid_member m) → u ≡ utilization_of quotient (valid_member m) o → Utilized x (Ok u)
  unfolding utilization_answer
  given m {o} {u} p same e f =
      let a = rw same at m.accepted in
      let g : u ≡ utilization_of quotient (member_of x) (outcome_of (member_of x)) = rw (f, e, same) in
      record {
        answer_is = rw (p, g);
        nearest_is = λ z. rw g (member_nearest (member_of x) a);
        finite = λ z. rw g (member_nonneg (member_of x) a);
        decides = λ z. rw (g, member_nearest (member_of x) a) (member_decides (member_of x) a);
      }

  pub refused : (q : Question) → built_verdict x.mark x.kind x.fields.v ≡ Err q → Utilized x (Err (record { question = q; member = 1 }))
  unfolding utilization_answer
  refused q p =
      record {
        answer_is = rw p;
        nearest_is = λ z. absurd (numbered q z);
        finite = λ z. absurd (numbered q z);
        decides = λ z. absurd (numbered q z);
      }
