-- A beam of kind 4 whose load stands at most 1.5·h0 from the support has the line of the beam of kind 1 with the same fields.
use Prim.Native.Nat.{ℕ, ◌*◌, ◌≤◌}
use mathlib.Core.Path.{◌≡◌, refl, ap, ◌∙◌}
use mathlib.Core.Bool.{true, false}
use mathlib.Core.List.{List}
use native.Mathlib.Omega.{arith}
use Rattle.quantity.specs.Unit.{millimetres}
use Rattle.member.specs.declared.Load.TheVariants.{Uniform, Point}
use Rattle.member.specs.Member.{Beam, h₀}
use Rattle.field_table.specs.declared.MemberKind.TheVariants as kinds
use Rattle.field_table.specs.Fields.{shear_span}
use Rattle.field_layout.specs.Layout.{slot, beam_at, member_at}
use Rattle.section.specs.declared.Section.{Section}
use Rattle.section.specs.Section.{section_of}
use Rattle.bending.specs.Steps.{least_steel, compression_depth, compression_yields, yielded_capacity, couple_capacity, bending_capacity}
use Rattle.web_crushing.specs.Steps.{web_holds}
use Rattle.shear.specs.Steps.{concrete_shear, link_shear, shear_capacity, shear_above, link_spacing, least_links}
use Rattle.shear.specs.declared.ShearResult.{ShearResult}
use Rattle.shear.specs.declared.ShearResult.TheVariants.{AboveWebLimit, AboveCapacity, WithinBoth}
use Rattle.shear.specs.ShearCheck.{shear_result}
use Rattle.shear.proofs.NearSupport.{near_support_same}
use Rattle.cracking.specs.Steps.{stress_holds, σ, q, crack_width}
use Rattle.deflection.specs.Steps.{deflection, deflection_holds}
use Rattle.serviceability.specs.Checks.{from_deflection, from_width, from_stress}
use Rattle.outcome.specs.declared.Outcome.{Outcome}
use Rattle.line.specs.Line.{line_words, line_text}
use Rattle.report_text.specs.ReportText.{member_text}
use Rattle.beam.specs.Checks.{from_least_links, from_spacing, after_shear, from_shear, from_bending, from_depth, section_outcome, beam_outcome}

module _ (v : List ℕ) where
  abbrev uniform : Section
  uniform = section_of (beam_at false v)

  abbrev point : Section
  point = section_of (beam_at true v)

  -- after the shear check the load has no effect
  same_after : (m : ℕ) (r : ShearResult) → after_shear point m r ≡ after_shear uniform m r
  unfolding from_spacing from_least_links from_stress from_width from_deflection section_of beam_at shear_above link_spacing least_links stress_holds σ q crack_width deflection deflection_holds
  same_after m AboveWebLimit = refl
  same_after m (AboveCapacity shear) = refl
  same_after m (WithinBoth shear) = refl

  module _ (p : 1 ≤ h₀ (beam_at false v)) (h : 2 * slot v shear_span ≤ 3 * h₀ (beam_at false v)) where
    same_check : shear_result point ≡ shear_result uniform
    unfolding shear_result web_holds concrete_shear link_shear shear_capacity section_of beam_at
    same_check = rw (near_support_same uniform (millimetres (slot v shear_span)) p h)

    same_shear : (m : ℕ) → from_shear point m ≡ from_shear uniform m
    unfolding from_shear
    same_shear m = same_after m (shear_result point) ∙ ap (after_shear uniform m) same_check

    same_outcome : beam_outcome (beam_at true v) ≡ beam_outcome (beam_at false v)
    unfolding beam_outcome section_outcome from_depth from_bending section_of beam_at least_steel compression_depth compression_yields yielded_capacity couple_capacity bending_capacity
    same_outcome = rw (same_shear (bending_capacity point))

pub near_support : (mark : ℕ) (v : List ℕ) → 1 ≤ h₀ (beam_at false v) → 2 * slot v shear_span ≤ 3 * h₀ (beam_at false v)
    → member_text (member_at mark (kinds.Beam true) v) ≡ member_text (member_at mark (kinds.Beam false) v)
unfolding member_at
near_support mark v p h = ap (λ (o : Outcome). line_text (line_words mark o)) (same_outcome v p h)

-- they are different members all the same
pub other_member : (mark : ℕ) (v : List ℕ) → member_at mark (kinds.Beam true) v ≡ member_at mark (kinds.Beam false) v → ⊥
unfolding member_at beam_at
other_member mark v e =
    let x : beam_at true v ≡ beam_at false v = cc in
    let l : Point (millimetres (slot v shear_span)) ≡ Uniform = ap (λ (x : Beam). x.load) x in
    let z : ◌≡◌ {A = ℕ} 0 1 = cc in
    omega arith
