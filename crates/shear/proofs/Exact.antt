-- The printed shear capacity is on the safe side of the clause's exact one, less than 2 N below it.
use Prim.Native.Nat.{ℕ, ◌+◌, ◌*◌, ◌<◌, min, max}
use mathlib.Core.Path.{◌≡◌}
use native.Mathlib.Omega.{arith}
use Rattle.quantity.specs.declared.Stress.{Stress}
use Rattle.quantity.specs.Rounding.{clamp}
use Rattle.quantity.specs.Fraction.{Frac, ◌//◌, whole, ◌⊕◌, ◌⊗◌, ◌⊘◌, smaller, larger, clamp_frac}
use Rattle.quantity.specs.Safe.{NotAbove}
use Rattle.quantity.specs.Unit.{in_units, exact_stress}
use Rattle.quantity.proofs.Fraction.{Same, same_refl, same_sym, same_trans, same_sum, same_product, same_quotient}
use Rattle.quantity.proofs.Unit.{exact_units}
use Rattle.quantity.proofs.Rounding.{expand}
use Rattle.quantity.proofs.Safe.{down_not_above, sum_not_above, same_not_above}
use Rattle.member.specs.declared.Load.{Load}
use Rattle.member.specs.declared.Load.TheVariants.{Uniform, Point}
use Rattle.section.specs.declared.Section.{Section}
use Rattle.section.specs.Section.{b, h₀, s, L}
use Rattle.section.specs.Bounded.{Bounded}
use Rattle.shear.specs.Steps.{concrete_part, concrete_under, concrete_shear, link_shear, shear_capacity}
use Rattle.shear.specs.Exact.{exact_concrete, exact_links, exact_shear}
use Rattle.shear.proofs.Bounds.{ratio_clamped}

concrete_same : (f : Stress) (b h : ℕ) → Same (7 // 10 ⊗ exact_stress f ⊗ whole b ⊗ whole h) ((7 * f.0 * b * h) // 1000)
unfolding exact_stress ◌⊗◌
concrete_same f b h = record { pos = omega arith; pos' = omega arith; same = omega arith }

-- ---- Under a point load.

module _ (a h : ℕ) (p : 0 < h) where
  abbrev ratio : Frac
  ratio = clamp_frac (3 // 2) (whole 3) (a // h)

  abbrev held : ℕ
  held = clamp (3 * h) (6 * h) (2 * a)

  ratio_same : Same ratio (held // (2 * h))
  unfolding clamp_frac smaller larger clamp
  ratio_same =
      let e : min (3 * (2 * h)) (1 * max (3 * h) (2 * a)) ≡ min (6 * h) (max (3 * h) (2 * a)) = omega arith in
      let f : 1 * (2 * h) ≡ 2 * h = omega arith in
      record { pos = omega arith; pos' = omega arith; same = rw (e, f) }

  -- one more than the ratio is above 0
  one_more : (x : Frac) → 0 < x.den → 0 < (x ⊕ whole 1).num
  unfolding ◌⊕◌
  one_more x q = omega arith

  module _ (f : Stress) (b : ℕ) where
    abbrev strip : Frac
    strip = 175 // 100 ⊗ exact_stress f ⊗ whole b ⊗ whole h

    part_same : (n : ℕ) → Same (strip ⊘ (n // (2 * h) ⊕ whole 1)) ((175 * f.0 * b * h * (2 * h)) // (10000 * (n + 2 * h)))
    unfolding exact_stress ◌⊗◌ ◌⊘◌ ◌⊕◌
    part_same n = record { pos = omega arith; pos' = omega arith; same = simp expand (omega arith) }

    point_same : Same (strip ⊘ (ratio ⊕ whole 1)) ((175 * f.0 * b * h * (2 * h)) // (10000 * (held + 2 * h)))
    unfolding exact_stress ◌⊗◌
    point_same =
        same_trans
        (same_quotient (same_refl strip (omega arith)) (same_sum ratio_same (same_refl (whole 1) (omega arith)))
        (one_more ratio ratio_same.pos, one_more (held // (2 * h)) (omega arith)))
        (part_same held)

-- ---- The parts and their sum.

links_same : (u l h s : ℕ) → 0 < s → Same (whole u ⊗ (l // 10) ⊗ whole h ⊘ whole s) ((u * l * h) // (10 * s))
unfolding ◌⊗◌ ◌⊘◌
links_same u l h s p = record { pos = omega arith; pos' = omega arith; same = simp expand (omega arith) }

module _ {x : Section} (p : Bounded x) where
  -- rounded once: less than 1 N below
  pub concrete_safe : (load : Load) → NotAbove (concrete_under load x) (whole 1) (exact_concrete load x)
  unfolding exact_concrete
  concrete_safe Uniform = same_not_above (omega arith) (same_sym (concrete_same x.concrete.ft (b x) (h₀ x))) (down_not_above (concrete_part x) 1000 (omega arith))
  concrete_safe (Point a) =
      same_not_above (omega arith) (same_sym (point_same a.0 (h₀ x) p.h₀_least x.concrete.ft (b x)))
      (down_not_above _ _ (omega (arith, ratio_clamped x a, p.h₀_least)))

  links_safe : NotAbove (link_shear x) (whole 1) (exact_links x)
  unfolding link_shear exact_links
  links_safe =
      same_not_above (omega arith)
      (same_sym (same_trans
      (same_quotient
      (same_product
      (same_product (exact_units x.fyv p.fyv.exact) (same_refl (L x // 10) (omega arith)))
      (same_refl (whole (h₀ x)) (omega arith)))
      (same_refl (whole (s x)) (omega arith)) (omega arith))
      (links_same (in_units x.fyv) (L x) (h₀ x) (s x) (omega arith))))
      (down_not_above _ (10 * s x) (omega arith))

pub shear_safe : {x : Section} → Bounded x → NotAbove (shear_capacity x) (whole 2) (exact_shear x)
unfolding shear_capacity concrete_shear exact_shear
shear_safe {x} p = sum_not_above (concrete_safe p x.load) (links_safe p)
