-- The clause's own formula is the steps without rounding, in other units: the deflection in 0.01 mm.
use Prim.Native.Nat.{ℕ, ◌*◌, ◌^◌, ◌<◌, min}
use mathlib.Core.Path.{◌≡◌}
use mathlib.Core.Bool.{Bool, true, false}
use native.Mathlib.Nat.{mul-pos, mul_assoc}
use native.Mathlib.Omega.{arith}
use Rattle.std.specs.Prelude.{if◌then◌else◌}
use Rattle.quantity.specs.Fraction.{Frac, ◌//◌, whole, Proper, ◌⊕◌, ◌⊖◌, ◌⊗◌, ◌⊘◌}
use Rattle.quantity.specs.Unit.{exact_stress}
use Rattle.quantity.proofs.Rounding.{expand}
use Rattle.quantity.proofs.Fraction.{level, Same, same_trans, same_sum, same_product}
use Rattle.quantity.proofs.Near.{times, over, same_times, same_over}
use Rattle.section.specs.declared.Section.{Section}
use Rattle.section.specs.Section.{b, h₀, l₀, W, S, S', Mq, ftk, Ec}
use Rattle.cracking.specs.Exact.{As, f, ψ}
use Rattle.cracking.proofs.Rounded.{stress*, stiffening*, mean*}
use Rattle.cracking.proofs.Clause.{f_same, f_proper, ψ_same, ψ_proper}
use Rattle.deflection.specs.Exact.{Bs, θ, exact_deflection}
use Rattle.deflection.proofs.Rounded.{flexibility*, curvature*, short*, creep*, long*, deflection*}

-- 6·Es·As/(Ec·b·h0)
abbrev ζ : Section → Frac
ζ x = (whole 1200000 ⊗ As x) ⊘ (exact_stress x.concrete.ec ⊗ whole (b x * h₀ x))

-- 1.15·ψ + 0.2 + ζ
abbrev softening : Frac → Frac → Frac
softening ψ ζ = 115 // 100 ⊗ ψ ⊕ 2 // 10 ⊕ ζ

ζ_core : (A n e b h : ℕ) → n ≡ 100 * e → 0 < e → 0 < b * h →
    Same (times (10 ^ 6) (2 // 10 ⊕ ((whole 1200000 ⊗ (A // 10)) ⊘ ((n // 100) ⊗ whole (b * h)))))
    (whole 200000 ⊕ ((12 * 10 ^ 10 * A) // (e * b * h)))
unfolding times ◌⊕◌ ◌⊘◌ ◌⊗◌
ζ_core A n e b h q u v =
    rw q (record {
      pos = mul-pos (omega arith) (mul-pos (omega arith) (mul-pos (omega arith) v));
      pos' = mul-pos (omega arith) (simp mul_assoc (mul-pos u v));
      same = simp expand (omega arith);
    })

flexibility_same : (x : Section) → 0 < b x * h₀ x → 0 < Ec x → x.concrete.ec.0 ≡ 100 * Ec x →
    Same (times (10 ^ 6) (2 // 10 ⊕ ζ x)) (flexibility* (S x) (Ec x) (b x) (h₀ x))
unfolding flexibility* As exact_stress
flexibility_same x u v e = ζ_core (S x) x.concrete.ec.0 (Ec x) (b x) (h₀ x) e v u

curvature_same : (ψ ζ f : Frac) → Proper ψ → Proper ζ → Proper f →
    Same (times 10000 (softening ψ ζ ⊗ f)) (curvature* (ψ ⊗ times 10000 f) (times (10 ^ 6) (2 // 10 ⊕ ζ)) (times 10000 f))
unfolding curvature* ◌⊗◌ times over ◌⊕◌
curvature_same ψ ζ f u v w =
    let e : 0 < ψ.den * ζ.den * f.den = mul-pos (mul-pos u v) w in
    let g : 0 < ψ.den * ζ.den * f.den * f.den = mul-pos e w in
    record { pos = simp expand (omega (arith, simp expand at e)); pos' = simp expand (omega (arith, simp expand at g)); same = simp expand (omega arith) }

θ_same : (x : Section) → 0 < S x → Same (times (10 ^ 6) (θ x)) (long* (S x) (S' x) x.flanged)
unfolding θ long* creep* times ◌⊖◌ ◌⊗◌ over
θ_same x p = core (min (S x) (S' x)) (S x) x.flanged p
  where
    core : (m s : ℕ) (t : Bool) → 0 < s →
        Same (times (10 ^ 6) (if t then 12 // 10 ⊗ (whole 2 ⊖ 4 // 10 ⊗ (m // s)) else whole 2 ⊖ 4 // 10 ⊗ (m // s)))
        (if t then over (times 6 (whole (2 * 10 ^ 6) ⊖ ((400000 * m) // s))) 5 else whole (2 * 10 ^ 6) ⊖ ((400000 * m) // s))
    core m s true p = record { pos = omega arith; pos' = omega arith; same = simp level (omega arith) }
    core m s false p = record { pos = omega arith; pos' = omega arith; same = simp level (omega arith) }

fall_same : (Mq h₀ S l₀ : ℕ) (R θ : Frac) → 0 < h₀ → 0 < S → Proper R → Proper θ →
    Same (whole 100 ⊗ ((whole (5 * (1000 * Mq)) ⊗ θ ⊗ whole (l₀ * l₀)) ⊘ (whole 48 ⊗ ((whole 200000 ⊗ (S // 10) ⊗ whole (h₀ * h₀)) ⊘ R))))
    (deflection* (short* l₀ h₀ (times 10000 (R ⊗ (whole (1000 * Mq) ⊘ (87 // 100 ⊗ whole h₀ ⊗ (S // 10)))))) (times (10 ^ 6) θ))
unfolding deflection* short* ◌⊗◌ times over ◌⊘◌
fall_same Mq h₀ S l₀ R θ p q u v = core R.num R.den θ.num θ.den u v
  where
    core : (a b c d : ℕ) → 0 < b → 0 < d →
        Same (whole 100 ⊗ ((whole (5 * (1000 * Mq)) ⊗ (c // d) ⊗ whole (l₀ * l₀)) ⊘ (whole 48 ⊗ ((whole 200000 ⊗ (S // 10) ⊗ whole (h₀ * h₀)) ⊘ (a // b)))))
        (deflection* (short* l₀ h₀ (times 10000 ((a // b) ⊗ (whole (1000 * Mq) ⊘ (87 // 100 ⊗ whole h₀ ⊗ (S // 10)))))) (times (10 ^ 6) (c // d)))
    core a b c d u v =
        let e : 0 < h₀ * h₀ * S * b * d = mul-pos (mul-pos (mul-pos (mul-pos p p) q) u) v in
        record { pos = simp expand (omega (arith, simp expand at e)); pos' = simp expand (omega (arith, simp expand at e)); same = simp expand (omega arith) }

curvature_congruent : {q q' z z' σ σ' : Frac} → Same q q' → Same z z' → Same σ σ' → Same (curvature* q z σ) (curvature* q' z' σ')
unfolding curvature*
curvature_congruent e f g = same_sum (same_over (omega arith) (same_times 115 e)) (same_over (omega arith) (same_product f g))

deflection_congruent : {r r' θ θ' : Frac} (l₀ h₀ : ℕ) → 0 < h₀ → Same r r' → Same θ θ' →
    Same (deflection* (short* l₀ h₀ r) θ) (deflection* (short* l₀ h₀ r') θ')
unfolding deflection* short*
deflection_congruent l₀ h₀ p e g =
    same_over (omega arith) (same_product (same_over (omega arith) (same_times (29 * (l₀ * l₀)) e)) g)

softening_proper : (ψ ζ : Frac) → Proper ψ → Proper ζ → Proper (softening ψ ζ)
unfolding ◌⊕◌ ◌⊗◌
softening_proper ψ ζ p q = let e : 0 < ψ.den * ζ.den = mul-pos p q in simp expand (omega (arith, e))

ζ_proper : (x : Section) → 0 < b x * h₀ x → 0 < Ec x → x.concrete.ec.0 ≡ 100 * Ec x → Proper (ζ x)
unfolding As exact_stress ◌⊘◌ ◌⊗◌
ζ_proper x u v e = mul-pos (omega arith) (mul-pos (omega arith) u)

θ_proper : (x : Section) → 0 < S x → Proper (θ x)
unfolding times
θ_proper x p = (θ_same x p).pos

module _ (x : Section) (pM : 0 < Mq x) (ph : 0 < h₀ x) (pS : 0 < S x) (pb : 0 < b x * h₀ x) (pE : 0 < Ec x) (eE : x.concrete.ec.0 ≡ 100 * Ec x) where
  pub deflection-same :
      Same (whole 100 ⊗ exact_deflection x)
      (deflection* (short* (l₀ x) (h₀ x) (curvature* (mean* (stress* (Mq x) (h₀ x) (S x)) (stiffening* (ftk x) (W x) (S x)))
      (flexibility* (S x) (Ec x) (b x) (h₀ x)) (stress* (Mq x) (h₀ x) (S x)))) (long* (S x) (S' x) x.flanged))
  unfolding exact_deflection Bs As f
  deflection-same =
      let ψ-ok = ψ_proper x pM ph pS in
      let ζ-ok = ζ_proper x pb pE eE in
      same_trans (fall_f (softening_proper (ψ x) (ζ x) ψ-ok ζ-ok))
      (deflection_congruent (l₀ x) (h₀ x) ph
      (same_trans (curvature_same (ψ x) (ζ x) (f x) ψ-ok ζ-ok (f_proper x pM ph pS))
      (curvature_congruent (ψ_same x pM ph pS) (flexibility_same x pb pE eE) (f_same x pM ph pS)))
      (θ_same x pS))
    where
      fall_f : Proper (softening (ψ x) (ζ x)) →
          Same (whole 100 ⊗ exact_deflection x) (deflection* (short* (l₀ x) (h₀ x) (times 10000 (softening (ψ x) (ζ x) ⊗ f x))) (times (10 ^ 6) (θ x)))
      fall_f u = fall_same (Mq x) (h₀ x) (S x) (l₀ x) (softening (ψ x) (ζ x)) (θ x) ph pS u (θ_proper x pS)
