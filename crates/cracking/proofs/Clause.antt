-- The clauses' own formulas are the steps without rounding, in other units: σ is f in 0.0001 N/mm², the width in 0.001 mm.
use Prim.Native.Nat.{ℕ, ◌*◌, ◌<◌}
use native.Mathlib.Nat.{mul-pos}
use native.Mathlib.Omega.{arith}
use Rattle.quantity.specs.Rounding.{clamp}
use Rattle.quantity.specs.Fraction.{Frac, ◌//◌, whole, Proper, ◌⊕◌, ◌⊖◌, ◌⊗◌, ◌⊘◌, smaller, larger, clamp_frac}
use Rattle.quantity.specs.Unit.{exact_stress}
use Rattle.quantity.proofs.Rounding.{expand}
use Rattle.quantity.proofs.Fraction.{level, Same, same_trans, same_difference, same_smaller, same_larger, same_product, product_smaller, product_larger, product_difference, proper_difference, proper_larger, proper_quotient, positive_product}
use Rattle.quantity.proofs.Near.{times, over, same_times, same_over, quotient_times}
use Rattle.section.specs.declared.Section.{Section}
use Rattle.section.specs.Section.{h₀, c, W, S, E, D, Mq, ftk}
use Rattle.cracking.specs.Exact.{As, f, p, ψ, exact_width}
use Rattle.cracking.proofs.Rounded.{stress*, stiffening*, mean*, spacing*, width*}

-- ---- Stress, steel ratio and ψ.

-- 0.65·ftk
abbrev cracking : Section → Frac
cracking x = 65 // 100 ⊗ exact_stress x.concrete.ftk

module _ (x : Section) (pM : 0 < Mq x) (ph : 0 < h₀ x) (pS : 0 < S x) where
  pub f_same : Same (times 10000 (f x)) (stress* (Mq x) (h₀ x) (S x))
  unfolding times f As stress* ◌⊘◌ ◌⊗◌
  f_same =
      let hS : 0 < h₀ x * S x = mul-pos ph pS in
      record { pos = simp expand (omega arith); pos' = simp expand (omega arith); same = simp expand (omega arith) }

  f_num : 0 < (f x).num
  unfolding f As ◌⊘◌ ◌⊗◌
  f_num = omega arith

  pub f_proper : Proper (f x)
  unfolding f As ◌⊘◌ ◌⊗◌
  f_proper = let hS : 0 < h₀ x * S x = mul-pos ph pS in omega arith

  p_num : 0 < (p x).num
  unfolding p As ◌⊘◌ ◌⊗◌ ◌⊕◌
  p_num = omega arith

  cracking_proper : Proper (cracking x)
  unfolding ◌⊗◌ exact_stress
  cracking_proper = omega arith

  stiffening_same : Same (times 10000 (cracking x ⊘ p x)) (stiffening* (ftk x) (W x) (S x))
  unfolding times p As stiffening* ◌⊘◌ ◌⊗◌ ◌⊕◌ exact_stress
  stiffening_same = record { pos = omega arith; pos' = pS; same = simp expand (omega arith) }

-- A product with ψ held to 0.2 and 1 is the product held the same way.

one_product : (a : Frac) → Proper a → Same (whole 1 ⊗ a) a
unfolding ◌⊗◌
one_product a p = record { pos = omega arith; pos' = p; same = simp level (omega arith) }

fifth_product : (a : Frac) → Proper a → Same (2 // 10 ⊗ a) (over a 5)
unfolding ◌⊗◌ over
fifth_product a p = record { pos = omega arith; pos' = omega arith; same = simp expand (omega arith) }

more_product : (a : Frac) → Proper a → Same (11 // 10 ⊗ a) (over (times 11 a) 10)
unfolding ◌⊗◌ over times
more_product a p = record { pos = omega arith; pos' = omega arith; same = simp expand (omega arith) }

clamped_same : (k : ℕ) (a p f : Frac) {σ g : Frac} → Proper a → 0 < p.num → 0 < f.num → Proper f →
    Same (times k f) σ → Same (times k (a ⊘ p)) g →
    Same (clamp_frac (2 // 10) (whole 1) (11 // 10 ⊖ a ⊘ (p ⊗ f)) ⊗ times k f) (mean* σ g)
unfolding clamp_frac mean*
clamped_same k a p f {σ} {g} u v w y s r =
    let F = times k f in
    let Q = a ⊘ (p ⊗ f) in
    let Q-proper = proper_quotient a (p ⊗ f) u (positive_product p f v w) in
    let m = 11 // 10 ⊖ Q in
    let m-proper : Proper m = proper_difference (11 // 10) Q (omega arith) Q-proper in
    same_trans (product_smaller (whole 1) (larger (2 // 10) m) F (omega arith) (proper_larger (2 // 10) m (omega arith) m-proper) s.pos)
    (same_smaller (same_trans (one_product F s.pos) s)
    (same_trans (product_larger (2 // 10) m F (omega arith) m-proper s.pos)
    (same_larger (same_trans (fifth_product F s.pos) (same_over (omega arith) s))
    (same_trans (product_difference (11 // 10) Q F (omega arith) Q-proper s.pos)
    (same_difference (same_trans (more_product F s.pos) (same_over (omega arith) (same_times 11 s)))
    (same_trans (quotient_times k a p f u v w y) r))))))

module _ (x : Section) (pM : 0 < Mq x) (ph : 0 < h₀ x) (pS : 0 < S x) where
  pub ψ_same : Same (ψ x ⊗ times 10000 (f x)) (mean* (stress* (Mq x) (h₀ x) (S x)) (stiffening* (ftk x) (W x) (S x)))
  unfolding ψ
  ψ_same =
      clamped_same 10000 (cracking x) (p x) (f x) (cracking_proper x pM ph pS) (p_num x pM ph pS) (f_num x pM ph pS) (f_proper x pM ph pS)
      (f_same x pM ph pS) (stiffening_same x pM ph pS)

  pub ψ_proper : Proper (ψ x)
  unfolding ψ clamp_frac smaller larger ◌⊖◌
  ψ_proper =
      omega (arith, proper_quotient (cracking x) (p x ⊗ f x) (cracking_proper x pM ph pS) (positive_product (p x) (f x) (p_num x pM ph pS) (f_num x pM ph pS)))

-- ---- Crack width.

-- 1.9·c + 0.08·E/(D·p)
abbrev spread : Section → Frac
spread x = 19 // 10 ⊗ whole (clamp 20 65 (c x)) ⊕ (8 // 100 ⊗ whole (E x)) ⊘ (whole (D x) ⊗ p x)

spread_same : (x : Section) → 0 < D x → 0 < S x → Same (times 100 (spread x)) (spacing* (c x) (E x) (W x) (D x) (S x))
unfolding times p As spacing* ◌⊘◌ ◌⊗◌ ◌⊕◌
spread_same x pD pS =
    let DS : 0 < D x * S x = mul-pos pD pS in
    record { pos = simp expand (omega arith); pos' = simp expand (omega arith); same = simp expand (omega arith) }

opening_same : (ψ f L : Frac) → Proper ψ → Proper f → Proper L →
    Same (whole 1000 ⊗ (19 // 10 ⊗ ψ ⊗ (f ⊘ whole 200000) ⊗ L)) (width* (ψ ⊗ times 10000 f) (times 100 L))
unfolding width* ◌⊗◌ times over ◌⊘◌
opening_same ψ f L u v w =
    let d : 0 < ψ.den * f.den * L.den = mul-pos (mul-pos u v) w in
    record { pos = simp expand (omega (arith, simp expand at d)); pos' = simp expand (omega (arith, simp expand at d)); same = simp expand (omega arith) }

spread_proper : (x : Section) → 0 < D x → 0 < S x → Proper (spread x)
unfolding times
spread_proper x pD pS = (spread_same x pD pS).pos

width_congruent : {a b K L : Frac} → Same a b → Same K L → Same (width* a K) (width* b L)
unfolding width*
width_congruent s t = same_over (omega arith) (same_product (same_times 19 s) t)

pub width_same : (x : Section) → 0 < Mq x → 0 < h₀ x → 0 < S x → 0 < D x →
    Same (whole 1000 ⊗ exact_width x)
    (width* (mean* (stress* (Mq x) (h₀ x) (S x)) (stiffening* (ftk x) (W x) (S x))) (spacing* (c x) (E x) (W x) (D x) (S x)))
unfolding exact_width
width_same x pM ph pS pD =
    same_trans (opening_same (ψ x) (f x) (spread x) (ψ_proper x pM ph pS) (f_proper x pM ph pS) (spread_proper x pD pS))
    (width_congruent (ψ_same x pM ph pS) (spread_same x pD pS))
