-- The steps of `septets_at` as the loop of `long_number` takes them, the bounds of its sums, and the inversion: what a value that was read says
-- of the septets.
use Rattle.std.specs.Prelude.{Err, Ok}
use mathlib.Core.Path.{◌≡◌, refl, sym, ap, ◌∙◌}
use mathlib.Core.Bool.{Bool, true, false, ◌&&◌, ◌||◌, false≢true, or-true}
use mathlib.Core.List.{List}
use mathlib.Core.Logic.{◌⊎◌, inl, inr, ⊎_elim}
use Prim.Native.Nat.{ℕ, suc, ◌+◌, ◌-◌, ◌*◌, ◌^◌, ◌≤◌, ◌<◌}
use native.Mathlib.Nat.{pow-suc, pow-le-pow_right, mul-le-mul_right}
use native.Mathlib.Omega.{arith}
use lib.ListN.{length, get_or}
use lib.Dec.{leb, ltb, eqb}
use borrow.Author.Tests.{lt-ltb, le-ltb, le-leb, lt-leb, ltb-true, ltb-false, leb-false, eqb-true}
use Rattle.quantity.proofs.Choice.{if_case}
use Rattle.question.specs.declared.Question.{Question}
use Rattle.question.specs.declared.Question.TheVariants.{NumberEnds, NumberForm}
use Rattle.varint.specs.Varint.{Number}
use Rattle.varint.specs.Varint.{number_at, septets_at, last_septet}

-- ---- One step.

module _ (s : List ℕ) (left p w v : ℕ) (h : 0 < left) where
  one_less : left ≡ suc (left - 1)
  one_less = omega arith

  pub file_ends : length s ≤ p → septets_at left s p w v ≡ Err NumberEnds
  unfolding septets_at
  file_ends e = rw one_less (simp (le-leb _ _ e))

  pub last_septet_at : (b : ℕ) → b ≡ get_or s p 0 → p < length s → b < 128 → septets_at left s p w v ≡ last_septet b w v (p + 1)
  unfolding septets_at
  last_septet_at b q e t = rw (one_less, q) (simp (lt-leb _ _ e, lt-ltb _ _ (rw q at t)))

  pub septet_follows : (b : ℕ) → b ≡ get_or s p 0 → p < length s → 128 ≤ b
      → septets_at left s p w v ≡ septets_at (left - 1) s (p + 1) (w * 128) (v + (b - 128) * w)
  unfolding septets_at
  septet_follows b q e t =
      ap (λ (k : ℕ). septets_at k s p w v) one_less ∙ rw q (simp (lt-leb _ _ e, le-ltb _ _ (rw q at t)))

-- the only septet is the number
pub only_septet : (b next : ℕ) → b < 128 → last_septet b 1 0 next ≡ Ok (b, next)
unfolding last_septet
only_septet b next h =
    let e : 0 + b * 1 ≡ b = omega arith in
    rw e (simp (or-true, lt-ltb b (2 ^ 32) (omega arith)))

pub none_left : (s : List ℕ) (left p w v : ℕ) → left ≤ 0 → septets_at left s p w v ≡ Err NumberForm
unfolding septets_at
none_left s left p w v h = let e : left ≡ 0 = omega arith in rw e

-- ---- The first two septets.

-- a septet follows the first, a
module _ (s : List ℕ) (at a : ℕ) (q : a ≡ get_or s at 0) (h : at < length s) (t : 128 ≤ a) where
  pub from_second : number_at s at ≡ septets_at 4 s (at + 1) 128 (a - 128)
  unfolding number_at
  from_second =
      let e : 0 + (a - 128) * 1 ≡ a - 128 = omega arith in
      rw (← e) (septet_follows s 5 at 1 0 (omega arith) a q h t)

  -- the second, b, is the last, or a third follows
  module _ (b : ℕ) (r : b ≡ get_or s (at + 1) 0) (g : at + 1 < length s) where
    two : at + 2 ≡ at + 1 + 1
    two = omega arith

    pub second_last : b < 128 → number_at s at ≡ last_septet b 128 (a - 128) (at + 2)
    second_last u = rw two (from_second ∙ last_septet_at s 4 (at + 1) 128 (a - 128) (omega arith) b r g u)

    pub from_third : 128 ≤ b → number_at s at ≡ septets_at 3 s (at + 2) 16384 (a - 128 + (b - 128) * 128)
    from_third u = rw two (from_second ∙ septet_follows s 4 (at + 1) 128 (a - 128) (omega arith) b r g u)

-- ---- Bounds.

-- the weight of a septet, with k septets below it
pub weight : (k : ℕ) → k < 5 → 128 ^ k ≤ 128 ^ 4
weight k h = let e : k ≤ 4 = omega arith in pow-le-pow_right (omega arith) e

pub weight_next : (left : ℕ) → 0 < left → left ≤ 5 → 128 ^ (5 - left) * 128 ≡ 128 ^ (5 - (left - 1))
weight_next left h l =
    let e : 5 - (left - 1) ≡ suc (5 - left) = omega arith in
    sym (ap (λ (n : ℕ). 128 ^ n) e ∙ pow-suc 128 (5 - left))

-- a septet of at most 127 on top of a value below the weight
pub below : (b w v : ℕ) → b < 128 → v < w → v + b * w < w * 128
below b w v hb hv = let e : b ≤ 127 = omega arith in omega (arith, mul-le-mul_right w e)

-- ---- Inversion.

pub refused_no_value : {q : Question} {v next : ℕ} → ◌≡◌ {A = Number} (Err q) (Ok (v, next)) → ⊥
refused_no_value r = let z : ◌≡◌ {A = ℕ} 0 1 = cc in omega arith

-- two answers that are the same have the same number and the same place after it
pub same_value : (x next y after : ℕ) → ◌≡◌ {A = Number} (Ok (x, next)) (Ok (y, after)) → (x ≡ y) × (next ≡ after)
same_value x next y after r =
    let e : ◌≡◌ {A = ℕ × ℕ} (x, next) (y, after) = cc in
    (ap (λ (p : ℕ × ℕ). p.0) e, ap (λ (p : ℕ × ℕ). p.1) e)

-- the value x, whose last septet is b
pub record Ended (b w v end x next : ℕ) : Type 0 where
  pub value : x ≡ v + b * w
  pub after : next ≡ end
  pub fits : x < 2 ^ 32
  pub form : (0 < b) ⊎ (w ≡ 1)

or_and_inv : (a b c : Bool) → ((a || b) && c) ≡ true → ((a ≡ true) ⊎ (b ≡ true)) × (c ≡ true)
or_and_inv true b true e = (inl refl, refl)
or_and_inv true b false e = absurd (false≢true e)
or_and_inv false true true e = (inr refl, refl)
or_and_inv false true false e = absurd (false≢true e)
or_and_inv false false c e = absurd (false≢true e)

pub last_inv : (b w v end x next : ℕ) → last_septet b w v end ≡ Ok (x, next) → Ended b w v end x next
unfolding last_septet
last_inv b w v end x next =
    if_case (λ (n : Number). n ≡ Ok (x, next) → Ended b w v end x next) ((ltb 0 b || eqb w 1) && ltb (v + b * w) (2 ^ 32)) _ _
    (λ t r.
    let e = or_and_inv _ _ _ t in
    let same = same_value _ _ _ _ r in
    record {
      value = sym same.0;
      after = sym same.1;
      fits = rw (← same.0) (ltb-true _ _ e.1);
      form = ⊎_elim (λ f. inl (ltb-true _ _ f)) (λ f. inr (eqb-true _ _ f)) e.0;
    })
    (λ _ r. absurd (refused_no_value r))

-- how a value was read from p: the septet there is the last, or the septets behind it gave the value
abbrev pub Cases : ℕ → List ℕ → ℕ → ℕ → ℕ → ℕ → ℕ → Type 0
Cases left s p w v x next =
    let b = get_or s p 0 in
    (p < length s) × (((b < 128) × Ended b w v (p + 1) x next)
    ⊎ ((128 ≤ b) × (septets_at left s (p + 1) (w * 128) (v + (b - 128) * w) ≡ Ok (x, next))))

pub septets_inv : (left : ℕ) (s : List ℕ) (p w v x next : ℕ) → septets_at (suc left) s p w v ≡ Ok (x, next) → Cases left s p w v x next
unfolding septets_at
septets_inv left s p w v x next =
    if_case (λ (n : Number). n ≡ Ok (x, next) → Cases left s p w v x next) (leb (length s) p) _ _
    (λ _ r. absurd (refused_no_value r))
    (λ t. if_case (λ (n : Number). n ≡ Ok (x, next) → Cases left s p w v x next) (ltb (get_or s p 0) 128) _ _
    (λ u r. (leb-false _ _ t, inl (ltb-true _ _ u, last_inv _ _ _ _ _ _ r)))
    (λ u r. (leb-false _ _ t, inr (ltb-false _ _ u, r))))
