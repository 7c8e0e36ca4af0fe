-- The governing utilization is one of those reached, and None of those is larger.
use Prim.Native.Nat.{ℕ, ◌*◌, ◌≤◌}
use mathlib.Core.Path.{◌≡◌, refl, sym, ◌∙◌}
use mathlib.Core.Bool.{Bool, true, false, false≢true}
use mathlib.Core.Logic.{◌⊎◌, inl, inr, ⊎_elim}
use mathlib.Core.List.{List, [], ◌∷◌}
use native.Mathlib.Nat.{le_refl, le_of_lt}
use native.Mathlib.Omega.{arith}
use lib.Dec.{T}
use lib.Ieee.{Float, nan, inf, fin, up, down, lt, le}
use lib.Ieee.Bits.{is_true}
use lib.Ieee.Fits.{down_pos}
use lib.Ieee.Order.{le_of_values}
use lib.Ieee.Positive.{num, den, den_pos, through}
use borrow.Author.Tests.{ltb-true, ltb-false}
use Rattle.std.specs.Prelude.{if◌then◌else◌, Option, None, Some}
use Rattle.ratio.specs.declared.Utilization.{Utilization}
use Rattle.ratio.specs.Ratio.{Ratio, finite_nonneg}
use Rattle.governing.specs.Governing.{including, governing_from, ratios_of, governing_of, Among, FiniteNonneg, AtLeast, Governs}

-- ---- The order of two finite doubles, neither negative, is that of their fractions.

abbrev AtMost : Float → Float → Type 0
AtMost x y = num x * den y ≤ num y * den x

at_most_le : (x y : Float) → T (finite_nonneg x) → T (finite_nonneg y) → AtMost x y → T (le x y)
at_most_le nan y p q h = absurd p
at_most_le (inf s) y p q h = absurd p
at_most_le (fin true m e) y p q h = absurd p
at_most_le (fin false m e) nan p q h = absurd q
at_most_le (fin false m e) (inf s) p q h = absurd q
at_most_le (fin false m e) (fin true n d) p q h = absurd q
at_most_le (fin false m e) (fin false n d) p q h =
    le_of_values (fin false m e) (fin false n d) (m * up e) (down e) (n * up d) (down d) (down_pos e) (down_pos d) (refl, refl) (refl, refl) h

-- x where y < x, else y: it is at least both
larger_of : (t : Bool) (x y : Float) → T (finite_nonneg x) → T (finite_nonneg y) → lt y x ≡ t → AtMost x (if t then x else y) × AtMost y (if t then x else y)
unfolding lt
larger_of t nan y p q e = absurd p
larger_of t (inf s) y p q e = absurd p
larger_of t (fin true m f) y p q e = absurd p
larger_of t (fin false m f) nan p q e = absurd q
larger_of t (fin false m f) (inf s) p q e = absurd q
larger_of t (fin false m f) (fin true n d) p q e = absurd q
larger_of true (fin false m f) (fin false n d) p q e = (le_refl _, le_of_lt (ltb-true _ _ e))
larger_of false (fin false m f) (fin false n d) p q e = (ltb-false _ _ e, le_refl _)

nonneg_of : (t : Bool) (x y : Float) → T (finite_nonneg x) → T (finite_nonneg y) → T (finite_nonneg (if t then x else y))
nonneg_of true x y p q = p
nonneg_of false x y p q = q

-- ---- One more.

abbrev FairSoFar : Option Float → Type 0
FairSoFar None = Unit {0}
FairSoFar (Some y) = T (finite_nonneg y)

-- what governs so far is at least x
abbrev Covers : Option Float → Float → Type 0
Covers None x = ⊥
Covers (Some y) x = AtMost x y

stays_nonneg : (g : Option Float) (t : Bool) (z : Float) → FairSoFar g → (t ≡ true → T (finite_nonneg z)) → FairSoFar (including g t z)
stays_nonneg g false z p q = p
stays_nonneg None true z p q = q refl
stays_nonneg (Some y) true z p q = nonneg_of (lt y z) z y (q refl) p

stays_covered : (g : Option Float) (t : Bool) (z x : Float) → FairSoFar g → (t ≡ true → T (finite_nonneg z)) → Covers g x → Covers (including g t z) x
stays_covered g false z x p q h = h
stays_covered None true z x p q h = absurd h
stays_covered (Some y) true z x p q h =
    let w = if lt y z then z else y in
    through (num x) (num y) (num w) (den x) (den y) (den w) (den_pos y) h (larger_of (lt y z) z y (q refl) p refl).1

covers_it : (g : Option Float) (t : Bool) (z : Float) → t ≡ true → FairSoFar g → (t ≡ true → T (finite_nonneg z)) → Covers (including g t z) z
covers_it g false z e p q = absurd (false≢true e)
covers_it None true z e p q = le_refl _
covers_it (Some y) true z e p q = (larger_of (lt y z) z y (q refl) p refl).0

-- what governs next is what governed, or the one more
taken : (g : Option Float) (t : Bool) (z x : Float) → including g t z ≡ Some x → (g ≡ Some x) ⊎ ((t ≡ true) × (z ≡ x))
taken g false z x e = inl e
taken None true z x e = inr (refl, cc)
taken (Some y) true z x e = pick (lt y z) e
  where
    pick : (t : Bool) → Some (if t then z else y) ≡ Some x → (Some y ≡ Some x) ⊎ ((true ≡ true) × (z ≡ x))
    pick true d = inr (refl, cc)
    pick false d = inl d

-- ---- All of them.

from_nonneg : (g : Option Float) (rs : List Ratio) → FairSoFar g → FiniteNonneg rs → FairSoFar (governing_from g rs)
from_nonneg g [] p f = p
from_nonneg g (r ∷ rs) p f = from_nonneg (including g r.reached r.value) rs (stays_nonneg g r.reached r.value p f.0) f.1

from_covered : (g : Option Float) (rs : List Ratio) (x : Float) → FairSoFar g → FiniteNonneg rs → Covers g x → Covers (governing_from g rs) x
from_covered g [] x p f h = h
from_covered g (r ∷ rs) x p f h =
    from_covered (including g r.reached r.value) rs x (stays_nonneg g r.reached r.value p f.0) f.1 (stays_covered g r.reached r.value x p f.0 h)

from_among : (g : Option Float) (rs : List Ratio) (x : Float) → FairSoFar g → FiniteNonneg rs → Among rs x → Covers (governing_from g rs) x
from_among g [] x p f a = absurd a
from_among g (r ∷ rs) x p f a =
    let q = stays_nonneg g r.reached r.value p f.0 in
    ⊎_elim
    (λ e. from_covered _ rs x q f.1 (rw (← e.1) (covers_it g r.reached r.value e.0 p f.0)))
    (λ b. from_among (including g r.reached r.value) rs x q f.1 b)
    a

from_reached : (g : Option Float) (rs : List Ratio) (x : Float) → governing_from g rs ≡ Some x → (g ≡ Some x) ⊎ Among rs x
from_reached g [] x e = inl e
from_reached g (r ∷ rs) x e =
    ⊎_elim
    (λ d. ⊎_elim (λ k. inl k) (λ k. inr (inl k)) (taken g r.reached r.value x d))
    (λ a. inr (inr a))
    (from_reached (including g r.reached r.value) rs x e)

-- ---- What governs.

among_nonneg : (rs : List Ratio) (x : Float) → FiniteNonneg rs → Among rs x → T (finite_nonneg x)
among_nonneg [] x f a = absurd a
among_nonneg (r ∷ rs) x f a = ⊎_elim (λ e. rw (← e.1) (f.0 e.0)) (λ b. among_nonneg rs x f.1 b) a

module _ (u : Utilization) where
  pub governs : {g : Option Float} → g ≡ governing_of u → Governs u g
  governs {g} e =
      record {
        value_is = e;
        reached = λ x d. ⊎_elim (λ n. absurd (let z : ◌≡◌ {A = ℕ} 0 1 = cc in omega arith)) (λ a. a) (from_reached None (ratios_of u) x (sym e ∙ d));
        largest = λ f y a. rw e (at_least (governing_of u) y f a (from_nonneg None (ratios_of u) tt f) (from_among None (ratios_of u) y tt f a));
      }
    where
      at_least : (h : Option Float) (y : Float) → FiniteNonneg (ratios_of u) → Among (ratios_of u) y → FairSoFar h → Covers h y → AtLeast h y
      at_least None y f a p c = absurd c
      at_least (Some x) y f a p c = is_true (le y x) (at_most_le y x (among_nonneg (ratios_of u) y f a) p c)
