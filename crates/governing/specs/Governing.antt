-- The largest utilization that was reached, or none.
-- "The governing share is a double or the plain word none; the largest wins" (document 01, "Shares for the viewer").
use Rattle.std.specs.Prelude.{◌≡◌, Bool, true, false, List, [], ◌∷◌, ◌⊎◌, T, Float, if◌then◌else◌, None, Some, Option}
use Rattle.std.specs.Float.Ieee.{lt, le}
use Rattle.quantity.specs.All.{All}
use Rattle.ratio.specs.declared.Utilization.{Utilization}
use Rattle.ratio.specs.Ratio.{Ratio, finite_nonneg}

-- ---- The definition.

-- one more, which counts where it was reached
abbrev pub including : Option Float → Bool → Float → Option Float
including g false x = g
including None true x = Some x
including (Some y) true x = Some (if lt y x then x else y)

abbrev pub governing_from : Option Float → List Ratio → Option Float
governing_from g [] = g
governing_from g (r ∷ rs) = governing_from (including g r.reached r.value) rs

abbrev pub ratios_of : Utilization → List Ratio
ratios_of u =
    record { value = u.first; reached = u.firstReached }
    ∷ record { value = u.second; reached = u.secondReached }
    ∷ record { value = u.third; reached = u.thirdReached }
    ∷ record { value = u.fourth; reached = u.fourthReached }
    ∷ []

abbrev pub governing_of : Utilization → Option Float
governing_of u = governing_from None (ratios_of u)

-- ---- What it says.

-- x is the value of one that was reached
abbrev pub Among : List Ratio → Float → Type 0
Among [] x = ⊥
Among (r ∷ rs) x = ((r.reached ≡ true) × (r.value ≡ x)) ⊎ Among rs x

-- those reached are finite and not negative, as every member's are
abbrev pub FiniteNonneg : List Ratio → Type 0
FiniteNonneg rs = All (λ (r : Ratio). r.reached ≡ true → T (finite_nonneg r.value)) rs

-- "the largest wins": g is at least y
abbrev pub AtLeast : Option Float → Float → Type 0
AtLeast None y = ⊥
AtLeast (Some x) y = le y x ≡ true

-- What `governing_of` promises: the value; one that governs was reached; and where utilizations are finite and not negative, none that was reached is larger.
pub record Governs (u : Utilization) (g : Option Float) : Type 0 where
  pub value_is : g ≡ governing_of u
  pub reached : (x : Float) → g ≡ Some x → Among (ratios_of u) x
  pub largest : FiniteNonneg (ratios_of u) → (y : Float) → Among (ratios_of u) y → AtLeast g y
