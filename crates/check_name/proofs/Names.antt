-- Laws of the checks' names: each is read back as its check, is short, and has no blank and no newline.
use Prim.Native.Nat.{ℕ, ◌≤◌}
use mathlib.Core.Path.{◌≡◌, refl, sym, ap, ◌∙◌}
use mathlib.Core.Bool.{Bool, true, false, ◌&&◌}
use mathlib.Core.List.{List, [], ◌∷◌}
use lib.Dec.{eqb, leb, ltb}
use lib.ListN.{length}
use borrow.Author.Tests.{leb-true}
use Rattle.quantity.specs.All.{All}
use Rattle.std.specs.Prelude.{if◌then◌else◌}
use Rattle.text.specs.Text.{every}
use Rattle.text.proofs.Bytes.{Graphic, graphic}
use Rattle.outcome.specs.declared.Check.{Check}
use Rattle.outcome.specs.declared.Check.TheVariants as variants
use Rattle.outcome.specs.Outcome.{name_of}

same : List ℕ → List ℕ → Bool
same [] [] = true
same [] (b ∷ t) = false
same (a ∷ s) [] = false
same (a ∷ s) (b ∷ t) = eqb a b && same s t

-- the first of some checks that has the name w
find : List ℕ → List Check → Check
find w [] = variants.Passed
find w (c ∷ cs) = if same w (name_of c) then c else find w cs

checks : List Check
checks =
    variants.Passed
    ∷ variants.LeastSteel
    ∷ variants.CompressionDepth
    ∷ variants.Bending
    ∷ variants.CoupleBending
    ∷ variants.WebCrushing
    ∷ variants.Shear
    ∷ variants.LinkSpacing
    ∷ variants.LeastLinks
    ∷ variants.ServiceStress
    ∷ variants.CrackWidth
    ∷ variants.Deflection
    ∷ variants.MostSteel
    ∷ variants.ColumnLinks
    ∷ variants.Slenderness
    ∷ variants.AxialForce
    ∷ variants.Anchorage
    ∷ variants.Lap
    ∷ []

-- by computing: the name is read back as c, its bytes lie above the blank, there are at most seven
facts : (c : Check) → (find (name_of c) checks ≡ c) × (every (ltb 32) (name_of c) ≡ true) × (leb (length (name_of c)) 7 ≡ true)
unfolding find same checks every
facts variants.Passed = (refl, refl, refl)
facts variants.LeastSteel = (refl, refl, refl)
facts variants.CompressionDepth = (refl, refl, refl)
facts variants.Bending = (refl, refl, refl)
facts variants.CoupleBending = (refl, refl, refl)
facts variants.WebCrushing = (refl, refl, refl)
facts variants.Shear = (refl, refl, refl)
facts variants.LinkSpacing = (refl, refl, refl)
facts variants.LeastLinks = (refl, refl, refl)
facts variants.ServiceStress = (refl, refl, refl)
facts variants.CrackWidth = (refl, refl, refl)
facts variants.Deflection = (refl, refl, refl)
facts variants.MostSteel = (refl, refl, refl)
facts variants.ColumnLinks = (refl, refl, refl)
facts variants.Slenderness = (refl, refl, refl)
facts variants.AxialForce = (refl, refl, refl)
facts variants.Anchorage = (refl, refl, refl)
facts variants.Lap = (refl, refl, refl)

pub name_injective : {c d : Check} → name_of c ≡ name_of d → c ≡ d
name_injective {c} {d} e = sym (facts c).0 ∙ ap (λ (w : List ℕ). find w checks) e ∙ (facts d).0

pub name_graphic : (c : Check) → All Graphic (name_of c)
name_graphic c = graphic (name_of c) (facts c).1

pub name_short : (c : Check) → length (name_of c) ≤ 7
name_short c = leb-true (length (name_of c)) 7 (facts c).2
