-- The results of the shear check, by cases: each with what holds of the two limits.
use mathlib.Core.Path.{◌≡◌}
use Rattle.quantity.specs.Fraction.{whole, ◌⊖◌, ◌≺◌}
use Rattle.quantity.specs.Unit.{newtons}
use Rattle.quantity.proofs.Reflects.{settled_case}
use Rattle.quantity.proofs.Safe.{capacity_settles}
use Rattle.section.specs.declared.Section.{Section}
use Rattle.section.specs.Section.{Vd}
use Rattle.section.specs.Bounded.{Bounded}
use Rattle.web_crushing.specs.Exact.{WebHolds}
use Rattle.web_crushing.proofs.Tests.{web_reflects}
use Rattle.shear.specs.declared.ShearResult.{ShearResult}
use Rattle.shear.specs.declared.ShearResult.TheVariants.{AboveWebLimit, AboveCapacity, WithinBoth}
use Rattle.shear.specs.Steps.{shear_capacity}
use Rattle.shear.specs.Exact.{exact_shear, ShearHolds}
use Rattle.shear.specs.ShearCheck.{shear_result, ShearSays, ShearChecked}
use Rattle.shear.proofs.Exact.{shear_safe}

pub shear_case : (P : ShearResult → Type 0) {x : Section} → Bounded x →
    ((WebHolds x → ⊥) → P AboveWebLimit) →
    (WebHolds x → exact_shear x ⊖ whole (Vd x) ≺ whole 2 → P (AboveCapacity (newtons (shear_capacity x)))) →
    (WebHolds x → ShearHolds x → P (WithinBoth (newtons (shear_capacity x)))) →
    P (shear_result x)
unfolding shear_result
shear_case P {x} a limit above within =
    settled_case P (web_reflects a) limit λ w.
    settled_case P (capacity_settles (Vd x) (shear_safe a)) (above w) (within w)

pub checked : {x : Section} {r : ShearResult} → Bounded x → r ≡ shear_result x → ShearChecked x r
checked {x} a e = record { result_is = e; says = rw e (shear_case (ShearSays x) a (λ n. n) (λ w n. w) (λ w p. (w, p))) }
