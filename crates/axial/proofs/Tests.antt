-- Each test that the axial capacity rests on reflects its inequality.
use Prim.Native.Nat.{◌*◌, ◌≤◌}
use Rattle.quantity.proofs.Reflects.{Reflects, reflects_le}
use Rattle.member.specs.Member.{Column}
use Rattle.axial.specs.Steps.{gross_area, steel_area, steel_fits, slenderness_fits}

pub steel_reflects : (x : Column) → Reflects (steel_fits x) (2 * steel_area x ≤ gross_area x)
unfolding steel_fits
steel_reflects x = reflects_le _ _

pub slenderness_reflects : (x : Column) → Reflects (slenderness_fits x) (x.l₀ ≤ 50 * x.b)
unfolding slenderness_fits
slenderness_reflects x = reflects_le _ _
