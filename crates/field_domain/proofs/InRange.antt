-- What a number in a range is, and a bar of the table.
use Prim.Native.Nat.{ℕ, ◌≤◌}
use mathlib.Core.Path.{◌≡◌}
use mathlib.Core.Bool.{true}
use lib.Dec.{leb}
use borrow.Author.Tests.{leb-true, ltb-true}
use Rattle.code_tables.specs.Bars.{area_of}
use Rattle.bars.specs.Accepted.{BarFrom}
use Rattle.quantity.proofs.Choice.{both_true}
use Rattle.field_domain.specs.Domain.{in_range, bar}

pub in_between : {lo hi x : ℕ} → in_range lo hi x ≡ true → (lo ≤ x) × (x ≤ hi)
in_between {lo} {hi} {x} e = let t = both_true (leb lo x) (leb x hi) e in (leb-true _ _ t.0, leb-true _ _ t.1)

-- a bar of the table
pub a_bar : (lo hi x : ℕ) → bar lo hi x ≡ true → BarFrom lo hi x
a_bar lo hi x e =
    let t = both_true (in_range lo hi x) _ e in
    let r = in_between {lo = lo} {hi = hi} {x = x} t.0 in
    record { least = r.0; most = r.1; listed = ltb-true 0 (area_of x) t.1 }
