-- The rule of the table of mesh multiples.
use Prim.Native.Nat.{ℕ, ◌+◌, ◌-◌, ◌*◌, ◌/◌, ◌≤◌, min}
use mathlib.Core.List.{List, []}
use native.Mathlib.Omega.{arith}
use mathlib.Core.Bool.{Bool, ◌&&◌}
use lib.Dec.{eqb, eqb→eq, leb, leb→le}
use lib.ListN.{length, get_or}
use Rattle.code_tables.specs.Mesh.{multiples, multiple}
use Rattle.table.proofs.Table.{every, every_at, and_left, and_right}

fits : ℕ → ℕ → Bool
fits k x = leb 1 x && leb x 60

-- a row of 5 entries that fit
fitting : ℕ → List ℕ → Bool
fitting k r = eqb (length r) 5 && every fits 0 r

-- a multiple of the table is at least 1 and at most 60
pub multiple_between : (family cross grade : ℕ) → (1 ≤ family) × (family ≤ 2) × (cross ≤ 1) →
    (1 ≤ multiple family cross grade) × (multiple family cross grade ≤ 60)
unfolding multiple fits fitting
multiple_between family cross grade h =
    let k = (min grade 40 - 20) / 5 in
    let r = get_or multiples (2 * (family - 1) + cross) [] in
    let x = get_or r k 0 in
    let u = every_at fitting [] multiples tt (2 * (family - 1) + cross) (omega arith) in
    let five = eqb→eq (length r) 5 (and_left (eqb (length r) 5) (every fits 0 r) u) in
    let t = every_at fits 0 r (and_right (eqb (length r) 5) (every fits 0 r) u) k (omega arith) in
    (leb→le 1 x (and_left (leb 1 x) (leb x 60) t), leb→le x 60 (and_right (leb 1 x) (leb x 60) t))
