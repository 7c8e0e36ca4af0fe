-- The rule of the table of φ: from 100 it never rises, and stays above 0.
use Prim.Native.Nat.{ℕ, ◌+◌, ◌≤◌, ◌<◌}
use mathlib.Core.Bool.{Bool, ◌&&◌}
use lib.Dec.{leb, leb→le}
use lib.ListN.{get_or}
use Rattle.code_tables.specs.Slenderness.{points, point}
use Rattle.table.proofs.Table.{every_at, and_left, and_right}

falls : ℕ → ℕ → Bool
falls i x = leb x 100 && (leb 1 x && leb (get_or points (i + 1) 0) x)

pub point_falls : (i : ℕ) → i < 22 → (point i ≤ 100) × (1 ≤ point i) × (point (i + 1) ≤ point i)
unfolding point falls
point_falls i h =
    let t = every_at falls 0 points tt i h in
    let a = leb (point i) 100 in
    let b = leb 1 (point i) in
    let c = leb (point (i + 1)) (point i) in
    let u = and_right a (b && c) t in
    (leb→le _ _ (and_left a (b && c) t), leb→le _ _ (and_left b c u), leb→le _ _ (and_right b c u))
