-- Numbers in a row: one row after another, and a row as a slice.
use Prim.Native.Nat.{ℕ, zero, suc, ◌+◌, ◌<◌, ◌≤◌}
use mathlib.Core.Path.{◌≡◌, refl, ap}
use mathlib.Core.List.{List, ◌∷◌, ◌++◌}
use native.Mathlib.Nat.{add-zero}
use native.Mathlib.Omega.{arith}
use lib.ListN.{length, take, drop}
use lib.Seq.{drop-cons}
use Rattle.field_layout.specs.Layout.{slot, part}

pub part_append : (v : List ℕ) (i m n : ℕ) → part v i (m + n) ≡ part v i m ++ part v (i + m) n
part_append v i zero n = let e : 0 + n ≡ n = omega arith in rw (e, add-zero i)
part_append v i (suc m) n =
    let e : suc m + n ≡ suc (m + n) = omega arith in
    let f : i + suc m ≡ suc i + m = omega arith in
    rw (e, f) (ap (λ (t : List ℕ). slot v i ∷ t) (part_append v (suc i) m n))

pub part_slice : (v : List ℕ) (i n : ℕ) → i + n ≤ length v → part v i n ≡ take n (drop i v)
part_slice v i zero h = refl
part_slice v i (suc n) h =
    let l : i < length v = omega arith in
    rw (drop-cons v i 0 l, part_slice v (suc i) n (omega arith))
