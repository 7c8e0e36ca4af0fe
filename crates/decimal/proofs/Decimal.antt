-- `decimal` split before its last two, four and eight digits.
use Prim.Native.Nat.{ℕ, ◌+◌, ◌/◌, ◌%◌, ◌≤◌, ◌<◌}
use mathlib.Core.Path.{◌≡◌}
use mathlib.Core.List.{List, [], ◌∷◌, ◌++◌, append_assoc}
use native.Mathlib.Omega.{arith}
use Rattle.text.specs.Text.{decimal}
use Rattle.text.proofs.Decimal.{decimal_one, decimal_more}

-- two digits at a time
abbrev pair : ℕ → List ℕ
pair v = (48 + v / 10) ∷ (48 + v % 10) ∷ []

pub decimal_pair : (v : ℕ) → 10 ≤ v → v < 100 → decimal v ≡ pair v
decimal_pair v h g = rw (decimal_more v h, decimal_one (v / 10) (omega arith))

pub decimal_hundred : (v : ℕ) → 100 ≤ v → decimal v ≡ decimal (v / 100) ++ pair (v % 100)
decimal_hundred v h =
    let q : v / 100 ≡ v / 10 / 10 = omega arith in
    let t : v % 100 / 10 ≡ v / 10 % 10 = omega arith in
    let u : v % 100 % 10 ≡ v % 10 = omega arith in
    rw (q, t, u, decimal_more v (omega arith), decimal_more (v / 10) (omega arith)) (append_assoc (decimal (v / 10 / 10)) _ _)

-- four at a time
abbrev four : ℕ → List ℕ
four v = pair (v / 100) ++ pair (v % 100)

pub decimal_10000 : (v : ℕ) → 10000 ≤ v → decimal v ≡ decimal (v / 10000) ++ four (v % 10000)
decimal_10000 v h =
    let q : v / 10000 ≡ v / 100 / 100 = omega arith in
    let t : v % 10000 / 100 ≡ v / 100 % 100 = omega arith in
    let u : v % 10000 % 100 ≡ v % 100 = omega arith in
    rw (q, t, u, decimal_hundred v (omega arith), decimal_hundred (v / 100) (omega arith)) (append_assoc (decimal (v / 100 / 100)) _ _)

-- eight at a time
pub decimal_eight : (v : ℕ) → 100000000 ≤ v → decimal v ≡ decimal (v / 100000000) ++ (four (v / 10000 % 10000) ++ four (v % 10000))
decimal_eight v h =
    let q : v / 100000000 ≡ v / 10000 / 10000 = omega arith in
    rw (q, decimal_10000 v (omega arith), decimal_10000 (v / 10000) (omega arith)) (append_assoc (decimal (v / 10000 / 10000)) _ _)
