-- A product of two bounded numbers.
use Prim.Native.Nat.{ℕ, ◌*◌, ◌≤◌}
use native.Mathlib.Nat.{mul-le-mul}

pub product_most : (a b m n : ℕ) → (a ≤ m) × (b ≤ n) → a * b ≤ m * n
product_most a b m n p = mul-le-mul p.0 p.1
