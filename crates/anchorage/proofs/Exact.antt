-- The clause's length is that of the steps before it is rounded.
use Prim.Native.Nat.{ℕ, ◌*◌, ◌<◌, max}
use mathlib.Core.Path.{◌≡◌}
use mathlib.Core.Bool.{Bool, true, false, ◌||◌}
use native.Mathlib.Omega.{arith}
use lib.Dec.{eqb}
use Rattle.std.specs.Prelude.{if◌then◌else◌}
use Rattle.quantity.specs.Fraction.{Frac, ◌//◌, whole, ◌⊗◌, larger}
use Rattle.quantity.proofs.Fraction.{Same, same_refl, same_sym, same_trans, same_product, same_larger, level}
use Rattle.code_tables.specs.Mesh.{multiple}
use Rattle.member.specs.Member.{Mesh}
use Rattle.anchorage.specs.Steps.{seismic_hundredths, basic_length, anchorage_length}
use Rattle.anchorage.specs.Exact.{seismic_factor, exact_basic, exact_anchorage}
use Rattle.quantity.specs.Safe.{NotBelow}
use Rattle.quantity.proofs.Safe.{up_not_below, same_not_below}

-- ---- A fraction that is n / k: the case that a test picks, at least w, and a product.

pub choice_same : (t : Bool) {a b : Frac} {n m k : ℕ} → Same a (n // k) → Same b (m // k) → Same (if t then a else b) ((if t then n else m) // k)
choice_same true u v = u
choice_same false u v = v

pub least_same : (w : ℕ) {a : Frac} {n k : ℕ} → Same a (n // k) → Same (larger (whole w) a) (max (k * w) n // k)
unfolding larger
least_same w {a} {n} {k} s =
    same_trans (same_larger (same_refl (whole w) (omega arith)) s)
    (record { pos = omega (arith, s.pos'); pos' = s.pos'; same = simp level (omega arith) })

pub product_same : {a b : Frac} {n m k l : ℕ} → Same a (n // k) → Same b (m // l) → Same (a ⊗ b) ((n * m) // (k * l))
unfolding ◌⊗◌
product_same u v = same_product u v

pub numeral_same : (n d m k : ℕ) → (0 < d) × (0 < k) × (n * k ≡ m * d) → Same (n // d) (m // k)
numeral_same n d m k p = record { pos = p.0; pos' = p.1; same = p.2 }

-- ---- The factors.

tenths_same : (t : Bool) (n : ℕ) → Same (if t then n // 10 else whole 1) ((if t then n else 10) // 10)
tenths_same t n = choice_same t (numeral_same n 10 n 10 (omega arith)) (numeral_same 1 1 10 10 (omega arith))

seismic_same : (s : ℕ) → Same (seismic_factor s) (seismic_hundredths s // 100)
seismic_same s =
    choice_same (eqb s 1 || eqb s 2) (numeral_same 115 100 115 100 (omega arith))
    (choice_same (eqb s 3) (numeral_same 105 100 105 100 (omega arith)) (numeral_same 1 1 100 100 (omega arith)))

-- ---- The length.

pub basic_same : (cross apart : ℕ) (x : Mesh) → Same (exact_basic cross apart x) (basic_length cross apart x // 10000)
unfolding exact_basic basic_length
basic_same cross apart x =
    let md = same_refl (whole (multiple x.family cross x.concrete * x.d)) (omega arith) in
    product_same
    (least_same 200 (product_same (product_same md (tenths_same (eqb x.paired 1) 14)) (tenths_same (eqb apart 1) 8)))
    (seismic_same x.seismic)

-- ---- The figure is on the safe side, at less than 1 mm.

pub anchorage_safe : (x : Mesh) → NotBelow (anchorage_length x) (whole 1) (exact_anchorage x)
unfolding anchorage_length exact_anchorage
anchorage_safe x =
    same_not_below (omega arith) (same_sym (basic_same x.cross x.apart x))
    (up_not_below (basic_length x.cross x.apart x) 10000 (omega arith))
