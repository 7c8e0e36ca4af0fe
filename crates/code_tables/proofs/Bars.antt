-- The table of bars: its areas by formula, and its rule.
use Prim.Native.Nat.{ℕ, ◌+◌, ◌*◌, ◌/◌, ◌≤◌, ◌<◌}
use mathlib.Core.Path.{◌≡◌, ap, ◌∙◌}
use mathlib.Core.Bool.{true, false, ◌||◌}
use borrow.Author.Tests.{le-ltb}
use mathlib.Core.List.{List}
use native.Mathlib.Nat.{mul_assoc, mul-le-mul, mul-le-mul_left}
use native.Mathlib.Omega.{arith}
use lib.Dec.{eqb, eqb→eq, leb, leb→le, ltb}
use lib.ListN.{get_or}
use Rattle.table.specs.Table.{cell, listed}
use Rattle.code_tables.specs.Bars.{bars, area_of}
use Rattle.table.proofs.Table.{listed_rule, listed_key, unlisted_cell, cell_case, cell_between, key_between}

-- every area of the table is 0.7854·d², rounded to a tenth of mm²
unfoldable pub rounded : ℕ → ℕ
rounded d = (7854 * d * d + 500) / 1000

pub listed_area : (d : ℕ) → listed d bars ≡ true → area_of d ≡ rounded d
unfolding area_of rounded
listed_area d e =
    eqb→eq _ _ (listed_rule (λ (r : List ℕ). eqb (get_or r 1 0) (rounded (get_or r 0 0))) d bars 0 tt e) ∙ ap rounded (listed_key d bars e)

pub unlisted_area : (d : ℕ) → listed d bars ≡ false → area_of d ≡ 0
unfolding area_of
unlisted_area d e = unlisted_cell d 1 bars e

-- a diameter with an area is listed
pub area_listed : (d : ℕ) → 0 < area_of d → listed d bars ≡ true
unfolding area_of
area_listed d = cell_case (λ (n : ℕ). 0 < n → listed d bars ≡ true) d 1 bars (λ e h. e) (λ h. absurd (omega arith))

-- what the formula multiplies stays small
pub square_most : (d : ℕ) → listed d bars ≡ true → (d ≤ 50) × (7854 * d * d ≤ 19635000)
square_most d e =
    let h : d ≤ 50 = (key_between 0 50 d bars tt e).1 in
    (h, rw (mul_assoc 7854 d d) (mul-le-mul_left 7854 (mul-le-mul h h)))

-- no bar is larger than the last of the table
pub area_most : (d : ℕ) → area_of d ≤ 19635
unfolding area_of
area_most d = cell_case (λ (n : ℕ). n ≤ 19635) d 1 bars (λ e. (cell_between 1 0 19635 d bars tt e).1) (omega arith)

-- a diameter with an area has at least that of the first of the table
pub area_least : (d : ℕ) → 0 < area_of d → 196 ≤ area_of d
unfolding area_of
area_least d = cell_case (λ (n : ℕ). 0 < n → 196 ≤ n) d 1 bars (λ e h. (cell_between 1 196 19635 d bars tt e).0) (λ h. absurd (omega arith))

-- no bar up to 12 mm is larger than that of 12 mm
pub link_area_most : (d : ℕ) → d ≤ 12 → area_of d ≤ 1131
unfolding area_of
link_area_most d h =
    cell_case (λ (n : ℕ). n ≤ 1131) d 1 bars
    (λ e.
    let t = listed_rule (λ (r : List ℕ). ltb 12 (get_or r 0 0) || leb (get_or r 1 0) 1131) d bars 0 tt e in
    leb→le (cell d 1 bars) 1131 (rw (listed_key d bars e, le-ltb 12 d h) at t))
    (omega arith)
