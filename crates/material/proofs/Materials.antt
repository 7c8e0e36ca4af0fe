-- The tables of materials: every listed concrete and steel has usable values; the grades stand 5 apart.
use Prim.Native.Nat.{ℕ, ◌%◌, ◌≤◌}
use mathlib.Core.Path.{◌≡◌, subst}
use mathlib.Core.Bool.{true}
use mathlib.Core.List.{List}
use native.Mathlib.Omega.{arith}
use lib.Dec.{eqb, eqb→eq}
use lib.ListN.{get_or}
use Rattle.quantity.specs.Unit.{stress_of}
use Rattle.quantity.proofs.Rounding.{down_multiple}
use Rattle.table.specs.Table.{cell, listed}
use Rattle.material.specs.Concrete.{concretes, concrete_of}
use Rattle.material.specs.Steel.{steels, steel_of, link_steels, fyv_of}
use Rattle.material.specs.Bounds.{WholeUpTo, UsableConcrete, UsableSteel}
use Rattle.table.proofs.Table.{cell_between, key_between, listed_key, listed_rule}

whole : (x n : ℕ) → x ≤ n → WholeUpTo n (stress_of x)
whole x n h = record { most = rw (down_multiple 100 x (omega arith)) h; exact = rw (down_multiple 100 x (omega arith)) }

pub usable_concrete : (grade : ℕ) → listed grade concretes ≡ true → UsableConcrete (concrete_of grade)
unfolding concrete_of
usable_concrete grade e =
    let fc = cell_between 1 1 400 grade concretes tt e in
    let ec = cell_between 4 25500 40000 grade concretes tt e in
    let tenths = down_multiple 10 (cell grade 1 concretes) (omega arith) in
    record {
      fc_least = rw tenths fc.0;
      fc_most = rw tenths fc.1;
      fc_exact = rw tenths;
      ft_most = (cell_between 2 0 400 grade concretes tt e).1;
      ftk_most = (cell_between 3 0 400 grade concretes tt e).1;
      ec_least = rw (down_multiple 100 (cell grade 4 concretes) (omega arith)) ec.0;
      ec = whole (cell grade 4 concretes) 40000 ec.1;
    }

pub usable_steel : (code : ℕ) → listed code steels ≡ true → UsableSteel (steel_of code)
unfolding steel_of
usable_steel code e =
    record {
      fyk = whole (cell code 1 steels) 600 (cell_between 1 0 600 code steels tt e).1;
      fy = whole (cell code 2 steels) 600 (cell_between 2 0 600 code steels tt e).1;
      fyc = whole (cell code 3 steels) 600 (cell_between 3 0 600 code steels tt e).1;
      axial = whole (cell code 4 steels) 600 (cell_between 4 0 600 code steels tt e).1;
      depth_least = (cell_between 5 1 99 code steels tt e).0;
      depth_most = (cell_between 5 1 99 code steels tt e).1;
    }

pub usable_links : (code : ℕ) → listed code link_steels ≡ true → WholeUpTo 600 (fyv_of code)
unfolding fyv_of
usable_links code e = whole (cell code 1 link_steels) 600 (cell_between 1 0 600 code link_steels tt e).1

-- ---- The grades stand 5 apart, from 20 on.

pub grade_between : (grade : ℕ) → listed grade concretes ≡ true → (20 ≤ grade) × (grade ≤ 100)
grade_between grade e = key_between 20 100 grade concretes tt e

pub grade_multiple : (grade : ℕ) → listed grade concretes ≡ true → grade % 5 ≡ 0
grade_multiple grade e =
    subst (λ (n : ℕ). n % 5 ≡ 0) (listed_key grade concretes e)
    (eqb→eq _ _ (listed_rule (λ (r : List ℕ). eqb (get_or r 0 0 % 5) 0) grade concretes 0 tt e))
