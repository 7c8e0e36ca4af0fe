-- Laws of tables: a rule tested at every entry holds at each; which keys are listed; where a row stands.
use Prim.Native.Nat.{ℕ, zero, suc, ◌+◌, ◌≤◌, ◌<◌}
use mathlib.Core.Path.{◌≡◌, refl, sym, ap, ◌∙◌, subst}
use mathlib.Core.Bool.{Bool, true, false, ◌&&◌, ◌||◌}
use mathlib.Core.List.{List, [], ◌∷◌, map}
use native.Mathlib.Nat.{add-zero, zero-add, add-suc, suc-add, le_of_suc-le-suc, not-suc-le-zero}
use native.Mathlib.Omega.{arith}
use lib.Dec.{T, eqb, eqb→eq, leb, leb→le}
use lib.ListN.{length, get_or, get_or-eq_default}
use borrow.Author.Tests.{eq-eqb, ne_eqb}
use Rattle.std.specs.Prelude.{if◌then◌else◌}
use mathlib.Core.Logic.{inl, inr}
use types.Run.{OneOf}
use Rattle.table.specs.Table.{row, place, cell, listed}

-- ---- A rule of a table, by one test that computes over all of it.

pub and_left : (a b : Bool) → T (a && b) → T a
and_left true b t = tt
and_left false b t = t

pub and_right : (a b : Bool) → T (a && b) → T b
and_right true b t = t
and_right false b t = absurd t

-- every entry passes f together with its place; the first place is i
abbrev pub every : {A : Type 0} → (ℕ → A → Bool) → ℕ → List A → Bool
every f i [] = true
every f i (x ∷ xs) = f i x && every f (suc i) xs

every_from : {A : Type 0} (f : ℕ → A → Bool) (d : A) (xs : List A) (i : ℕ) → T (every f i xs) → (k : ℕ) → k < length xs → T (f (i + k) (get_or xs k d))
every_from f d [] i t k h = absurd (not-suc-le-zero h)
every_from f d (x ∷ xs) i t zero h = subst (λ (m : ℕ). T (f m x)) (sym (add-zero i)) (and_left (f i x) (every f (suc i) xs) t)
every_from f d (x ∷ xs) i t (suc k) h =
    subst (λ (m : ℕ). T (f m (get_or xs k d))) (suc-add i k ∙ sym (add-suc i k))
    (every_from f d xs (suc i) (and_right (f i x) (every f (suc i) xs) t) k (le_of_suc-le-suc h))

pub every_at : {A : Type 0} (f : ℕ → A → Bool) (d : A) (xs : List A) → T (every f 0 xs) → (k : ℕ) → k < length xs → T (f k (get_or xs k d))
every_at f d xs t k h = subst (λ (m : ℕ). T (f m (get_or xs k d))) (zero-add k) (every_from f d xs 0 t k h)

-- ---- Columns.

-- column j of a table
abbrev pub column : ℕ → List (List ℕ) → List ℕ
column j rows = map (λ (r : List ℕ). get_or r j 0) rows

-- a key among those of a table is listed, and any other is not
pub key_listed : (k : ℕ) (rows : List (List ℕ)) → OneOf (column 0 rows) k → listed k rows ≡ true
key_listed k [] h = absurd h
key_listed k (r ∷ []) h = simp (eq-eqb _ _ h)
key_listed k (r ∷ s ∷ rs) (inl h) = simp (eq-eqb _ _ h)
key_listed k (r ∷ s ∷ rs) (inr h) = go (key_listed k (s ∷ rs) h) (eqb k (get_or r 0 0))
  where
    go : listed k (s ∷ rs) ≡ true → (t : Bool) → (t || listed k (s ∷ rs)) ≡ true
    go e true = refl
    go e false = e

pub key_unlisted : (k : ℕ) (rows : List (List ℕ)) → (OneOf (column 0 rows) k → ⊥) → listed k rows ≡ false
key_unlisted k [] h = refl
key_unlisted k (r ∷ []) h = simp (ne_eqb _ _ h)
key_unlisted k (r ∷ s ∷ rs) h = simp (ne_eqb k (get_or r 0 0) (λ e. h (inl e))) (key_unlisted k (s ∷ rs) (λ o. h (inr o)))

-- the row of a listed key has that key
pub listed_key : (k : ℕ) (rows : List (List ℕ)) → listed k rows ≡ true → cell k 0 rows ≡ k
listed_key k [] e = absurd (let z : ◌≡◌ {A = ℕ} 0 1 = cc in omega arith)
listed_key k (r ∷ rs) e = go (listed_key k rs) (eqb k (get_or r 0 0)) refl e
  where
    go : (listed k rs ≡ true → cell k 0 rs ≡ k) → (t : Bool) → eqb k (get_or r 0 0) ≡ t → (t || listed k rs) ≡ true → get_or (if t then r else row k rs) 0 0 ≡ k
    go h true q e = sym (eqb→eq k (get_or r 0 0) (rw q tt))
    go h false q e = h e

-- a rule that every row of a table passes holds of the row of a listed key
pub listed_rule : (f : List ℕ → Bool) (k : ℕ) (rows : List (List ℕ)) (i : ℕ) → T (every (λ (i : ℕ) (r : List ℕ). f r) i rows) →
    listed k rows ≡ true → T (f (row k rows))
listed_rule f k [] i t e = absurd (let z : ◌≡◌ {A = ℕ} 0 1 = cc in omega arith)
listed_rule f k (r ∷ rs) i t e =
    let rest = every (λ (i : ℕ) (r : List ℕ). f r) (suc i) rs in
    go (λ h. listed_rule f k rs (suc i) (and_right (f r) rest t) h) (and_left (f r) rest t) (eqb k (get_or r 0 0)) e
  where
    go : (listed k rs ≡ true → T (f (row k rs))) → T (f r) → (t : Bool) → (t || listed k rs) ≡ true → T (f (if t then r else row k rs))
    go h u true e = u
    go h u false e = h e

-- so column j of a listed row lies between bounds that the whole column keeps
abbrev pub column_between : ℕ → ℕ → ℕ → List (List ℕ) → Bool
column_between j lo hi rows = every (λ (i : ℕ) (r : List ℕ). leb lo (get_or r j 0) && leb (get_or r j 0) hi) 0 rows

pub cell_between : (j lo hi k : ℕ) (rows : List (List ℕ)) → T (column_between j lo hi rows) → listed k rows ≡ true →
    (lo ≤ cell k j rows) × (cell k j rows ≤ hi)
cell_between j lo hi k rows t e =
    let u = listed_rule (λ (r : List ℕ). leb lo (get_or r j 0) && leb (get_or r j 0) hi) k rows 0 t e in
    let a = leb lo (cell k j rows) in
    let b = leb (cell k j rows) hi in
    (leb→le lo (cell k j rows) (and_left a b u), leb→le (cell k j rows) hi (and_right a b u))

pub key_between : (lo hi k : ℕ) (rows : List (List ℕ)) → T (column_between 0 lo hi rows) → listed k rows ≡ true → (lo ≤ k) × (k ≤ hi)
key_between lo hi k rows t e = rw (listed_key k rows e) at (cell_between 0 lo hi k rows t e)

-- ---- The place of a row.

pub row_at_place : (k : ℕ) (rows : List (List ℕ)) → get_or rows (place k rows) [] ≡ row k rows
row_at_place k [] = refl
row_at_place k (r ∷ rs) = go (row_at_place k rs) (eqb k (get_or r 0 0))
  where
    go : get_or rs (place k rs) [] ≡ row k rs → (t : Bool) → get_or (r ∷ rs) (if t then 0 else suc (place k rs)) [] ≡ (if t then r else row k rs)
    go h true = refl
    go h false = h

-- a key that is not listed has the place past the last row
pub unlisted_place : (k : ℕ) (rows : List (List ℕ)) → listed k rows ≡ false → place k rows ≡ length rows
unlisted_place k [] e = refl
unlisted_place k (r ∷ rs) e = go (unlisted_place k rs) (eqb k (get_or r 0 0)) e
  where
    go : (listed k rs ≡ false → place k rs ≡ length rs) → (t : Bool) → (t || listed k rs) ≡ false → (if t then 0 else suc (place k rs)) ≡ suc (length rs)
    go h true e = absurd (let z : ◌≡◌ {A = ℕ} 0 1 = cc in omega arith)
    go h false e = ap suc (h e)

-- past the last row every column is 0, as for a key that is not listed
pub past_rows : (rows : List (List ℕ)) (j : ℕ) {i : ℕ} → length rows ≤ i → get_or (get_or rows i []) j 0 ≡ 0
past_rows rows j h = ap (λ (r : List ℕ). get_or r j 0) (get_or-eq_default rows [] h)

pub unlisted_cell : (k j : ℕ) (rows : List (List ℕ)) → listed k rows ≡ false → cell k j rows ≡ 0
unlisted_cell k j rows e = rw (← row_at_place k rows) (past_rows rows j (omega (arith, unlisted_place k rows e)))

-- what holds of the cell of a listed key and of 0 holds of any cell
pub cell_case : (P : ℕ → Type 0) (k j : ℕ) (rows : List (List ℕ)) → (listed k rows ≡ true → P (cell k j rows)) → P 0 → P (cell k j rows)
cell_case P k j rows f z = go (listed k rows) refl
  where
    go : (t : Bool) → listed k rows ≡ t → P (cell k j rows)
    go true e = f e
    go false e = rw (unlisted_cell k j rows e) z
