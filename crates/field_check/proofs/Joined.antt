-- Question 7 of fields one after the other.
use Prim.Native.Nat.{ℕ, zero, suc, ◌+◌, ◌<◌, zero-le}
use mathlib.Core.Path.{◌≡◌, refl, sym, ◌∙◌}
use mathlib.Core.Bool.{Bool, true, false, ◌&&◌}
use mathlib.Core.List.{List, [], ◌∷◌, ◌++◌}
use native.Mathlib.Nat.{add-zero, zero-add}
use Rattle.std.proofs.lemmas.List.FromFn.{length-range_with_len, get_or-range_with_len}
use native.Mathlib.Omega.{arith}
use Rattle.std.specs.Bool.{MatchBool}
use Rattle.std.specs.List.{range_with_len, AllWithin, HoldsAt}
use Rattle.quantity.proofs.Choice.{and_true, and_false, and_assoc}
use lib.ListN.{length, get_or}
use Rattle.field_domain.specs.declared.Domain.{Domain}
use Rattle.field_domain.specs.declared.Domain.TheVariants.{Grade}
use Rattle.field_domain.specs.Domain.{field_holds}
use Rattle.field_check.specs.FieldCheck.{fields_hold}

-- a table in two parts
pub holds_append : (xs ys : List Domain) (i : ℕ) (v : List ℕ) → fields_hold (xs ++ ys) i v ≡ (fields_hold xs i v && fields_hold ys (i + length xs) v)
holds_append [] ys i v = rw (add-zero i)
holds_append (x ∷ xs) ys i v =
    let e : i + 1 + length xs ≡ i + length (x ∷ xs) = omega arith in
    rw (holds_append xs ys (i + 1) v, e) (sym (and_assoc (field_holds x i v) _ _))

-- field k of a table whose first field stands in slot i
abbrev pub held_at : List Domain → ℕ → List ℕ → ℕ → Bool
held_at ds i v k = field_holds (get_or ds k Grade) (i + k) v

pub all_hold : (ds : List Domain) (i : ℕ) (v : List ℕ) → ((k : ℕ) → k < length ds → held_at ds i v k ≡ true) → fields_hold ds i v ≡ true
all_hold [] i v h = refl
all_hold (d ∷ ds) i v h =
    let first : field_holds d (i + 0) v ≡ true = h 0 (omega arith) in
    let rest : (k : ℕ) → k < length ds → held_at ds (i + 1) v k ≡ true = λ k l. let e : i + 1 + k ≡ i + suc k = omega arith in rw e (h (suc k) (omega arith)) in
    rw (rw (add-zero i) at first, all_hold ds (i + 1) v rest)

pub one_fails : (ds : List Domain) (i : ℕ) (v : List ℕ) (k : ℕ) → k < length ds → held_at ds i v k ≡ false → fields_hold ds i v ≡ false
one_fails [] i v k l e = absurd (omega (arith, l))
one_fails (d ∷ ds) i v zero l e = rw (rw (add-zero i) at e)
one_fails (d ∷ ds) i v (suc k) l e =
    let at : i + 1 + k ≡ i + suc k = omega arith in
    rw (one_fails ds (i + 1) v k (omega arith) (rw at e)) (and_false (field_holds d i v))

-- what a walk over the places of the fields came to
pub walked : (ds : List Domain) (v : List ℕ) (n : ℕ) (r : Bool) → n ≡ length ds
    → MatchBool r (AllWithin (λ k. held_at ds 0 v k ≡ true) (range_with_len 0 n) 0 (length (range_with_len 0 n)))
    ((k : ℕ) × (k < length (range_with_len 0 n)) × HoldsAt (λ k. held_at ds 0 v k ≡ false) (range_with_len 0 n) k)
    → r ≡ fields_hold ds 0 v
walked ds v n true e h =
    let each : (k : ℕ) → k < length ds → held_at ds 0 v k ≡ true = λ k l.
    let m : k < n = omega arith in
    rw (get_or-range_with_len 0 n k 0 m, zero-add k) at (h k 0 zero-le (rw (length-range_with_len 0 n) m)) in
    sym (all_hold ds 0 v each)
walked ds v n false e h =
    let m : h.0 < n = rw (length-range_with_len 0 n) at h.1 in
    sym (one_fails ds 0 v h.0 (rw e at m) (rw (get_or-range_with_len 0 n h.0 0 m, zero-add h.0) at (h.2 0)))

-- ---- Fields joined from the last to the first; no proof cites these two.

-- field before field: the last one stands alone, the definition ends in true after it
abbrev pub joined : List Domain → ℕ → List ℕ → Bool
joined [] i v = true
joined (d ∷ []) i v = field_holds d i v
joined (d ∷ e ∷ ds) i v = field_holds d i v && joined (e ∷ ds) (i + 1) v

pub joined_hold : (fs : List Domain) (i : ℕ) (v : List ℕ) → joined fs i v ≡ fields_hold fs i v
joined_hold [] i v = refl
joined_hold (d ∷ []) i v = sym (and_true (field_holds d i v))
joined_hold (d ∷ e ∷ ds) i v = rw (joined_hold (e ∷ ds) (i + 1) v)

-- a part, and what those after it come to
pub part_then : (xs ys : List Domain) (i : ℕ) (v : List ℕ) {s t r : Bool} → s ≡ fields_hold xs i v → t ≡ fields_hold ys (i + length xs) v → r ≡ (s && t)
    → r ≡ fields_hold (xs ++ ys) i v
part_then xs ys i v e f g = g ∙ rw (e, f) (sym (holds_append xs ys i v))
