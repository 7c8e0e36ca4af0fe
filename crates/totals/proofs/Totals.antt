-- The totals of groups copied out of a list are the list's.
use Prim.Native.Nat.{ℕ, zero, suc, ◌≤◌, ◌<◌}
use mathlib.Core.Path.{◌≡◌, refl, sym}
use mathlib.Core.Bool.{Bool, true, false, ◌&&◌}
use mathlib.Core.List.{List, [], ◌∷◌}
use native.Mathlib.Nat.{not-suc-le-zero}
use native.Mathlib.Omega.{arith}
use Rattle.std.specs.Bool.{MatchBool}
use Rattle.std.specs.List.{AllWithin, HoldsAt}
use lib.Dec.{leb}
use lib.ListN.{length, get_or, take}
use borrow.Author.Tests.{leb-true, le-leb}
use Rattle.std.specs.Prelude.{if◌then◌else◌}
use Rattle.quantity.proofs.Choice.{and_false}
use Rattle.bars.specs.declared.Group.{Group}
use Rattle.lent_groups.specs.LentGroups.{group_holds, groups_hold, named_hold}
use Rattle.lent_groups.specs.CopiedGroups.{no_group, first_four}
use Rattle.lent_groups.proofs.Named.{named_groups, named_hold_lem}
use Rattle.totals.specs.Totals.{totals_given, totals_refused, bar_totals}

-- what a walk over groups came to
all_hold : (gs : List Group) → ((k : ℕ) → k < length gs → group_holds (get_or gs k no_group) ≡ true) → groups_hold gs ≡ true
all_hold [] h = refl
all_hold (g ∷ gs) h =
    let first : group_holds g ≡ true = h 0 (omega arith) in
    rw (first, all_hold gs (λ k l. h (suc k) (omega arith)))

one_fails : (gs : List Group) (k : ℕ) → k < length gs → group_holds (get_or gs k no_group) ≡ false → groups_hold gs ≡ false
one_fails [] k l e = absurd (not-suc-le-zero l)
one_fails (g ∷ gs) zero l e = rw e
one_fails (g ∷ gs) (suc k) l e = rw (one_fails gs k (omega arith) e) (and_false (group_holds g))

pub walked : (gs : List Group) (r : Bool)
    → MatchBool r (AllWithin (λ g. group_holds g ≡ true) gs 0 (length gs)) ((k : ℕ) × (k < length gs) × HoldsAt (λ g. group_holds g ≡ false) gs k)
    → r ≡ groups_hold gs
walked gs true h = sym (all_hold gs (λ k l. h k no_group (omega arith) l))
walked gs false h = sym (one_fails gs h.0 h.1 (h.2 no_group))

-- of four groups, no count up to 4 is above their number
pub four_hold : (n : ℕ) (gs : List Group) → length gs ≡ 4 → n ≤ 4 → named_hold n gs ≡ groups_hold (take n gs)
unfolding named_hold
four_hold n gs e h = rw (e, le-leb n 4 h)

pub copied_totals : (n : ℕ) (list : List Group) {gs : List Group} → gs ≡ first_four (take n list) → bar_totals n gs ≡ bar_totals n list
unfolding bar_totals
copied_totals n list e = rw e (of_count (leb n 4) refl)
  where
    of_groups : n ≤ 4 → (b : Bool) → named_hold n list ≡ b
        → (if b then totals_given (take n (first_four (take n list))) else totals_refused) ≡ (if b then totals_given (take n list) else totals_refused)
    of_groups h true k = rw (named_groups n list h k)
    of_groups h false k = refl

    of_count : (b : Bool) → leb n 4 ≡ b
        → (if b && named_hold n (first_four (take n list)) then totals_given (take n (first_four (take n list))) else totals_refused)
        ≡ (if b && named_hold n list then totals_given (take n list) else totals_refused)
    of_count true k = let h = leb-true n 4 k in rw (four_hold n (first_four (take n list)) refl h, named_hold_lem n list h) (of_groups h (named_hold n list) refl)
    of_count false k = refl
