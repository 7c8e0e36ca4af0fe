-- The groups that a count names in a list, found among its first four.
use Prim.Native.Nat.{ℕ, zero, suc, ◌≤◌}
use mathlib.Core.Path.{◌≡◌, refl, ◌∙◌}
use mathlib.Core.Bool.{true, false≢true}
use mathlib.Core.List.{List, [], ◌∷◌, ◌++◌}
use native.Mathlib.Omega.{arith}
use lib.Dec.{leb}
use lib.ListN.{length, take, length-take, replicate}
use lib.Seq.{take-take, take-append-le}
use borrow.Author.Tests.{leb-true, le-leb}
use Rattle.quantity.proofs.Choice.{both_true, same_test}
use Rattle.quantity.proofs.Reflects.{same_le}
use Rattle.bars.specs.declared.Group.{Group}
use Rattle.bars.specs.Accepted.{AcceptedGroup, AcceptedGroups}
use Rattle.field_domain.specs.Domain.{group_diameter}
use Rattle.field_domain.proofs.InRange.{in_between, a_bar}
use Rattle.lent_groups.specs.LentGroups.{group_holds, groups_hold, named_hold}
use Rattle.lent_groups.specs.CopiedGroups.{no_group, first_four}

-- the first four of a list are those of the list with four that are not there after it
abbrev padded : List Group → List Group
padded gs = gs ++ replicate 4 no_group

four_padded : (gs : List Group) → first_four gs ≡ take 4 (padded gs)
four_padded [] = refl
four_padded (g₀ ∷ []) = refl
four_padded (g₀ ∷ g₁ ∷ []) = refl
four_padded (g₀ ∷ g₁ ∷ g₂ ∷ []) = refl
four_padded (g₀ ∷ g₁ ∷ g₂ ∷ g₃ ∷ gs) = refl

-- a group that is not there has no bar's diameter: groups that hold are all in their list
all_there : (n : ℕ) (gs : List Group) → groups_hold (take n (padded gs)) ≡ true → n ≤ length gs
all_there zero gs a = omega arith
all_there (suc n) [] a = absurd (false≢true a)
all_there (suc n) (g ∷ gs) a = omega (arith, all_there n gs (both_true (group_holds g) _ a).1)

module _ (n : ℕ) (list : List Group) (h : n ≤ 4) where
  first_groups : (gs : List Group) → take n (first_four gs) ≡ take n (padded gs)
  first_groups gs = rw (four_padded gs) (take-take n 4 (padded gs) h)

  in_list : n ≤ length list → take n (first_four (take n list)) ≡ take n list
  in_list l =
      first_groups (take n list) ∙ take-append-le n (take n list) _ (simp length-take (omega arith)) ∙ take-take n n list (omega arith)

  -- the groups that a count names are those copied out
  pub named_groups : named_hold n list ≡ true → take n (first_four (take n list)) ≡ take n list
  unfolding named_hold
  named_groups e = in_list (leb-true _ _ (both_true _ _ e).0)

  -- question 7 of the copies is that of the list
  pub named_hold_lem : groups_hold (take n (first_four (take n list))) ≡ named_hold n list
  unfolding named_hold
  named_hold_lem = same_test _ _
      (λ a. let l : n ≤ length list = within a in rw (le-leb _ _ l, ← in_list l) a)
      (λ e. let l : n ≤ length list = leb-true _ _ (both_true _ _ e).0 in rw (in_list l) (both_true (leb n (length list)) _ e).1)
    where
      within : groups_hold (take n (first_four (take n list))) ≡ true → n ≤ length list
      within a = let k = all_there n (take n list) (rw (first_groups (take n list)) at a) in omega (arith, simp length-take at k)

-- lists that agree up to a count get the same answer
pub named_same : (n : ℕ) (list list' : List Group) → take n list ≡ take n list' → named_hold n list' ≡ named_hold n list
unfolding named_hold
named_same n list list' e = rw (long list, long list', e)
  where
    -- whether a list has n groups shows in its first n
    long : (gs : List Group) → leb n (length gs) ≡ leb n (length (take n gs))
    long gs = same_le n (length gs) n (length (take n gs)) (λ h. simp length-take (omega arith)) (λ h. omega (arith, simp length-take at h))

-- groups that hold are accepted
pub held_accepted : (gs : List Group) → groups_hold gs ≡ true → AcceptedGroups gs
held_accepted [] e = tt
held_accepted (g ∷ gs) e = (one (both_true (group_holds g) _ e).0, held_accepted gs (both_true (group_holds g) _ e).1)
  where
    one : group_holds g ≡ true → AcceptedGroup g
    one h =
        let t = both_true (group_diameter g.diameter) _ h in
        let n = in_between {lo = 1} {hi = 20} {x = g.bars} t.1 in
        record { diameter = a_bar 6 50 g.diameter t.0; some = n.0; most = n.1 }
