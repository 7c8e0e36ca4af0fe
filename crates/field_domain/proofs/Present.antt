-- Whether a field is there turns on the slot of its count alone; one that is there holds a number of its domain.
use Prim.Native.Nat.{ℕ, ◌<◌}
use mathlib.Core.Path.{◌≡◌, refl}
use mathlib.Core.Bool.{Bool, true, ◌&&◌, false≢true}
use mathlib.Core.List.{List}
use lib.Dec.{ltb}
use lib.ListN.{get_or}
use borrow.Author.Tests.{ltb-true}
use Rattle.quantity.proofs.Choice.{both_true}
use Rattle.field_domain.specs.declared.Domain.{Domain}
use Rattle.field_domain.specs.Domain.{Presence, always, counted, presence, is_always, present, holds, is_present, field_holds}

-- `isCount` says which slots may hold a count.
module _ (isCount : ℕ → Bool) where
  -- a count stands below slot i
  abbrev pub count_below : Presence → ℕ → Bool
  count_below always i = true
  count_below (counted count place) i = isCount count && ltb count i

  -- v and w have the same counts below slot i
  abbrev pub SameCounts : ℕ → List ℕ → List ℕ → Type 0
  SameCounts i v w = (j : ℕ) → isCount j ≡ true → j < i → get_or w j 0 ≡ get_or v j 0

  pub present_same : (d : Domain) (i : ℕ) (v w : List ℕ) → count_below (presence d) i ≡ true → SameCounts i v w → is_present d w ≡ is_present d v
  unfolding is_present
  present_same d i v w b same = of (presence d) b
    where
      of : (p : Presence) → count_below p i ≡ true → present p w ≡ present p v
      of always e = refl
      of (counted count place) e = let t = both_true (isCount count) (ltb count i) e in rw (same count t.0 (ltb-true count i t.1))

-- any slot may
abbrev pub any_slot : ℕ → Bool
any_slot j = true

pub present_holds : (d : Domain) (i : ℕ) (v : List ℕ) → is_present d v ≡ true → field_holds d i v ≡ true → holds d (get_or v i 0) ≡ true
unfolding field_holds
present_holds d i v p e = rw p at e

pub always_present : (d : Domain) (v : List ℕ) → is_always (presence d) ≡ true → is_present d v ≡ true
unfolding is_present
always_present d v e = of (presence d) e
  where
    of : (p : Presence) → is_always p ≡ true → present p v ≡ true
    of always e = refl
    of (counted count place) e = absurd (false≢true e)
