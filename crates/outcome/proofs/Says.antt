-- What the check of an outcome says of its member: OK that every inequality holds, any other check that it may be named.
use mathlib.Core.Path.{◌≡◌, sym, ap, ◌∙◌}
use mathlib.Core.Bool.{Bool, false, false≢true}
use lib.Dec.{eqb}
use lib.ListN.{length}
use Rattle.outcome.specs.declared.Check.{Check}
use Rattle.outcome.specs.declared.Check.TheVariants.{Passed}
use Rattle.outcome.specs.Outcome.{name_of}

-- by its name: no other is as short as OK
abbrev pub is_passed : Check → Bool
is_passed k = eqb (length (name_of k)) 2

-- `Holds`: every inequality of the member; `MayName`: the checks that may be named
pub data Says (Holds : Type 0) (MayName : Check → Type 0) : Check → Type 0 where
  passed : Holds → Says Holds MayName Passed
  failed : {k : Check} → is_passed k ≡ false → MayName k → Says Holds MayName k

module _ {Holds : Type 0} {MayName : Check → Type 0} where
  pub says_holds : {k : Check} → Says Holds MayName k → k ≡ Passed → Holds
  says_holds (passed h) e = h
  says_holds (failed f m) e = absurd (false≢true (sym f ∙ ap is_passed e))

  pub says_named : {k : Check} → MayName Passed → Says Holds MayName k → MayName k
  says_named none (passed h) = none
  says_named none (failed f m) = m
