-- Members that are accepted, one after the other.
use Rattle.std.specs.Prelude.{ℕ, zero, suc, List}
use Rattle.std.specs.Coded.{Unit-prop}
use Rattle.question.specs.declared.Question.{Question}
use Rattle.question.specs.Reading.{Reading, got, no}
use Rattle.varint.specs.Placed.{Placed}
use Rattle.verdict.specs.declared.Built.{Built}
use Rattle.members.specs.Members.{member}

-- n accepted members stand from p on, whatever the order of their marks
abbrev pub AcceptedThen : Reading Question (Placed Built) → (Placed Built → Type 0) → Type 0
AcceptedThen (got b) rest = rest b
AcceptedThen (no q) rest = ⊥

unfoldable pub AcceptedFrom : ℕ → List ℕ → ℕ → Type 0
AcceptedFrom zero src p = Unit {0}
AcceptedFrom (suc n) src p = AcceptedThen (member src p 0) (λ b. AcceptedFrom n src b.next)

-- they are so in at most one way: what a field of a structure asks of the fact that it holds
accepted_then_prop : (o : Reading Question (Placed Built)) (rest : Placed Built → Type 0) → ((b : Placed Built) → IsProp (rest b)) → IsProp (AcceptedThen o rest)
accepted_then_prop (got b) rest p = p b
accepted_then_prop (no q) rest p = λ x y. absurd x

pub accepted_from_prop : (n : ℕ) (src : List ℕ) (p : ℕ) → IsProp (AcceptedFrom n src p)
unfolding AcceptedFrom
accepted_from_prop zero src p = Unit-prop
accepted_from_prop (suc n) src p = accepted_then_prop (member src p 0) _ (λ b. accepted_from_prop n src b.next)
