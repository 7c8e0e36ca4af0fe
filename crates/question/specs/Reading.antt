-- What a reading comes to: a value, or the first question that is answered no.
use Rattle.std.specs.Prelude.{ℕ, Bool, if◌then◌else◌, Err, Ok, Result}
use Rattle.question.specs.declared.Question.{Question}
use Rattle.question.specs.declared.Refusal.{Refusal}

pub data Reading (N A : Type 0) : Type 0 where
  got : A → Reading N A
  no : N → Reading N A

-- no question was answered no
unfoldable pub Got : {N A : Type 0} → Reading N A → Type 0
Got (got a) = Unit {0}
Got (no q) = ⊥

-- goes on with what was read
abbrev pub and_then : {N A B : Type 0} → Reading N A → (A → Reading N B) → Reading N B
and_then (got a) f = f a
and_then (no q) f = no q

-- question q is put: a no ends the reading
abbrev pub ask : {N A : Type 0} → N → Bool → Reading N A → Reading N A
ask q holds next = if holds then next else no q

-- what questions put one after the other come to: all are passed, or the first that is answered no
abbrev pub Verdict : Type 0
Verdict = Result (Unit {0}) Question

-- a verdict on what was read
abbrev pub passed : {A : Type 0} → Verdict → Reading Question A → Reading Question A
passed (Ok tt) next = next
passed (Err q) next = no q

-- a no of member i names it
abbrev pub refusal : Question → ℕ → Refusal
refusal q i = record { question = q; member = i }

abbrev pub named : {A : Type 0} → ℕ → Reading Question A → Reading Refusal A
named i (got a) = got a
named i (no q) = no (refusal q i)
