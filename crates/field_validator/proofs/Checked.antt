-- A number and the question put to it.
use Rattle.std.specs.Prelude.{Err, Ok}
use Prim.Native.Nat.{ℕ}
use mathlib.Core.Path.{◌≡◌, refl, ap}
use mathlib.Core.Bool.{Bool, true}
use mathlib.Core.List.{List}
use native.Mathlib.Omega.{arith}
use Rattle.quantity.proofs.Choice.{if_case}
use Rattle.question.specs.declared.Question.{Question}
use Rattle.varint.specs.Varint.{Number}
use Rattle.varint.specs.Varint.{number_at}
use Rattle.question.specs.Reading.{Reading, got, no, and_then, ask}
use Rattle.varint.specs.Placed.{Placed, placed, of_number}
use Rattle.field_validator.specs.FieldsAt.{checked}

-- a number passes its question, or is refused
pub on_checked : (P : Reading Question (Placed ℕ) → Type 0) (q : Question) (test : ℕ → Bool) (s : List ℕ) (p : ℕ)
    → ((x next : ℕ) → number_at s p ≡ Ok (x, next) → test x ≡ true → P (got (placed x next))) → ((r : Question) → P (no r)) → P (checked q test s p)
on_checked P q test s p passes refused = cases (number_at s p) refl
  where
    cases : (n : Number) → number_at s p ≡ n → P (and_then (of_number n) (λ x. ask q (test x.value) (got x)))
    cases (Ok (x, next)) e = if_case P (test x) _ _ (passes x next e) (λ _. refused q)
    cases (Err r) e = refused r

module _ (q : Question) (test : ℕ → Bool) (s : List ℕ) (p : ℕ) where
  pub number_passes : (x next : ℕ) → number_at s p ≡ Ok (x, next) → test x ≡ true → checked q test s p ≡ got (placed x next)
  number_passes x next e t = rw (e, t)

-- a number that was taken passed its question
pub passes : (q : Question) (test : ℕ → Bool) (s : List ℕ) (p x next : ℕ) → checked q test s p ≡ got (placed x next) → test x ≡ true
passes q test s p x next =
    on_checked (λ o. o ≡ got (placed x next) → test x ≡ true) q test s p
    (λ y after _ t e.
    let same : placed y after ≡ placed x next = cc in
    rw (← ap (λ (r : Placed ℕ). r.value) same) t)
    (λ r e. absurd (let z : ◌≡◌ {A = ℕ} 0 1 = cc in omega arith))
