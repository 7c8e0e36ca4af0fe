-- What the answer of a test says: the statement that it tests where it holds, and something else where it fails, as a rule that the
-- statement does not hold.
use Prim.Native.Nat.{ℕ, ◌≤◌, ◌<◌}
use mathlib.Core.Path.{◌≡◌, refl}
use mathlib.Core.Bool.{Bool, true, false, ◌&&◌, true≢false, false≢true}
use native.Mathlib.Nat.{not-le_of_lt}
use lib.Dec.{leb, ltb}
use borrow.Author.Tests.{leb-true, leb-false, le-leb, ltb-true, ltb-false}
use Rattle.std.specs.Prelude.{if◌then◌else◌}
use Rattle.quantity.proofs.Choice.{else_case, same_test}

-- P where t holds, N where it fails
pub record Settles (t : Bool) (P N : Type 0) : Type 0 where
  pub holds : t ≡ true → P
  pub fails : t ≡ false → N

-- t holds exactly where P does
abbrev pub Reflects : Bool → Type 0 → Type 0
Reflects t P = Settles t P (P → ⊥)

pub settles_as : {t : Bool} {P N P' N' : Type 0} → (P → P') → (N → N') → Settles t P N → Settles t P' N'
settles_as f g s = record { holds = λ e. f (s.holds e); fails = λ e. g (s.fails e) }

-- a test in a chain: what its answer says is at hand in either case
pub settled_case : {A : Type 0} (W : A → Type 0) {t : Bool} {P N : Type 0} {x y : A} → Settles t P N → (N → W y) → (P → W x) → W (if t then x else y)
settled_case W {t} s f g = else_case W t (λ e. f (s.fails e)) (λ e. g (s.holds e))

-- ---- Comparisons, and tests joined.

pub compared : (a b : ℕ) → Settles (leb a b) (a ≤ b) (b < a)
compared a b = record { holds = leb-true a b; fails = leb-false a b }

pub reflects_le : (a b : ℕ) → Reflects (leb a b) (a ≤ b)
reflects_le a b = settles_as (λ h. h) not-le_of_lt (compared a b)

-- two comparisons that hold together are the same test
pub same_le : (a b m n : ℕ) → (a ≤ b → m ≤ n) → (m ≤ n → a ≤ b) → leb a b ≡ leb m n
same_le a b m n f g = same_test (leb a b) (leb m n) (λ e. le-leb m n (f (leb-true a b e))) (λ e. le-leb a b (g (leb-true m n e)))

pub reflects_lt : (a b : ℕ) → Reflects (ltb a b) (a < b)
reflects_lt a b = record { holds = ltb-true a b; fails = λ e h. not-le_of_lt h (ltb-false a b e) }

pub reflects_both : {t u : Bool} {P Q : Type 0} → Reflects t P → Reflects u Q → Reflects (t && u) (P × Q)
reflects_both {t = true} r s = record { holds = λ e. (r.holds refl, s.holds e); fails = λ e p. s.fails e p.1 }
reflects_both {t = false} r s = record { holds = λ e. absurd (false≢true e); fails = λ e p. r.fails refl p.0 }

-- a test that counts where another one holds
pub reflects_where : {t u : Bool} {P Q : Type 0} → Reflects t P → Reflects u Q → Reflects (if t then u else true) (P → Q)
reflects_where {t = true} r s = record { holds = λ e p. s.holds e; fails = λ e f. s.fails e (f (r.holds refl)) }
reflects_where {t = false} r s = record { holds = λ e p. absurd (r.fails refl p); fails = λ e f. true≢false e }
