-- Bytes: between a test of each and a fact of each; those that are no separator.
use Prim.Native.Nat.{ℕ, ◌≤◌, ◌<◌}
use mathlib.Core.Path.{◌≡◌, refl}
use mathlib.Core.Bool.{Bool, true}
use mathlib.Core.List.{List, [], ◌∷◌}
use lib.Dec.{ltb}
use native.Mathlib.Omega.{arith}
use borrow.Author.Tests.{ltb-true}
use Rattle.quantity.specs.All.{All}
use Rattle.quantity.proofs.All.{all_weaken}
use Rattle.quantity.proofs.Choice.{both_true}
use Rattle.text.specs.Text.{every}

module _ {P : ℕ → Type 0} (test : ℕ → Bool) where
  pub all_every : ((b : ℕ) → P b → test b ≡ true) → (s : List ℕ) → All P s → every test s ≡ true
  unfolding every
  all_every f [] a = refl
  all_every f (b ∷ s) a = rw (f b a.0) (all_every f s a.1)

  pub every_all : ((b : ℕ) → test b ≡ true → P b) → (s : List ℕ) → every test s ≡ true → All P s
  unfolding every
  every_all f [] e = tt
  every_all f (b ∷ s) e = let t = both_true (test b) _ e in (f b t.0, every_all f s t.1)

-- any byte but c
abbrev pub Not : ℕ → ℕ → Type 0
Not c b = b ≡ c → ⊥

-- a byte above the blank, and so above the newline
abbrev pub Graphic : ℕ → Type 0
Graphic b = 32 < b

pub graphic_free : (c : ℕ) (s : List ℕ) → c ≤ 32 → All Graphic s → All (Not c) s
graphic_free c s h a = all_weaken Graphic (Not c) (λ b p e. omega arith) s a

-- for bytes that are written out, `graphic s refl`
pub graphic : (s : List ℕ) → every (ltb 32) s ≡ true → All Graphic s
graphic s e = every_all (ltb 32) (ltb-true 32) s e
