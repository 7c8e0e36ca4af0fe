-- Laws of lists whose every element satisfies P.
use Prim.Native.Nat.{ℕ, zero, suc, ◌≤◌}
use mathlib.Core.List.{List, [], ◌∷◌, ◌++◌, map}
use native.Mathlib.Omega.{arith}
use lib.ListN.{length, take, get_or}
use Rattle.quantity.specs.All.{All}

module _ {A : Type 0} (P : A → Type 0) where
  pub all_append : (xs ys : List A) → All P xs → All P ys → All P (xs ++ ys)
  all_append [] ys a b = b
  all_append (x ∷ xs) ys a b = (a.0, all_append xs ys a.1 b)

  pub all_take : (n : ℕ) (xs : List A) → All P xs → All P (take n xs)
  all_take zero xs a = tt
  all_take (suc n) [] a = tt
  all_take (suc n) (x ∷ xs) a = (a.0, all_take n xs a.1)

  -- the one at i, or d past the end
  pub all_at : (xs : List A) → All P xs → (i : ℕ) (d : A) → (length xs ≤ i → P d) → P (get_or xs i d)
  all_at [] a i d f = f (omega arith)
  all_at (x ∷ xs) a zero d f = a.0
  all_at (x ∷ xs) a (suc i) d f = all_at xs a.1 i d (λ h. f (omega arith))

  pub all_weaken : (Q : A → Type 0) → ((x : A) → P x → Q x) → (xs : List A) → All P xs → All Q xs
  all_weaken Q f [] a = tt
  all_weaken Q f (x ∷ xs) a = (f x a.0, all_weaken Q f xs a.1)

  pub all_map : {B : Type 0} (Q : B → Type 0) (f : A → B) → ((x : A) → P x → Q (f x)) → (xs : List A) → All P xs → All Q (map f xs)
  all_map Q f p [] a = tt
  all_map Q f p (x ∷ xs) a = (p x a.0, all_map Q f p xs a.1)

-- each image satisfies Q
pub all_images : {A B : Type 0} (Q : B → Type 0) (f : A → B) → ((x : A) → Q (f x)) → (xs : List A) → All Q (map f xs)
all_images Q f p [] = tt
all_images Q f p (x ∷ xs) = (p x, all_images Q f p xs)
