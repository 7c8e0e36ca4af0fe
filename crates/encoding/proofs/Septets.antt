-- The septets of a number, as the loop of `put_number` puts them.
use Prim.Native.Nat.{ℕ, zero, suc, ◌+◌, ◌/◌, ◌%◌, ◌^◌, ◌≤◌, ◌<◌}
use mathlib.Core.Path.{◌≡◌, sym, ap, ◌∙◌}
use mathlib.Core.List.{List, [], ◌∷◌}
use native.Mathlib.Nat.{pow-suc}
use native.Mathlib.Omega.{arith}
use Rattle.text.proofs.Decimal.{lt_or_le}
use Rattle.varint.specs.Encoding.{septets_of, bytes_of}
use Rattle.varint.proofs.Encoded.{one_septet, more_septets}

-- any bound that is large enough gives the same
septets_enough : (j k v : ℕ) → v < 128 ^ suc j → v < 128 ^ suc k → septets_of j v ≡ septets_of k v
septets_enough zero k v h g = one_septet zero v (omega arith) ∙ sym (one_septet k v (omega arith))
septets_enough (suc j) zero v h g = one_septet (suc j) v (omega arith) ∙ sym (one_septet zero v (omega arith))
septets_enough (suc j) (suc k) v h g =
    lt_or_le v 128 (λ l. one_septet (suc j) v l ∙ sym (one_septet (suc k) v l))
    (λ l. rw (more_septets j v l, more_septets k v l, septets_enough j k (v / 128) (omega (arith, pow-suc 128 (suc j))) (omega (arith, pow-suc 128 (suc k)))))

-- the lowest septet first
pub next_septet : (v : ℕ) → v < 2 ^ 32 → 128 ≤ v → bytes_of v ≡ (v % 128 + 128) ∷ bytes_of (v / 128)
unfolding bytes_of
next_septet v h g =
    more_septets 3 v g ∙ ap (λ (t : List ℕ). (v % 128 + 128) ∷ t) (septets_enough 3 4 (v / 128) (omega arith) (omega arith))

pub last_septet : (v : ℕ) → v < 128 → bytes_of v ≡ v ∷ []
unfolding bytes_of
last_septet v h = one_septet 4 v h
