-- A number that is known to be read, septet by septet.
use Prim.Native.Nat.{ℕ, zero, suc, ◌+◌, ◌-◌, ◌*◌, ◌^◌, ◌≤◌, ◌<◌}
use mathlib.Core.Path.{◌≡◌, refl, sym, ap, ◌∙◌}
use mathlib.Core.List.{List}
use mathlib.Core.Logic.{⊎_elim}
use native.Mathlib.Nat.{pow-suc}
use native.Mathlib.Omega.{arith}
use lib.ListN.{length, get_or}
use Rattle.std.specs.Prelude.{Err, Ok}
use Rattle.question.specs.Reading.{Got}
use Rattle.varint.specs.Varint.{Number, number_at, septets_at}
use Rattle.varint.specs.Placed.{of_number}
use Rattle.varint.proofs.Septets.{Cases, septets_inv, refused_no_value, last_septet_at, septet_follows, only_septet, from_second, from_third, weight}

record WasValue (n : Number) : Type 0 where
  value : ℕ
  next : ℕ
  was : n ≡ Ok (value, next)

was_value : (n : Number) → Got (of_number n) → WasValue n
unfolding Got
was_value (Ok (x, next)) ok = record { value = x; next = next; was = refl }
was_value (Err q) ok = absurd ok

-- The septet at p is read: b, of weight w, on the value v of the septets below it; `left` may follow.
module _ (s : List ℕ) (left p w v : ℕ) (ok : Got (of_number (septets_at (suc left) s p w v))) where
  number : WasValue (septets_at (suc left) s p w v)
  number = was_value _ ok

  septet : Cases left s p w v number.value number.next
  septet = septets_inv left s p w v number.value number.next number.was

  pub there : p < length s
  there = septet.0

  module _ (b : ℕ) (q : b ≡ get_or s p 0) where
    pub ends : b < 128 → (v + b * w < 2 ^ 32) × (septets_at (suc left) s p w v ≡ Ok (v + b * w, p + 1))
    ends t =
        ⊎_elim
        (λ e.
        let value : number.value ≡ v + b * w = rw q e.1.value in
        (rw (← value) e.1.fits, number.was ∙ rw (value, e.1.after)))
        (λ e. absurd (omega (arith, e.0, rw q at t)))
        septet.1

-- ---- The first two septets.

module _ (s : List ℕ) (at : ℕ) (ok : Got (of_number (number_at s at))) where
  pub first_there : at < length s
  unfolding number_at
  first_there = there s 4 at 1 0 ok

  module _ (a : ℕ) (q : a ≡ get_or s at 0) where
    pub first_ends : a < 128 → number_at s at ≡ Ok (a, at + 1)
    unfolding number_at
    first_ends t = last_septet_at s 5 at 1 0 (omega arith) a q first_there t ∙ only_septet a (at + 1) t

    module _ (t : 128 ≤ a) where
      second : Got (of_number (septets_at 4 s (at + 1) 128 (a - 128)))
      second = let e = from_second s at a q first_there t in rw e at ok

      pub second_there : at + 1 < length s
      second_there = there s 3 (at + 1) 128 (a - 128) second

      module _ (b : ℕ) (r : b ≡ get_or s (at + 1) 0) where
        pub second_ends : b < 128 → number_at s at ≡ Ok (a - 128 + b * 128, at + 2)
        second_ends u =
            let n : at + 2 ≡ at + 1 + 1 = omega arith in
            from_second s at a q first_there t ∙ rw n (ends s 3 (at + 1) 128 (a - 128) second b r u).1

        module _ (u : 128 ≤ b) where
          pub third_follows : number_at s at ≡ septets_at 3 s (at + 2) 16384 (a - 128 + (b - 128) * 128)
          third_follows = from_third s at a q first_there t b r second_there u

          pub third_read : Got (of_number (septets_at 3 s (at + 2) 16384 (a - 128 + (b - 128) * 128)))
          third_read = let e = third_follows in rw e at ok

-- ---- The septets from the third on, as the loop takes them: it starts at `at`, and at most two septets follow that one.

-- a septet whose top bit is set is not the fifth
one_left : (left : ℕ) (s : List ℕ) (p w v : ℕ) → Got (of_number (septets_at (suc left) s p w v)) → 128 ≤ get_or s p 0 → 0 < left
unfolding septets_at
one_left zero s p w v ok t = ⊎_elim (λ e. absurd (omega (arith, e.0))) (λ e. absurd (refused_no_value e.1)) (septet s 0 p w v ok).1
one_left (suc left) s p w v ok t = omega arith

module _ (s : List ℕ) (at p w v b : ℕ) (q : b ≡ get_or s p 0) (t : 128 ≤ b) (ok : Got (of_number (septets_at (suc (at + 2 - p)) s p w v))) where
  pub another : p + 1 ≤ at + 2
  another = omega (arith, one_left (at + 2 - p) s p w v ok (rw q at t))

  pub turn : septets_at (suc (at + 2 - p)) s p w v ≡ septets_at (suc (at + 2 - (p + 1))) s (p + 1) (w * 128) (v + (b - 128) * w)
  turn =
      let l : suc (at + 2 - (p + 1)) ≡ suc (at + 2 - p) - 1 = omega (arith, another) in
      rw l (septet_follows s (suc (at + 2 - p)) p w v (omega arith) b q (there s (at + 2 - p) p w v ok) t)

-- the weight of the septet at p, with p - at septets below it from the third on, and that of the next
pub weight_at : (at p : ℕ) → p ≤ at + 2 → 128 ^ (p - at + 2) ≤ 128 ^ 4
weight_at at p h = weight (p - at + 2) (omega arith)

pub weight_after : (at p : ℕ) → at ≤ p → 128 ^ (p - at + 2) * 128 ≡ 128 ^ (p + 1 - at + 2)
weight_after at p h =
    let e : p + 1 - at + 2 ≡ suc (p - at + 2) = omega arith in
    sym (ap (λ (n : ℕ). 128 ^ n) e ∙ pow-suc 128 (p - at + 2))
