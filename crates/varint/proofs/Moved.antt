-- One reading through a cursor after another.
use Rattle.std.specs.Prelude.{Err, Ok, Result}
use Prim.Native.Nat.{ℕ}
use mathlib.Core.Path.{◌≡◌, sym, ap, ◌∙◌}
use mathlib.Core.List.{List}
use native.Mathlib.Omega.{arith}
use Rattle.question.specs.declared.Question.{Question}
use Rattle.question.specs.Reading.{Reading, got, no, and_then}
use Rattle.varint.specs.declared.Cursor.{Cursor}
use Rattle.varint.specs.Varint.{Number}
use Rattle.varint.specs.Placed.{Placed, placed, of_number}
use Rattle.varint.specs.Moved.{reading_of, Moved}

-- what was read is refused, or goes on with the bytes and the place that the cursor has then
module _ {A B N : Type 0} (old mid : Cursor) (r : Result A N) (o : Reading N (Placed A)) (m : Moved old o r mid)
    (f : List ℕ → Placed A → Reading N (Placed B)) where
  pub moved_refused : (q : N) → r ≡ Err q → (t : Result B N) → t ≡ Err q → Moved old (and_then o (f old.src.now)) t mid
  moved_refused q e t g =
      let was : no q ≡ o = rw e at m.reads in
      record { same = m.same; reads = rw (g, ← was) }

  pub moved_on : (a : A) → r ≡ Ok a → (new : Cursor) (t : Result B N) → Moved mid (f mid.src.now (placed a mid.at)) t new → Moved old (and_then o (f old.src.now)) t new
  moved_on a e new t n =
      let was : got (placed a mid.at) ≡ o = rw e at m.reads in
      let others : reading_of t new.at ≡ f old.src.now (placed a mid.at) = rw m.same at n.reads in
      record { same = n.same ∙ m.same; reads = rw (← was) others }

-- the number that was read
pub number_is : (n : Number) (x next : ℕ) → got (placed x next) ≡ of_number n → n ≡ Ok (x, next)
number_is (Ok (y, k)) x next e = let same : placed x next ≡ placed y k = cc in ap (λ (r : Placed ℕ). Ok (r.value, r.next)) (sym same)
number_is (Err q) x next e = absurd (let z : ◌≡◌ {A = ℕ} 0 1 = cc in omega arith)

module _ (n : Number) (r : Result ℕ Question) (p : ℕ) (was : reading_of r p ≡ of_number n) where
  pub number_was_read : (x : ℕ) → r ≡ Ok x → n ≡ Ok (x, p)
  number_was_read x e = number_is n x p (rw e at was)

  pub number_was_refused : (q : Question) → r ≡ Err q → n ≡ Err q
  number_was_refused q e = refused n (rw e at was)
    where
      refused : (n : Number) → no q ≡ of_number n → n ≡ Err q
      refused (Ok x) e = absurd (let z : ◌≡◌ {A = ℕ} 0 1 = cc in omega arith)
      refused (Err k) e = cc
