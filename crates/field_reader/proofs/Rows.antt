-- Numbers and fields that are known to be taken, one after the other.
use Prim.Native.Nat.{ℕ, suc, ◌+◌, ◌-◌, ◌<◌}
use mathlib.Core.Path.{◌≡◌}
use mathlib.Core.List.{List}
use native.Mathlib.Omega.{arith}
use Rattle.std.specs.Prelude.{Err, Ok}
use Rattle.question.specs.Reading.{Reading, got, no, Got, and_then}
use Rattle.varint.specs.declared.Cursor.{Cursor}
use Rattle.varint.specs.Varint.{Number, number_at}
use Rattle.varint.specs.Placed.{Placed, placed, of_number}
use Rattle.varint.specs.Moved.{Moved}
use Rattle.field_validator.specs.Taken.{stored_by, stored, taken_row}

-- where a reading and what follows it are got, the first is got
pub first_got : {N A B : Type 0} (o : Reading N A) (f : A → Reading N B) → Got (and_then o f) → Got o
unfolding Got
first_got (got a) f ok = tt
first_got (no q) f ok = ok

-- and what follows is got from the cursor after the first
pub then_got : {N A B : Type 0} (old mid : Cursor) (o : Reading N (Placed A)) (a : A) → Moved old o (Ok a) mid
    → (f : List ℕ → Placed A → Reading N (Placed B)) → Got (and_then o (f old.src.now)) → Got (f mid.src.now (placed a mid.at))
then_got old mid o a m f ok = rw m.same (rw (← m.reads) at ok)

-- the next number of a row is read
pub number_got : (s : List ℕ) (p end i : ℕ) (v : List ℕ) → i < end → Got (taken_row (end - i) s p i v) → Got (of_number (number_at s p))
unfolding taken_row stored Got
number_got s p end i v h ok =
    let more : end - i ≡ suc (end - (i + 1)) = omega arith in
    stored_got (number_at s p) (first_got (stored s p i v) _ (rw more at ok))
  where
    stored_got : (n : Number) → Got (stored_by n i v) → Got (of_number n)
    stored_got (Ok (x, next)) ok = tt
    stored_got (Err q) ok = ok
