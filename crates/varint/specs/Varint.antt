-- The number at a place of a schedule (document 01, "Schedule bytes" and questions 2 and 3).
use Rattle.std.specs.Prelude.{ℕ, zero, suc, ◌+◌, ◌-◌, ◌*◌, ◌^◌, List, ◌&&◌, ◌||◌, length, get_or, leb, ltb, eqb, if◌then◌else◌, Err, Ok, Result}
use Rattle.question.specs.declared.Question.{Question}
use Rattle.question.specs.declared.Question.TheVariants.{NumberEnds, NumberForm}

-- what is read at a place: the number, and the place after its last septet; or the question that is answered no, 2 or 3
abbrev pub Number : Type 0
Number = Result (ℕ × ℕ) Question

-- The last septet is b, of weight w; v is the value of the septets below it, and `next` the place after it.
-- Question 3: the last septet is not zero or the only one (its weight is 1), and the value is below 2 ^ 32.
unfoldable pub last_septet : ℕ → ℕ → ℕ → ℕ → Number
last_septet b w v next =
    if (ltb 0 b || eqb w 1) && ltb (v + b * w) (2 ^ 32)
    then Ok (v + b * w, next)
    else Err NumberForm

-- At most `left` septets more, the next of them at p and of weight w; v is the value of the septets below it.
-- Question 3: no septet is left after one with its top bit set. Question 2: the file ends before the last septet.
unfoldable pub septets_at : ℕ → List ℕ → ℕ → ℕ → ℕ → Number
septets_at zero s p w v = Err NumberForm
septets_at (suc left) s p w v =
    if leb (length s) p then Err NumberEnds
    else (if ltb (get_or s p 0) 128 then last_septet (get_or s p 0) w v (p + 1)
    else septets_at left s (p + 1) (w * 128) (v + (get_or s p 0 - 128) * w))

-- The number whose first septet is at `at`, in at most five septets.
unfoldable pub number_at : List ℕ → ℕ → Number
number_at s at = septets_at 5 s at 1 0
