-- No question has the number 0.
use mathlib.Core.Path.{◌≡◌}
use native.Mathlib.Omega.{arith}
use Rattle.question.specs.declared.Question.{Question}
use Rattle.question.specs.declared.Question.TheVariants.{Size, NumberEnds, NumberForm, Count, Mark, Kind, Field, Consistency, Bars, Ratio, Trailing, Buffer, File, ServiceMoment}
use Rattle.question.specs.Question.{number_of}

pub numbered : (q : Question) → number_of q ≡ 0 → ⊥
numbered Size e = omega arith
numbered NumberEnds e = omega arith
numbered NumberForm e = omega arith
numbered Count e = omega arith
numbered Mark e = omega arith
numbered Kind e = omega arith
numbered Field e = omega arith
numbered Consistency e = omega arith
numbered Bars e = omega arith
numbered Ratio e = omega arith
numbered Trailing e = omega arith
numbered Buffer e = omega arith
numbered File e = omega arith
numbered ServiceMoment e = omega arith
