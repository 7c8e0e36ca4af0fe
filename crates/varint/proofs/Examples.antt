-- Worked examples: what the definitions say of bytes that are written out.
use Rattle.std.specs.Prelude.{Err, Ok}
use mathlib.Core.Path.{◌≡◌, refl}
use mathlib.Core.List.{[], ◌∷◌}
use Rattle.question.specs.declared.Question.TheVariants.{NumberEnds, NumberForm}
use Rattle.varint.specs.Varint.{number_at, septets_at, last_septet}

three_hundred : number_at (172 ∷ 2 ∷ []) 0 ≡ Ok (300, 2)
unfolding number_at septets_at last_septet
three_hundred = refl

largest : number_at (255 ∷ 255 ∷ 255 ∷ 255 ∷ 15 ∷ []) 0 ≡ Ok (4294967295, 5)
unfolding number_at septets_at last_septet
largest = refl

too_large : number_at (128 ∷ 128 ∷ 128 ∷ 128 ∷ 16 ∷ []) 0 ≡ Err NumberForm
unfolding number_at septets_at last_septet
too_large = refl

fifth_goes_on : number_at (128 ∷ 128 ∷ 128 ∷ 128 ∷ 128 ∷ 1 ∷ []) 0 ≡ Err NumberForm
unfolding number_at septets_at last_septet
fifth_goes_on = refl

file_ends_at_fifth : number_at (128 ∷ 128 ∷ 128 ∷ 128 ∷ 128 ∷ []) 0 ≡ Err NumberForm
unfolding number_at septets_at last_septet
file_ends_at_fifth = refl

ends_inside : number_at (128 ∷ 128 ∷ 128 ∷ 128 ∷ []) 0 ≡ Err NumberEnds
unfolding number_at septets_at last_septet
ends_inside = refl

zero_last : number_at (128 ∷ 0 ∷ []) 0 ≡ Err NumberForm
unfolding number_at septets_at last_septet
zero_last = refl

only_zero : number_at (0 ∷ []) 0 ≡ Ok (0, 1)
unfolding number_at septets_at last_septet
only_zero = refl

empty_file : number_at [] 0 ≡ Err NumberEnds
unfolding number_at septets_at last_septet
empty_file = refl
