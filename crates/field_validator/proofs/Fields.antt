-- The steps of reading the fields of a member, as the code takes them.
use Rattle.std.specs.Prelude.{Err, Ok, Result}
use Prim.Native.Nat.{ℕ, ◌+◌, ◌≤◌, ◌<◌}
use mathlib.Core.Path.{◌≡◌, ◌∙◌}
use mathlib.Core.Bool.{true, false}
use mathlib.Core.List.{List}
use lib.ListN.{length, get_or, drop, set, drop_of_length-le}
use Rattle.question.specs.declared.Question.{Question}
use Rattle.question.specs.declared.Question.TheVariants.{Field}
use Rattle.field_domain.specs.declared.Domain.{Domain}
use Rattle.field_domain.specs.declared.Domain.TheVariants.{Grade}
use Rattle.field_domain.specs.Domain.{is_present, holds}
use Rattle.field_table.proofs.Tables.{drop_one}
use Rattle.question.specs.Reading.{got, no, and_then}
use Rattle.varint.specs.Placed.{placed}
use Rattle.varint.specs.Moved.{reading_of}
use Rattle.field_validator.specs.FieldsAt.{checked, field, fields}

module _ (fs : List Domain) (s : List ℕ) (p i : ℕ) (v : List ℕ) where
  pub fields_read : length fs ≤ i → fields (drop i fs) s p i v ≡ got (placed v p)
  unfolding fields
  fields_read h = rw (drop_of_length-le fs h)

  module _ (h : i < length fs) (d : Domain) (is : d ≡ get_or fs i Grade) where
    step : fields (drop i fs) s p i v ≡ and_then (field d s p i v) (λ r. fields (drop (i + 1) fs) s r.next (i + 1) r.value)
    unfolding fields
    step = rw (drop_one fs i h, is)

    pub field_absent : is_present d v ≡ false → fields (drop i fs) s p i v ≡ fields (drop (i + 1) fs) s p (i + 1) v
    unfolding field
    field_absent a = step ∙ rw a

    module _ (a : is_present d v ≡ true) (r : Result ℕ Question) (next : ℕ) (e : reading_of r next ≡ checked Field (holds d) s p) where
      pub field_refused : (q : Question) → r ≡ Err q → fields (drop i fs) s p i v ≡ no q
      unfolding field
      field_refused q f = step ∙ rw (a, ← e, f)

      pub field_stored : (x : ℕ) → r ≡ Ok x → fields (drop i fs) s p i v ≡ fields (drop (i + 1) fs) s next (i + 1) (set v i x)
      unfolding field
      field_stored x f = step ∙ rw (a, ← e, f)
