-- A kind's table of fields, and its fields by slot.
use Prim.Native.Nat.{ℕ, ◌+◌, ◌-◌, ◌≤◌, ◌<◌}
use mathlib.Core.Path.{◌≡◌, refl, sym, ap, ◌∙◌}
use mathlib.Core.Bool.{Bool, true, false}
use mathlib.Core.List.{List, ◌∷◌, ◌++◌}
use native.Mathlib.Numerals.{add-one}
use native.Mathlib.Omega.{arith}
use lib.ListN.{length, get_or, drop, get_or-append}
use lib.Seq.{drop-cons, get_or-append-add}
use Rattle.field_domain.specs.declared.Domain.{Domain}
use Rattle.field_domain.specs.declared.Domain.TheVariants.{Grade}
use Rattle.field_table.specs.declared.MemberKind.{MemberKind}
use Rattle.field_table.specs.declared.MemberKind.TheVariants.{Beam, Column, Mesh}
use Rattle.field_table.specs.Fields.{beam_links, beam_fields, load_fields, beam_fields_of, fields_of}

-- ---- A kind.

-- a member's fields fit the slots
pub fields_fit : (kind : MemberKind) → length (fields_of kind) ≤ 40
unfolding fields_of
fields_fit (Beam false) = omega arith
fields_fit (Beam true) = omega arith
fields_fit Column = omega arith
fields_fit Mesh = omega arith

-- ---- A beam: kind 4's table begins with kind 1's.

pub beam_field_same : (pointLoad : Bool) (i : ℕ) → i < length (beam_fields_of pointLoad) → get_or (beam_fields_of true) i Grade ≡ get_or (beam_fields_of pointLoad) i Grade
beam_field_same false i h = get_or-append beam_fields (load_fields true) Grade i h
beam_field_same true i h = refl

-- where its fields end
pub beam_end : (pointLoad : Bool) (end : ℕ) → end ≡ length (beam_fields_of pointLoad) → (beam_links ≤ end) × (end ≤ 40)
beam_end false end e = omega arith
beam_end true end e = omega arith

-- ---- A field by its slot.

pub drop_one : (fs : List Domain) (i : ℕ) → i < length fs → drop i fs ≡ get_or fs i Grade ∷ drop (i + 1) fs
drop_one fs i h = drop-cons fs i Grade h ∙ ap (λ (n : ℕ). get_or fs i Grade ∷ drop n fs) (sym (add-one i))

-- a field of the middle one of three tables
pub in_middle : (xs ys zs : List Domain) (i : ℕ) → length xs ≤ i → i < length xs + length ys
    → get_or ys (i - length xs) Grade ≡ get_or (xs ++ (ys ++ zs)) i Grade
in_middle xs ys zs i l h =
    let e : length xs + (i - length xs) ≡ i = omega arith in
    sym (get_or-append ys zs Grade (i - length xs) (omega arith)) ∙ sym (get_or-append-add xs (ys ++ zs) (i - length xs) Grade)
    ∙ ap (λ (n : ℕ). get_or (xs ++ (ys ++ zs)) n Grade) e
