-- Fields that were read pass question 7 as they stand in their slots: a count is read before the groups that it names.
use Rattle.std.specs.Prelude.{Ok}
use Prim.Native.Nat.{ℕ, ◌+◌, ◌≤◌, ◌<◌}
use mathlib.Core.Path.{◌≡◌, refl, sym, ap, ◌∙◌}
use mathlib.Core.Bool.{Bool, true, false, ◌&&◌}
use mathlib.Core.List.{List, [], ◌∷◌}
use native.Mathlib.Omega.{arith}
use lib.ListN.{length, get_or, set, length-set}
use lib.Seq.{get_or-set_same, get_or-set_other}
use Rattle.quantity.proofs.Choice.{if_case, both_true}
use Rattle.question.specs.declared.Question.{Question}
use Rattle.question.specs.declared.Question.TheVariants.{Field}
use Rattle.varint.specs.Varint.{number_at}
use Rattle.field_domain.specs.declared.Domain.{Domain}
use Rattle.field_domain.specs.Domain.{presence, is_present, holds, field_holds}
use Rattle.field_domain.proofs.Present.{count_below, any_slot, present_same}
use Rattle.field_table.specs.declared.MemberKind.{MemberKind}
use Rattle.field_table.specs.declared.MemberKind.TheVariants.{Beam, Column, Mesh}
use Rattle.field_table.specs.Fields.{fields_of}
use Rattle.field_check.specs.FieldCheck.{fields_hold}
use Rattle.field_table.proofs.Tables.{fields_fit}
use Rattle.question.specs.Reading.{Reading, got, no, and_then}
use Rattle.varint.specs.Placed.{Placed, placed}
use Rattle.field_validator.specs.FieldsAt.{empty, field, fields}
use Rattle.field_validator.proofs.Checked.{on_checked}

-- ---- Cases.

-- a field is not there, is stored, or refused
pub on_field : (P : Reading Question (Placed (List ℕ)) → Type 0) (d : Domain) (s : List ℕ) (p i : ℕ) (v : List ℕ)
    → (is_present d v ≡ false → P (got (placed v p)))
    → ((x next : ℕ) → is_present d v ≡ true → number_at s p ≡ Ok (x, next) → holds d x ≡ true → P (got (placed (set v i x) next)))
    → ((q : Question) → P (no q)) → P (field d s p i v)
unfolding field
on_field P d s p i v absent stored refused =
    if_case P (is_present d v) _ _
    (λ a. on_checked (λ o. P (and_then o (λ x. got (placed (set v i x.value) x.next)))) Field (holds d) s p (λ x next n h. stored x next a n h) refused)
    absent

-- ---- Counts before groups.

unfoldable pub ordered : ℕ → List Domain → Bool
ordered i [] = true
ordered i (d ∷ ds) = count_below any_slot (presence d) i && ordered (i + 1) ds

-- ---- Held.

record Held (fs : List Domain) (i : ℕ) (v w : List ℕ) : Type 0 where
  holds_all : fields_hold fs i w ≡ true
  kept : (j : ℕ) → j < i → get_or w j 0 ≡ get_or v j 0

module _ (s w : List ℕ) (q : ℕ) where
  End : Reading Question (Placed (List ℕ)) → Type 0
  End o = o ≡ got (placed w q)

  same_value : (v : List ℕ) (p : ℕ) → End (got (placed v p)) → v ≡ w
  unfolding End
  same_value v p e = let f : placed v p ≡ placed w q = cc in ap (λ (x : Placed (List ℕ)). x.value) f

  held : (fs : List Domain) (p i : ℕ) (v : List ℕ) → ordered i fs ≡ true → i + length fs ≤ length v → End (fields fs s p i v) → Held fs i v w
  unfolding End fields ordered field_holds
  held [] p i v o l e = record { holds_all = refl; kept = λ j h. ap (λ (x : List ℕ). get_or x j 0) (sym (same_value v p e)) }
  held (d ∷ ds) p i v o l u =
      on_field (λ r. and_then r (λ x. fields ds s x.next (i + 1) x.value) ≡ got (placed w q) → Held (d ∷ ds) i v w) d s p i v
      (λ a e.
      let h = held ds p (i + 1) v b.1 (omega arith) e in
      record {
        holds_all = rw (present_same any_slot d i v w b.0 (λ j _ k. h.kept j (omega arith)), a) h.holds_all;
        kept = λ j k. h.kept j (omega arith);
      })
      (λ x next _ _ t e.
      let h = held ds next (i + 1) (set v i x) b.1 (rw (length-set v i x) (omega arith)) e in
      let at : get_or w i 0 ≡ x = h.kept i (omega arith) ∙ get_or-set_same v i x 0 (omega arith) in
      record {
        holds_all = rw (at, t) (rw (if_case (λ (y : Bool). y ≡ true) (is_present d w) true true (λ _. refl) (λ _. refl)) h.holds_all);
        kept = λ j k. h.kept j (omega arith) ∙ get_or-set_other v i j x 0 (λ f. omega arith);
      })
      (λ r e. absurd (let z : ◌≡◌ {A = ℕ} 0 1 = cc in omega arith))
      u
    where
      b : (count_below any_slot (presence d) i ≡ true) × (ordered (i + 1) ds ≡ true)
      b = both_true (count_below any_slot (presence d) i) (ordered (i + 1) ds) o

pub in_order : (kind : MemberKind) → ordered 0 (fields_of kind) ≡ true
unfolding ordered fields_of
in_order (Beam false) = refl
in_order (Beam true) = refl
in_order Column = refl
in_order Mesh = refl

-- fields of a kind that were read pass question 7
pub fields_held : (s w : List ℕ) (p q : ℕ) (kind : MemberKind) → fields (fields_of kind) s p 0 empty ≡ got (placed w q) → fields_hold (fields_of kind) 0 w ≡ true
unfolding End
fields_held s w p q kind e = (held s w q (fields_of kind) p 0 empty (in_order kind) (omega (arith, fields_fit kind)) e).holds_all
