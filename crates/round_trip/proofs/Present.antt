-- The fields that are there, in the order of a kind's table, are those of the member by name.
use Prim.Native.Nat.{ℕ, zero, suc, ◌+◌, ◌≤◌}
use mathlib.Core.Path.{◌≡◌, refl, ap, ◌∙◌}
use mathlib.Core.Bool.{Bool, true, false}
use mathlib.Core.List.{List, [], ◌∷◌, ◌++◌}
use native.Mathlib.Nat.{add-zero}
use native.Mathlib.Omega.{arith}
use lib.ListN.{length, take, drop}
use Rattle.std.specs.Prelude.{if◌then◌else◌}
use Rattle.field_domain.specs.declared.Domain.{Domain}
use Rattle.field_domain.specs.declared.Domain.TheVariants.{Range}
use Rattle.field_domain.specs.Domain.{is_present}
use Rattle.field_table.specs.declared.MemberKind.{MemberKind}
use Rattle.field_table.specs.declared.MemberKind.TheVariants as kinds
use Rattle.field_table.specs.Fields.{tension_count, compression_count, column_count, groups, beam_fields_of, column_fields, fields_of}
use Rattle.field_check.specs.FieldCheck.{fields_hold}
use Rattle.field_layout.specs.Layout.{slot, part, groups_at, beam_at, column_at, mesh_at}
use Rattle.field_layout.proofs.Held.{beam_fields_held}
use Rattle.encoding.specs.ScheduleBytes.{list_numbers, load_numbers, beam_numbers, column_numbers, mesh_numbers}
use Rattle.encoding.specs.FieldNumbers.{field_numbers}
use Rattle.encoding.proofs.Rows.{tension_few, compression_few, column_few}

-- the numbers of those from slot i on
unfoldable pub present_numbers : List Domain → ℕ → List ℕ → List ℕ
present_numbers [] i v = []
present_numbers (d ∷ ds) i v = if is_present d v then slot v i ∷ present_numbers ds (i + 1) v else present_numbers ds (i + 1) v

-- one table after another
numbers_append : (xs ys : List Domain) (i : ℕ) (v : List ℕ) → present_numbers (xs ++ ys) i v ≡ present_numbers xs i v ++ present_numbers ys (i + length xs) v
unfolding present_numbers
numbers_append [] ys i v = rw (add-zero i)
numbers_append (d ∷ ds) ys i v =
    go (is_present d v) (let e : i + 1 + length ds ≡ i + suc (length ds) = omega arith in numbers_append ds ys (i + 1) v ∙ rw e)
  where
    go : (c : Bool) → present_numbers (ds ++ ys) (i + 1) v ≡ present_numbers ds (i + 1) v ++ present_numbers ys (i + suc (length ds)) v
        → (if c then slot v i ∷ present_numbers (ds ++ ys) (i + 1) v else present_numbers (ds ++ ys) (i + 1) v)
        ≡ (if c then slot v i ∷ present_numbers ds (i + 1) v else present_numbers ds (i + 1) v) ++ present_numbers ys (i + suc (length ds)) v
    go true e = ap (λ (t : List ℕ). slot v i ∷ t) e
    go false e = e

-- a list of groups whose count, at most 4, stands in slot k
module _ (v : List ℕ) (k : ℕ) where
  third : k + 1 + 1 + 1 ≡ k + 3
  third = omega arith

  fifth : k + 3 + 1 + 1 ≡ k + 5
  fifth = omega arith

  seventh : k + 5 + 1 + 1 ≡ k + 7
  seventh = omega arith

  counted : (n : ℕ) → slot v k ≡ n → n ≤ 4 → (slot v k ∷ present_numbers (groups k) (k + 1) v) ≡ list_numbers (groups_at v k)
  unfolding present_numbers is_present
  counted zero e h = rw e
  counted (suc zero) e h = rw e
  counted (suc (suc zero)) e h = rw (e, third)
  counted (suc (suc (suc zero))) e h = rw (e, third, fifth)
  counted (suc (suc (suc (suc zero)))) e h = rw (e, third, fifth, seventh)
  counted (suc (suc (suc (suc (suc n))))) e h = absurd (omega arith)

-- ---- By kind.

module _ (v : List ℕ) where
  -- what follows a beam's lists
  last_numbers : (pointLoad : Bool) → present_numbers (drop 26 (beam_fields_of pointLoad)) 26 v ≡ part v 26 11 ++ load_numbers (beam_at pointLoad v).load
  unfolding present_numbers is_present beam_at
  last_numbers false = refl
  last_numbers true = refl

  beam_numbers_lem : (pointLoad : Bool) → fields_hold (beam_fields_of pointLoad) 0 v ≡ true → present_numbers (beam_fields_of pointLoad) 0 v ≡ beam_numbers (beam_at pointLoad v)
  unfolding present_numbers is_present beam_at beam_numbers
  beam_numbers_lem pointLoad e =
      let fs = beam_fields_of pointLoad in
      numbers_append (take 8 fs) (drop 8 fs) 0 v
      ∙ ap (λ (x : List ℕ). present_numbers (take 8 fs) 0 v ++ x)
      (numbers_append (Range 1 4 ∷ groups tension_count) (drop 17 fs) 8 v
      ∙ ap (λ (x : List ℕ). x ++ present_numbers (drop 17 fs) 17 v) (counted v tension_count (slot v tension_count) refl (tension_few v (beam_fields_held pointLoad v e)))
      ∙ ap (λ (x : List ℕ). list_numbers (groups_at v tension_count) ++ x)
      (numbers_append (Range 0 4 ∷ groups compression_count) (drop 26 fs) 17 v
      ∙ ap (λ (x : List ℕ). x ++ present_numbers (drop 26 fs) 26 v) (counted v compression_count (slot v compression_count) refl (compression_few v (beam_fields_held pointLoad v e)))
      ∙ ap (λ (x : List ℕ). list_numbers (groups_at v compression_count) ++ x) (last_numbers pointLoad)))

  column_numbers_lem : fields_hold column_fields 0 v ≡ true → present_numbers column_fields 0 v ≡ column_numbers (column_at v)
  unfolding present_numbers is_present column_at column_numbers
  column_numbers_lem e =
      numbers_append (take 4 column_fields) (drop 4 column_fields) 0 v
      ∙ ap (λ (x : List ℕ). present_numbers (take 4 column_fields) 0 v ++ x)
      (numbers_append (Range 1 4 ∷ groups column_count) (drop 13 column_fields) 4 v
      ∙ ap (λ (x : List ℕ). x ++ present_numbers (drop 13 column_fields) 13 v) (counted v column_count (slot v column_count) refl (column_few v e)))

  pub present_numbers_lem : (kind : MemberKind) → fields_hold (fields_of kind) 0 v ≡ true → present_numbers (fields_of kind) 0 v ≡ field_numbers kind v
  unfolding fields_of field_numbers present_numbers is_present mesh_at mesh_numbers
  present_numbers_lem (kinds.Beam pointLoad) e = beam_numbers_lem pointLoad e
  present_numbers_lem kinds.Column e = column_numbers_lem e
  present_numbers_lem kinds.Mesh e = refl
