-- The fields of a member as rows of slots: a list's groups stand after its count, as many as it says.
use Prim.Native.Nat.{ℕ, zero, suc, ◌+◌, ◌-◌, ◌*◌, ◌≤◌, ◌<◌}
use mathlib.Core.Path.{◌≡◌, refl, sym, ap, ◌∙◌}
use mathlib.Core.Bool.{Bool, true, false}
use mathlib.Core.List.{List, [], ◌∷◌, ◌++◌, append_assoc}
use native.Mathlib.Numerals.{add-one}
use native.Mathlib.Omega.{arith}
use lib.ListN.{length, get_or, drop, drop_of_length-le}
use lib.Seq.{drop-cons}
use native.Mathlib.Decide.{dec_le}
use Rattle.field_domain.proofs.InRange.{in_between}
use Rattle.field_table.specs.Fields.{tension_count, compression_count, beam_links, column_count, column_links, beam_fields, beam_fields_of, column_fields, mesh_fields, known, kind_of}
use Rattle.field_check.specs.FieldCheck.{fields_hold}
use Rattle.varint.specs.Encoding.{bytes_of}
use Rattle.field_layout.specs.Layout.{slot, part, groups_at, beam_at, column_at, mesh_at, member_at}
use Rattle.field_layout.proofs.Part.{part_append}
use Rattle.field_layout.proofs.Held.{in_range_lem, beam_held, column_held}
use Rattle.encoding.specs.FieldNumbers.{field_numbers}
use Rattle.encoding.specs.ScheduleBytes.{bytes_of_all, list_numbers, load_numbers, beam_numbers, column_numbers, mesh_numbers, member_numbers}

bytes_append : (a b : List ℕ) → bytes_of_all (a ++ b) ≡ bytes_of_all a ++ bytes_of_all b
unfolding bytes_of_all
bytes_append [] b = refl
bytes_append (n ∷ a) b = ap (λ (t : List ℕ). bytes_of n ++ t) (bytes_append a b) ∙ sym (append_assoc (bytes_of n) (bytes_of_all a) (bytes_of_all b))

-- ---- A row, as the loop of `put_row` puts it.

pub row_more : (s : List ℕ) (i : ℕ) → i < length s → bytes_of_all (drop i s) ≡ bytes_of (get_or s i 0) ++ bytes_of_all (drop (i + 1) s)
unfolding bytes_of_all
row_more s i h = rw (add-one, drop-cons s i 0 h)

pub row_none : (s : List ℕ) (i : ℕ) → length s ≤ i → bytes_of_all (drop i s) ≡ []
unfolding bytes_of_all
row_none s i h = rw (drop_of_length-le s h)

-- ---- A list.

-- the count in slot k, at most 4, and the groups that it names
module _ (v : List ℕ) (k : ℕ) where
  third : k + 3 ≡ suc (suc (suc k))
  third = omega arith

  fifth : k + 5 ≡ suc (suc (suc (suc (suc k))))
  fifth = omega arith

  seventh : k + 7 ≡ suc (suc (suc (suc (suc (suc (suc k))))))
  seventh = omega arith

  counted : (n : ℕ) → slot v k ≡ n → n ≤ 4 → part v k (1 + 2 * n) ≡ list_numbers (groups_at v k)
  counted zero e h = rw e
  counted (suc zero) e h = rw e (simp add-one)
  counted (suc (suc zero)) e h = rw (e, third) (simp add-one)
  counted (suc (suc (suc zero))) e h = rw (e, third, fifth) (simp add-one)
  counted (suc (suc (suc (suc zero)))) e h = rw (e, third, fifth, seventh) (simp add-one)
  counted (suc (suc (suc (suc (suc n))))) e h = absurd (omega arith)

  -- fields before a list, and the list
  with_list : (i : ℕ) (m : ℕ) → i + m ≡ k → slot v k ≤ 4 → part v i (m + (1 + 2 * slot v k)) ≡ part v i m ++ list_numbers (groups_at v k)
  with_list i m e h = part_append v i m (1 + 2 * slot v k) ∙ rw e (ap (λ (t : List ℕ). part v i m ++ t) (counted (slot v k) refl h))

-- ---- By kind: rows, one after the other.

module _ (v : List ℕ) where
  pub tension_few : fields_hold beam_fields 0 v ≡ true → slot v tension_count ≤ 4
  tension_few e = (in_range_lem v tension_count 1 4 (beam_held v e tension_count tt)).1

  pub compression_few : fields_hold beam_fields 0 v ≡ true → slot v compression_count ≤ 4
  compression_few e = (in_range_lem v compression_count 0 4 (beam_held v e compression_count tt)).1

  pub column_few : fields_hold column_fields 0 v ≡ true → slot v column_count ≤ 4
  column_few e = (in_range_lem v column_count 1 4 (column_held v e column_count tt)).1

  -- what follows a beam's lists
  last_row : (pointLoad : Bool) → part v beam_links (length (beam_fields_of pointLoad) - beam_links) ≡ part v beam_links 11 ++ load_numbers (beam_at pointLoad v).load
  unfolding beam_at
  last_row false = refl
  last_row true = refl

  -- e and f are the places after the two lists, n the number of fields
  pub beam_rows : (pointLoad : Bool) → fields_hold beam_fields 0 v ≡ true → (e f n : ℕ) → e ≡ tension_count + (1 + 2 * slot v tension_count)
      → f ≡ compression_count + (1 + 2 * slot v compression_count) → n ≡ length (beam_fields_of pointLoad)
      → bytes_of_all (part v 0 (e - 0)) ++ (bytes_of_all (part v compression_count (f - compression_count)) ++ bytes_of_all (part v beam_links (n - beam_links)))
      ≡ bytes_of_all (beam_numbers (beam_at pointLoad v))
  unfolding beam_at beam_numbers
  beam_rows pointLoad h e f n p q r =
      let a : e - 0 ≡ 8 + (1 + 2 * slot v tension_count) = omega arith in
      let b : f - compression_count ≡ 1 + 2 * slot v compression_count = omega arith in
      rw (r, last_row pointLoad, a, b, ← bytes_append, ← bytes_append, with_list v tension_count 0 8 refl (tension_few h), counted v compression_count (slot v compression_count) refl (compression_few h))

  pub column_rows : fields_hold column_fields 0 v ≡ true → (e : ℕ) → e ≡ column_count + (1 + 2 * slot v column_count)
      → bytes_of_all (part v 0 (e - 0)) ++ bytes_of_all (part v column_links (length column_fields - column_links)) ≡ bytes_of_all (column_numbers (column_at v))
  unfolding column_at column_numbers
  column_rows h e p =
      let a : e - 0 ≡ 4 + (1 + 2 * slot v column_count) = omega arith in
      rw (a, ← bytes_append, with_list v column_count 0 4 refl (column_few h))

  pub mesh_row : part v 0 (length mesh_fields) ≡ mesh_numbers (mesh_at v)
  unfolding mesh_at mesh_numbers
  mesh_row = refl

-- ---- A member: its mark and the number of its kind before its fields.

pub member_numbers_lem : (mark number : ℕ) (v : List ℕ) → known number ≡ true → (mark ∷ number ∷ field_numbers (kind_of number) v) ≡ member_numbers (member_at mark (kind_of number) v)
unfolding known kind_of beam_at member_at field_numbers member_numbers
member_numbers_lem mark number v k = cases (dec_le number 1) (dec_le number 2) (dec_le number 3)
  where
    b : (1 ≤ number) × (number ≤ 4)
    b = in_between {lo = 1} {hi = 4} k

    cases : Dec (number ≤ 1) → Dec (number ≤ 2) → Dec (number ≤ 3) → (mark ∷ number ∷ field_numbers (kind_of number) v) ≡ member_numbers (member_at mark (kind_of number) v)
    cases (yes p) _ _ = let e : number ≡ 1 = omega (arith, b) in rw e
    cases (no p) (yes q) _ = let e : number ≡ 2 = omega (arith, b) in rw e
    cases (no p) (no q) (yes r) = let e : number ≡ 3 = omega (arith, b) in rw e
    cases (no p) (no q) (no r) = let e : number ≡ 4 = omega (arith, b) in rw e
