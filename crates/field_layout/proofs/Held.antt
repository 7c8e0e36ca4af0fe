-- What the slots hold after question 7.
use Prim.Native.Nat.{ℕ, zero, suc, ◌+◌, ◌≤◌, ◌<◌}
use mathlib.Core.Path.{◌≡◌, refl, sym, ◌∙◌}
use mathlib.Core.Bool.{Bool, true, false, ◌||◌}
use mathlib.Core.List.{List, [], ◌∷◌}
use native.Mathlib.Nat.{not-suc-le-zero, le_of_suc-le-suc, add-suc, suc-add, zero-add, add-zero}
use native.Mathlib.Numerals.{add-one}
use native.Mathlib.Omega.{arith}
use mathlib.Core.Logic.{◌⊎◌, inl, inr, ⊎_elim}
use lib.Dec.{T, ltb, eqb, ltb→lt}
use lib.ListN.{length, get_or, take, length-take}
use borrow.Author.Tests.{lt-ltb, eqb-true}
use Rattle.table.specs.Table.{listed}
use Rattle.material.specs.Concrete.{concretes}
use Rattle.material.specs.Steel.{steels, link_steels}
use Rattle.bars.specs.declared.Group.{Group}
use Rattle.member.specs.Member.{Beam, Column}
use Rattle.bars.specs.Accepted.{BarFrom, AcceptedGroup, AcceptedGroups}
use Rattle.member.specs.Accepted.{BeamInRange}
use Rattle.quantity.proofs.Choice.{both_true}
use Rattle.field_domain.specs.declared.Domain.{Domain}
use Rattle.field_domain.specs.declared.Domain.TheVariants.{Range, ZeroOr, Bar, Grade, Steel, LinkSteel, GroupDiameter, GroupBars}
use Rattle.field_domain.specs.Domain.{holds, is_present, field_holds}
use Rattle.field_table.specs.Fields.{tension_count, compression_count, column_count, groups, beam_fields, load_fields, beam_fields_of, column_fields, mesh_fields}
use Rattle.field_check.specs.FieldCheck.{fields_hold}
use Rattle.field_check.proofs.Joined.{holds_append}
use Rattle.field_domain.proofs.InRange.{in_between, a_bar}
use Rattle.field_layout.specs.Layout.{slot, group, groups_at, beam_at, column_at}

-- ---- One field.

hold_from : (fs : List Domain) (i : ℕ) (v : List ℕ) → fields_hold fs i v ≡ true → (k : ℕ) → k < length fs → field_holds (get_or fs k (Range 0 0)) (i + k) v ≡ true
hold_from [] i v e k h = absurd (not-suc-le-zero h)
hold_from (d ∷ ds) i v e zero h = rw (add-zero i) (both_true (field_holds d i v) _ e).0
hold_from (d ∷ ds) i v e (suc k) h =
    rw (add-suc i k, ← suc-add i k, ← add-one i) (hold_from ds (i + 1) v (both_true (field_holds d i v) _ e).1 k (le_of_suc-le-suc h))

-- field k of a table passes question 7
pub hold_at : (fs : List Domain) (v : List ℕ) → fields_hold fs 0 v ≡ true → (k : ℕ) → k < length fs → field_holds (get_or fs k (Range 0 0)) k v ≡ true
hold_at fs v e k h = rw zero-add at (hold_from fs 0 v e k h)

either_true : (a b : Bool) → (a || b) ≡ true → (a ≡ true) ⊎ (b ≡ true)
either_true true b e = inl refl
either_true false b e = inr e

module _ (v : List ℕ) (i : ℕ) where
  pub in_range_lem : (lo hi : ℕ) → field_holds (Range lo hi) i v ≡ true → (lo ≤ slot v i) × (slot v i ≤ hi)
  unfolding field_holds is_present holds
  in_range_lem lo hi e = in_between {lo = lo} {hi = hi} e

  pub zero_or : (lo hi : ℕ) → field_holds (ZeroOr lo hi) i v ≡ true → slot v i ≤ hi
  unfolding field_holds is_present holds
  zero_or lo hi e =
      ⊎_elim (λ z. omega (arith, eqb-true (slot v i) 0 z)) (λ r. (in_between {lo = lo} {hi = hi} r).1) (either_true (eqb (slot v i) 0) _ e)

  pub in_bars : (lo hi : ℕ) → field_holds (Bar lo hi) i v ≡ true → BarFrom lo hi (slot v i)
  unfolding field_holds is_present holds
  in_bars lo hi e = a_bar lo hi (slot v i) e

  pub a_grade : field_holds Grade i v ≡ true → listed (slot v i) concretes ≡ true
  unfolding field_holds is_present holds
  a_grade e = e

  pub a_steel : field_holds Steel i v ≡ true → listed (slot v i) steels ≡ true
  unfolding field_holds is_present holds
  a_steel e = e

  pub a_link_steel : field_holds LinkSteel i v ≡ true → listed (slot v i) link_steels ≡ true
  unfolding field_holds is_present holds
  a_link_steel e = e

  -- a group that its list's count names
  a_group : (k j : ℕ) → field_holds (GroupDiameter k j) i v ≡ true → field_holds (GroupBars k j) (i + 1) v ≡ true → j < slot v k → AcceptedGroup (group v i)
  unfolding field_holds is_present holds
  a_group k j d n h =
      let r = in_between {lo = 1} {hi = 20} (rw (lt-ltb _ _ h) at n) in
      record { diameter = a_bar 6 50 (slot v i) (rw (lt-ltb _ _ h) at d); some = r.0; most = r.1 }

-- ---- Groups.

none_accepted : (n : ℕ) → AcceptedGroups (take n [])
none_accepted zero = tt
none_accepted (suc n) = tt

four_accepted : (n : ℕ) (a b c d : Group) → (0 < n → AcceptedGroup a) → (1 < n → AcceptedGroup b) → (2 < n → AcceptedGroup c) → (3 < n → AcceptedGroup d)
    → AcceptedGroups (take n (a ∷ b ∷ c ∷ d ∷ []))
four_accepted zero a b c d p q r s = tt
four_accepted (suc zero) a b c d p q r s = (p (omega arith), tt)
four_accepted (suc (suc zero)) a b c d p q r s = (p (omega arith), (q (omega arith), tt))
four_accepted (suc (suc (suc zero))) a b c d p q r s = (p (omega arith), (q (omega arith), (r (omega arith), tt)))
four_accepted (suc (suc (suc (suc n)))) a b c d p q r s =
    (p (omega arith), (q (omega arith), (r (omega arith), (s (omega arith), none_accepted n))))

module _ (v : List ℕ) (k : ℕ) where
  -- field j of the list's table (`groups k`), in slot i
  abbrev Held : ℕ → ℕ → Type 0
  Held j i = field_holds (get_or (groups k) j (Range 0 0)) i v ≡ true

  groups_accepted : Held 0 (k + 1) → Held 1 (k + 2) → Held 2 (k + 3) → Held 3 (k + 4) → Held 4 (k + 5) → Held 5 (k + 6) → Held 6 (k + 7) → Held 7 (k + 8)
      → AcceptedGroups (groups_at v k)
  groups_accepted d₀ n₀ d₁ n₁ d₂ n₂ d₃ n₃ =
      four_accepted (slot v k) (group v (k + 1)) (group v (k + 3)) (group v (k + 5)) (group v (k + 7))
      (a_group v (k + 1) k 0 d₀ (next 0 1 n₀)) (a_group v (k + 3) k 1 d₁ (next 1 3 n₁)) (a_group v (k + 5) k 2 d₂ (next 2 5 n₂)) (a_group v (k + 7) k 3 d₃ (next 3 7 n₃))
    where
      next : (j n : ℕ) → field_holds (GroupBars k j) (k + suc n) v ≡ true → field_holds (GroupBars k j) (k + n + 1) v ≡ true
      next j n e = let s : k + n + 1 ≡ k + suc n = omega arith in rw s e

  pub groups_some : 1 ≤ slot v k → 1 ≤ length (groups_at v k)
  groups_some h = simp length-take (omega arith)

  groups_most : length (groups_at v k) ≤ 4
  groups_most = simp length-take (omega arith)

-- ---- A beam.

-- the fields of kind 1, which every beam has
pub beam_fields_held : (pointLoad : Bool) (v : List ℕ) → fields_hold (beam_fields_of pointLoad) 0 v ≡ true → fields_hold beam_fields 0 v ≡ true
beam_fields_held pointLoad v e = (both_true (fields_hold beam_fields 0 v) _ (sym (holds_append beam_fields (load_fields pointLoad) 0 v) ∙ e)).0

module _ (v : List ℕ) (e : fields_hold beam_fields 0 v ≡ true) where
  -- field k
  pub beam_held : (k : ℕ) → T (ltb k (length beam_fields)) → field_holds (get_or beam_fields k (Range 0 0)) k v ≡ true
  beam_held k h = hold_at beam_fields v e k (ltb→lt k (length beam_fields) h)

  pub tension_accepted : AcceptedGroups (groups_at v tension_count)
  tension_accepted =
      groups_accepted v tension_count (beam_held 9 tt) (beam_held 10 tt) (beam_held 11 tt) (beam_held 12 tt) (beam_held 13 tt) (beam_held 14 tt) (beam_held 15 tt) (beam_held 16 tt)

  pub compression_accepted : AcceptedGroups (groups_at v compression_count)
  compression_accepted =
      groups_accepted v compression_count (beam_held 18 tt) (beam_held 19 tt) (beam_held 20 tt) (beam_held 21 tt) (beam_held 22 tt) (beam_held 23 tt) (beam_held 24 tt) (beam_held 25 tt)

  pub beam_in_range : (pointLoad : Bool) → BeamInRange (beam_at pointLoad v)
  unfolding beam_at
  beam_in_range pointLoad =
      record {
        b_most = (in_range_lem v 0 100 1000 (beam_held 0 tt)).1;
        h_most = (in_range_lem v 1 160 2000 (beam_held 1 tt)).1;
        hf_most = (in_range_lem v 3 0 1000 (beam_held 3 tt)).1;
        aₛ_most = (in_range_lem v 4 20 200 (beam_held 4 tt)).1;
        a'-most = zero_or v 5 20 200 (beam_held 5 tt);
        tension = tension_accepted;
        tension_most = groups_most v tension_count;
        compression = compression_accepted;
      }

-- the same of a beam, a column that are the slots'
pub beam_in_range_of : {x : Beam} (pointLoad : Bool) (v : List ℕ) → x ≡ beam_at pointLoad v → fields_hold beam_fields 0 v ≡ true → BeamInRange x
beam_in_range_of pointLoad v p e = rw p (beam_in_range v e pointLoad)

-- ---- A column.

module _ (v : List ℕ) (e : fields_hold column_fields 0 v ≡ true) where
  pub column_held : (k : ℕ) → T (ltb k (length column_fields)) → field_holds (get_or column_fields k (Range 0 0)) k v ≡ true
  column_held k h = hold_at column_fields v e k (ltb→lt k (length column_fields) h)

  pub column_groups_accepted : AcceptedGroups (groups_at v column_count)
  column_groups_accepted =
      groups_accepted v column_count (column_held 5 tt) (column_held 6 tt) (column_held 7 tt) (column_held 8 tt) (column_held 9 tt) (column_held 10 tt) (column_held 11 tt) (column_held 12 tt)

  pub column_groups_of : {x : Column} → x ≡ column_at v → AcceptedGroups x.groups
  unfolding column_at
  column_groups_of p = rw p column_groups_accepted

-- ---- A mesh.

module _ (v : List ℕ) (e : fields_hold mesh_fields 0 v ≡ true) where
  pub mesh_held : (k : ℕ) → T (ltb k (length mesh_fields)) → field_holds (get_or mesh_fields k (Range 0 0)) k v ≡ true
  mesh_held k h = hold_at mesh_fields v e k (ltb→lt k (length mesh_fields) h)
