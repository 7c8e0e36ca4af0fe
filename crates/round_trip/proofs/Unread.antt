-- Slots past a count are not read: slots that agree where a field is there hold the same member.
use Prim.Native.Nat.{ℕ, zero, suc, ◌+◌, ◌-◌, ◌<◌}
use mathlib.Core.Path.{◌≡◌, refl, ap, ◌∙◌}
use mathlib.Core.Bool.{Bool, true, false}
use mathlib.Core.List.{List, [], ◌∷◌, ◌++◌}
use native.Mathlib.Omega.{arith}
use lib.Dec.{T, ltb, ltb→lt, lt→ltb}
use lib.ListN.{length, get_or, take, drop, length-append, get_or-append}
use borrow.Author.Tests.{lt-ltb}
use Rattle.bars.specs.declared.Group.{Group}
use Rattle.member.specs.Member.{beam, column, mesh}
use Rattle.field_domain.specs.declared.Domain.{Domain}
use Rattle.field_domain.specs.declared.Domain.TheVariants.{Grade, GroupDiameter, GroupBars}
use Rattle.field_domain.specs.Domain.{is_present}
use Rattle.field_table.specs.declared.MemberKind.{MemberKind}
use Rattle.field_table.specs.declared.MemberKind.TheVariants as kinds
use Rattle.field_table.specs.Fields.{tension_count, compression_count, column_count, shear_span, groups, beam_fields, load_fields, beam_fields_of, column_fields, mesh_fields, fields_of}
use Rattle.field_table.proofs.Tables.{in_middle}
use Rattle.field_layout.specs.Layout.{slot, group, groups_at, load_at, beam_at, column_at, mesh_at, member_at}

-- w holds what v holds, wherever v's counts name a field
abbrev pub Agree : List Domain → List ℕ → List ℕ → Type 0
Agree fs v w = (k : ℕ) → T (ltb k (length fs)) → is_present (get_or fs k Grade) v ≡ true → slot w k ≡ slot v k

-- ---- The groups that a count names.

four_same : (n : ℕ) (a b c d a' b' c' d' : Group) → (0 < n → a ≡ a') → (1 < n → b ≡ b') → (2 < n → c ≡ c') → (3 < n → d ≡ d')
    → take n (a ∷ b ∷ c ∷ d ∷ []) ≡ take n (a' ∷ b' ∷ c' ∷ d' ∷ [])
four_same zero a b c d a' b' c' d' p q r s = refl
four_same (suc zero) a b c d a' b' c' d' p q r s = rw (p (omega arith))
four_same (suc (suc zero)) a b c d a' b' c' d' p q r s = rw (p (omega arith), q (omega arith))
four_same (suc (suc (suc zero))) a b c d a' b' c' d' p q r s = rw (p (omega arith), q (omega arith), r (omega arith))
four_same (suc (suc (suc (suc n)))) a b c d a' b' c' d' p q r s = rw (p (omega arith), q (omega arith), r (omega arith), s (omega arith))

module _ (v w : List ℕ) (k : ℕ) where
  -- the j-th group, whose diameter stands in slot i
  group_same : (j i : ℕ) → (is_present (GroupDiameter k j) v ≡ true → slot w i ≡ slot v i) → (is_present (GroupBars k j) v ≡ true → slot w (i + 1) ≡ slot v (i + 1))
      → j < slot v k → group w i ≡ group v i
  unfolding is_present
  group_same j i d n h = rw (d (lt-ltb _ _ h), n (lt-ltb _ _ h))

  -- field j of the list's table agrees where it is there; it stands in slot k + 1 + j
  groups_same : slot w k ≡ slot v k → ((j : ℕ) → T (ltb j 8) → is_present (get_or (groups k) j Grade) v ≡ true → slot w (k + suc j) ≡ slot v (k + suc j))
      → groups_at w k ≡ groups_at v k
  groups_same e a =
      ap (λ (n : ℕ). take n (group w (k + 1) ∷ group w (k + 3) ∷ group w (k + 5) ∷ group w (k + 7) ∷ [])) e
      ∙ four_same (slot v k) (group w (k + 1)) (group w (k + 3)) (group w (k + 5)) (group w (k + 7)) (group v (k + 1)) (group v (k + 3)) (group v (k + 5)) (group v (k + 7))
      (group_same 0 (k + 1) (a 0 tt) (next 1 0 (a 1 tt))) (group_same 1 (k + 3) (a 2 tt) (next 3 1 (a 3 tt)))
      (group_same 2 (k + 5) (a 4 tt) (next 5 2 (a 5 tt))) (group_same 3 (k + 7) (a 6 tt) (next 7 3 (a 7 tt)))
    where
      next : (n j : ℕ) → (is_present (GroupBars k j) v ≡ true → slot w (k + suc n) ≡ slot v (k + suc n)) → is_present (GroupBars k j) v ≡ true → slot w (k + n + 1) ≡ slot v (k + n + 1)
      next n j f h = let s : k + n + 1 ≡ k + suc n = omega arith in rw s (f h)

-- the fields of a list, in a table that has them after its count
in_table : (v w : List ℕ) (k : ℕ) (xs zs : List Domain) → length xs ≡ suc k → Agree (xs ++ (groups k ++ zs)) v w
    → (j : ℕ) → T (ltb j 8) → is_present (get_or (groups k) j Grade) v ≡ true → slot w (k + suc j) ≡ slot v (k + suc j)
in_table v w k xs zs e a j t p =
    let h : j < 8 = ltb→lt j 8 t in
    let i : k + suc j - length xs ≡ j = omega arith in
    let m = in_middle xs (groups k) zs (k + suc j) (omega arith) (omega arith) in
    let l : k + suc j < length (xs ++ (groups k ++ zs)) = simp length-append (omega arith) in
    a (k + suc j) (lt→ltb _ _ l) (rw (← m, i) p)

-- the first of two tables
first_agree : (v w : List ℕ) (xs ys : List Domain) → Agree (xs ++ ys) v w → Agree xs v w
first_agree v w xs ys a k t p =
    let h : k < length xs = ltb→lt k (length xs) t in
    let l : k < length (xs ++ ys) = simp length-append (omega arith) in
    a k (lt→ltb _ _ l) (rw (get_or-append xs ys Grade k h) p)

-- ---- Members.

module _ (v w : List ℕ) where
  -- what a beam is loaded by: a, where it is under a point load
  load_same : (pointLoad : Bool) → Agree (beam_fields_of pointLoad) v w → load_at pointLoad (slot w shear_span) ≡ load_at pointLoad (slot v shear_span)
  unfolding is_present
  load_same false a = refl
  load_same true a = rw (a shear_span tt refl)

  beam_same : (pointLoad : Bool) → Agree (beam_fields_of pointLoad) v w → beam_at pointLoad w ≡ beam_at pointLoad v
  unfolding beam_at is_present
  beam_same pointLoad with-load =
      let a = first_agree v w beam_fields (load_fields pointLoad) with-load in
      rw (
        groups_same v w tension_count (a 8 tt refl) (in_table v w tension_count (take 9 beam_fields) (drop 17 beam_fields) refl a),
        groups_same v w compression_count (a 17 tt refl) (in_table v w compression_count (take 18 beam_fields) (drop 26 beam_fields) refl a),
        a 0 tt refl,
        a 1 tt refl,
        a 2 tt refl,
        a 3 tt refl,
        a 4 tt refl,
        a 5 tt refl,
        a 6 tt refl,
        a 7 tt refl,
        a 26 tt refl,
        a 27 tt refl,
        a 28 tt refl,
        a 29 tt refl,
        a 30 tt refl,
        a 31 tt refl,
        a 32 tt refl,
        a 33 tt refl,
        a 34 tt refl,
        a 35 tt refl,
        a 36 tt refl,
        load_same pointLoad with-load,
      )

  column_same : Agree column_fields v w → column_at w ≡ column_at v
  unfolding column_at is_present
  column_same a =
      rw (
        groups_same v w column_count (a 4 tt refl) (in_table v w column_count (take 5 column_fields) (drop 13 column_fields) refl a),
        a 0 tt refl,
        a 1 tt refl,
        a 2 tt refl,
        a 3 tt refl,
        a 13 tt refl,
        a 14 tt refl,
        a 15 tt refl,
        a 16 tt refl,
      )

  mesh_same : Agree mesh_fields v w → mesh_at w ≡ mesh_at v
  unfolding mesh_at is_present
  mesh_same a =
      rw (a 0 tt refl, a 1 tt refl, a 2 tt refl, a 3 tt refl, a 4 tt refl, a 5 tt refl, a 6 tt refl, a 7 tt refl, a 8 tt refl, a 9 tt refl, a 10 tt refl)

  pub member_same : (mark : ℕ) (kind : MemberKind) → Agree (fields_of kind) v w → member_at mark kind w ≡ member_at mark kind v
  unfolding member_at fields_of
  member_same mark (kinds.Beam pointLoad) a = ap (beam mark) (beam_same pointLoad a)
  member_same mark kinds.Column a = ap (column mark) (column_same a)
  member_same mark kinds.Mesh a = ap (mesh mark) (mesh_same a)
