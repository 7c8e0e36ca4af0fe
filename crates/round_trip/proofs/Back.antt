-- The bytes of a member's fields are read back as these fields, wherever they stand.
use Prim.Native.Nat.{ℕ, zero, suc, ◌+◌, ◌^◌, ◌≤◌, ◌<◌}
use mathlib.Core.Path.{◌≡◌, refl, sym, ap, ◌∙◌}
use mathlib.Core.Bool.{Bool, true, false, ◌&&◌, true≢false}
use mathlib.Core.List.{List, [], ◌∷◌, ◌++◌, append_assoc}
use native.Mathlib.Nat.{add-zero}
use native.Mathlib.Decide.{dec_le}
use native.Mathlib.Omega.{arith}
use lib.Dec.{ltb}
use lib.ListN.{length, get_or, set, length-set, length-append}
use lib.Seq.{get_or-set_same, get_or-set_other}
use borrow.Author.Tests.{ltb-true}
use Rattle.std.specs.Prelude.{if◌then◌else◌, Ok}
use Rattle.quantity.proofs.Choice.{both_true}
use Rattle.question.specs.declared.Question.TheVariants.{Field}
use Rattle.question.specs.Reading.{got}
use Rattle.varint.specs.Varint.{number_at}
use Rattle.varint.specs.Encoding.{bytes_of}
use Rattle.varint.proofs.Encoded.{bytes_read}
use Rattle.field_domain.specs.declared.Domain.{Domain}
use Rattle.field_domain.specs.declared.Domain.TheVariants.{Grade}
use Rattle.field_domain.specs.Domain.{presence, is_always, holds, is_present, field_holds}
use Rattle.field_domain.proofs.Present.{count_below, SameCounts, present_same, present_holds, always_present}
use Rattle.field_table.specs.declared.MemberKind.{MemberKind}
use Rattle.field_table.specs.declared.MemberKind.TheVariants as kinds
use Rattle.field_table.specs.Fields.{fields_of}
use Rattle.field_check.specs.FieldCheck.{fields_hold}
use Rattle.field_layout.specs.Layout.{slot}
use Rattle.varint.specs.Placed.{placed}
use Rattle.field_validator.specs.FieldsAt.{field, fields}
use Rattle.field_validator.proofs.Checked.{number_passes}
use Rattle.encoding.specs.ScheduleBytes.{bytes_of_all}
use Rattle.round_trip.proofs.Present.{present_numbers}
use Rattle.round_trip.proofs.Size.{largest, at_most}

-- Bytes a and then b, after others and before others: from a on, and where both end.
pub from_first : (pre a b rest : List ℕ) → pre ++ ((a ++ b) ++ rest) ≡ pre ++ (a ++ (b ++ rest))
from_first pre a b rest = ap (λ (t : List ℕ). pre ++ t) (append_assoc a b rest)

pub both_ended : (pre a b : List ℕ) → length pre + length a + length b ≡ length pre + length (a ++ b)
both_ended pre a b = rw (length-append a b) (omega arith)

-- `isCount` says which fields may be counts: they are always there.
module _ (isCount : ℕ → Bool) where
  -- field i of a table: its count, that it is always there where it may be one, and that its values are below 2 ^ 32
  abbrev pub well_placed : Domain → ℕ → Bool
  well_placed d i = count_below isCount (presence d) i && ((if isCount i then is_always (presence d) else true) && ltb (largest d) (2 ^ 32))

  -- a table from field i on
  unfoldable pub well_ordered : ℕ → List Domain → Bool
  well_ordered i [] = true
  well_ordered i (d ∷ ds) = well_placed d i && well_ordered (i + 1) ds

  -- What reading the bytes of the fields fs of w into v comes to.
  pub record Back (fs : List Domain) (i : ℕ) (v w pre rest : List ℕ) : Type 0 where
    pub slots : List ℕ
    pub reads : fields fs (pre ++ (bytes_of_all (present_numbers fs i w) ++ rest)) (length pre) i v ≡ got (placed slots (length pre + length (bytes_of_all (present_numbers fs i w))))
    pub agrees : (k : ℕ) → k < length fs → is_present (get_or fs k Grade) w ≡ true → slot slots (i + k) ≡ slot w (i + k)
    pub kept : (j : ℕ) → j < i → slot slots j ≡ slot v j

  module _ (w : List ℕ) where
    counts_stored : (i : ℕ) (v : List ℕ) → i < length v → SameCounts isCount i v w → SameCounts isCount (i + 1) (set v i (slot w i)) w
    counts_stored i v l a k c h = go (dec_le i k)
      where
        go : Dec (i ≤ k) → slot w k ≡ slot (set v i (slot w i)) k
        go (yes g) = let z : k ≡ i = omega arith in rw z (sym (get_or-set_same v i (slot w i) 0 l))
        go (no g) = a k c (omega arith) ∙ sym (get_or-set_other v i k (slot w i) 0 (λ f. omega arith))

    counts_kept : (i : ℕ) (v : List ℕ) (d : Domain) → is_present d w ≡ false → (if isCount i then is_always (presence d) else true) ≡ true → SameCounts isCount i v w → SameCounts isCount (i + 1) v w
    counts_kept i v d n t a k c h = go (dec_le i k)
      where
        go : Dec (i ≤ k) → slot w k ≡ slot v k
        go (yes g) =
            let z : k ≡ i = omega arith in
            let p : is_always (presence d) ≡ true = rw (rw z at c) at t in
            absurd (true≢false (sym (always_present d w p) ∙ n))
        go (no g) = a k c (omega arith)

    module _ (d : Domain) (ds : List Domain) (i : ℕ) (v pre rest : List ℕ) where
      -- a field that is not there
      absent : is_present d v ≡ is_present d w → is_present d w ≡ false → Back ds (i + 1) v w pre rest → Back (d ∷ ds) i v w pre rest
      unfolding fields field present_numbers
      absent same n r =
          let m : is_present d v ≡ false = same ∙ n in
          record { slots = r.slots; reads = rw (n, m) r.reads; agrees = agrees; kept = λ j g. r.kept j (omega arith) }
        where
          agrees : (k : ℕ) → k < suc (length ds) → is_present (get_or (d ∷ ds) k Grade) w ≡ true → slot r.slots (i + k) ≡ slot w (i + k)
          agrees zero g m = absurd (true≢false (sym m ∙ n))
          agrees (suc k) g m = let z : i + suc k ≡ i + 1 + k = omega arith in rw z (r.agrees k (omega arith) m)

      field_read : (s : List ℕ) (p x next : ℕ) → is_present d v ≡ true → number_at s p ≡ Ok (x, next) → holds d x ≡ true
          → fields (d ∷ ds) s p i v ≡ fields ds s next (i + 1) (set v i x)
      unfolding fields field
      field_read s p x next m e q = rw (m, number_passes Field (holds d) s p x next e q)

      -- one that is there
      there : (x : ℕ) → slot w i ≡ x → x < 2 ^ 32 → i < length v → is_present d v ≡ is_present d w → is_present d w ≡ true → holds d x ≡ true
          → Back ds (i + 1) (set v i x) w (pre ++ bytes_of x) rest → Back (d ∷ ds) i v w pre rest
      unfolding present_numbers bytes_of_all
      there x e l k same n q r =
          let t = bytes_of_all (present_numbers ds (i + 1) w) in
          let one = from_first pre (bytes_of x) t rest in
          let two = append_assoc pre (bytes_of x) (t ++ rest) in
          let at = length-append pre (bytes_of x) in
          record {
            slots = r.slots;
            reads =
                rw (n, e, one)
                (field_read _ (length pre) x (length pre + length (bytes_of x)) (same ∙ n) (bytes_read x l pre (t ++ rest)) q ∙ rw (← two, ← at) r.reads
                ∙ ap (λ (m : ℕ). got (placed r.slots m)) (ap (λ (m : ℕ). m + length t) at ∙ both_ended pre (bytes_of x) t));
            agrees = agrees;
            kept = λ j g. r.kept j (omega arith) ∙ get_or-set_other v i j x 0 (λ f. omega arith);
          }
        where
          agrees : (k : ℕ) → k < suc (length ds) → is_present (get_or (d ∷ ds) k Grade) w ≡ true → slot r.slots (i + k) ≡ slot w (i + k)
          agrees zero g m = rw (add-zero i) (r.kept i (omega arith) ∙ get_or-set_same v i x 0 k ∙ sym e)
          agrees (suc j) g m = let z : i + suc j ≡ i + 1 + j = omega arith in rw z (r.agrees j (omega arith) m)

    pub back : (fs : List Domain) (i : ℕ) (v : List ℕ) → well_ordered i fs ≡ true → i + length fs ≤ length v → SameCounts isCount i v w → fields_hold fs i w ≡ true
        → (pre rest : List ℕ) → Back fs i v w pre rest
    unfolding fields present_numbers well_ordered bytes_of_all
    back [] i v o l a h pre rest =
        record { slots = v; reads = ap (λ (n : ℕ). got (placed v n)) (sym (add-zero (length pre))); agrees = λ k g m. absurd (omega arith); kept = λ j g. refl }
    back (d ∷ ds) i v o l a h pre rest =
        go (is_present d w) refl
        (λ n. back ds (i + 1) v t.1 (omega arith) (counts_kept i v d n u.1.0 a) f.1 pre rest)
        (back ds (i + 1) (set v i (slot w i)) t.1 (rw (length-set v i (slot w i)) (omega arith)) (counts_stored i v (omega arith) a) f.1 (pre ++ bytes_of (slot w i)) rest)
      where
        t : (well_placed d i ≡ true) × (well_ordered (i + 1) ds ≡ true)
        t = both_true (well_placed d i) _ o

        u : (count_below isCount (presence d) i ≡ true) × (((if isCount i then is_always (presence d) else true) ≡ true) × (ltb (largest d) (2 ^ 32) ≡ true))
        u = let p = both_true (count_below isCount (presence d) i) _ t.0 in (p.0, both_true (if isCount i then is_always (presence d) else true) _ p.1)

        f : (field_holds d i w ≡ true) × (fields_hold ds (i + 1) w ≡ true)
        f = both_true (field_holds d i w) (fields_hold ds (i + 1) w) h

        same : is_present d v ≡ is_present d w
        same = sym (present_same isCount d i v w u.0 a)

        go : (c : Bool) → is_present d w ≡ c → (is_present d w ≡ false → Back ds (i + 1) v w pre rest)
            → Back ds (i + 1) (set v i (slot w i)) w (pre ++ bytes_of (slot w i)) rest → Back (d ∷ ds) i v w pre rest
        go false n skip next = absent d ds i v pre rest same n (skip n)
        go true n skip next =
            there d ds i v pre rest (slot w i) refl (omega (arith, at_most d i w n f.0, ltb-true (largest d) (2 ^ 32) u.1.1)) (omega arith) same n (present_holds d i w n f.0) next

-- ---- Every kind's table is well ordered: its counts are fields that are always there.

abbrev pub always_there : List Domain → ℕ → Bool
always_there fs k = is_always (presence (get_or fs k Grade))

pub kind_ordered : (kind : MemberKind) → well_ordered (always_there (fields_of kind)) 0 (fields_of kind) ≡ true
unfolding well_ordered fields_of largest
kind_ordered (kinds.Beam false) = refl
kind_ordered (kinds.Beam true) = refl
kind_ordered kinds.Column = refl
kind_ordered kinds.Mesh = refl
