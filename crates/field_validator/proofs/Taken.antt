-- Fields taken as numbers: in rows as the code takes them, and against the fields read one by one.
use Prim.Native.Nat.{ℕ, zero, suc, ◌+◌, ◌-◌, ◌*◌, ◌≤◌, ◌<◌, min}
use mathlib.Core.Path.{◌≡◌, refl, sym, ap, ◌∙◌}
use mathlib.Core.Bool.{Bool, true, false, ◌&&◌}
use mathlib.Core.List.{List, [], ◌∷◌, ◌++◌}
use native.Mathlib.Omega.{arith}
use lib.ListN.{length, get_or, set, take, drop, length-set}
use lib.Seq.{get_or-set_same, get_or-set_other}
use borrow.Author.Tests.{lt-ltb, le-ltb}
use Rattle.std.specs.Prelude.{if◌then◌else◌, Err, Ok, Result}
use Rattle.quantity.proofs.Choice.{if_case, both_true}
use Rattle.question.specs.declared.Question.{Question}
use Rattle.varint.specs.Varint.{Number}
use Rattle.varint.specs.Varint.{number_at}
use Rattle.field_domain.specs.declared.Domain.{Domain}
use Rattle.field_domain.specs.declared.Domain.TheVariants.{Range, GroupDiameter, GroupBars}
use Rattle.field_domain.specs.Domain.{presence, is_always, is_present, holds, field_holds}
use Rattle.field_domain.proofs.Present.{count_below, any_slot, present_same, present_holds, always_present}
use Rattle.field_table.specs.declared.MemberKind.{MemberKind}
use Rattle.field_table.specs.Fields.{tension_count, compression_count, beam_links, column_count, column_links, groups, beam_fields_of, column_fields, mesh_fields, fields_of}
use Rattle.field_check.specs.FieldCheck.{fields_hold}
use Rattle.field_table.proofs.Tables.{fields_fit}
use Rattle.field_validator.specs.Taken.{FieldsEnd}
use Rattle.question.specs.Reading.{Reading, got, no, and_then}
use Rattle.varint.specs.Placed.{Placed, placed, of_number}
use Rattle.varint.specs.Moved.{reading_of, Moved}
use Rattle.varint.specs.declared.Cursor.{Cursor}
use Rattle.varint.proofs.Moved.{moved_refused, moved_on}
use Rattle.field_validator.specs.FieldsAt.{empty, field, fields}
use Rattle.field_validator.specs.Taken.{Stopped, stopped, stored_by, stored, taken_row, taken, fields_end_of}
use Rattle.field_validator.proofs.Held.{on_field, ordered, in_order}

-- ---- Cases.

-- a number is stored, or refused
on_stored : (P : Reading Stopped (Placed (List ℕ)) → Type 0) (s : List ℕ) (p i : ℕ) (v : List ℕ)
    → ((x next : ℕ) → number_at s p ≡ Ok (x, next) → P (got (placed (set v i x) next))) → ((q : Question) → P (no (stopped q v))) → P (stored s p i v)
unfolding stored
on_stored P s p i v kept refused = cases (number_at s p) refl
  where
    cases : (n : Number) → number_at s p ≡ n → P (stored_by n i v)
    cases (Ok (x, next)) e = kept x next e
    cases (Err q) e = refused q

-- a field is not there, is stored, or its number is refused
pub on_taken : (P : Reading Stopped (Placed (List ℕ)) → Type 0) (d : Domain) (s : List ℕ) (p i : ℕ) (v : List ℕ)
    → (is_present d v ≡ false → P (got (placed v p)))
    → ((x next : ℕ) → is_present d v ≡ true → number_at s p ≡ Ok (x, next) → P (got (placed (set v i x) next)))
    → ((q : Question) → P (no (stopped q v))) → P (if is_present d v then stored s p i v else got (placed v p))
on_taken P d s p i v absent kept refused =
    if_case P (is_present d v) _ _ (λ a. on_stored P s p i v (λ x next n. kept x next a n) refused) absent

-- ---- Against the fields read one by one.

pub got_is : {N A : Type 0} {a b : A} → ◌≡◌ {A = Reading N A} (got a) (got b) → a ≡ b
got_is e = cc

module _ (s w : List ℕ) (q : ℕ) where
  -- slots below the first one are kept
  pub kept : (fs : List Domain) (p i : ℕ) (v : List ℕ) → taken fs s p i v ≡ got (placed w q) → (j : ℕ) → j < i → get_or w j 0 ≡ get_or v j 0
  unfolding taken
  kept [] p i v e =
      λ j h. ap (λ (x : List ℕ). get_or x j 0) (sym (ap (λ (x : Placed (List ℕ)). x.value) (got_is e)))
  kept (d ∷ ds) p i v u =
      on_taken (λ r. and_then r (λ x. taken ds s x.next (i + 1) x.value) ≡ got (placed w q) → (j : ℕ) → j < i → get_or w j 0 ≡ get_or v j 0) d s p i v
      (λ a e j h. kept ds p (i + 1) v e j (omega arith))
      (λ x next a n e j h. kept ds next (i + 1) (set v i x) e j (omega arith) ∙ get_or-set_other v i j x 0 (λ f. omega arith))
      (λ r e. absurd (let z : ◌≡◌ {A = ℕ} 0 1 = cc in omega arith))
      u

  -- fields that were taken and pass question 7 are read
  taken_read : (fs : List Domain) (p i : ℕ) (v : List ℕ) → ordered i fs ≡ true → i + length fs ≤ length v → taken fs s p i v ≡ got (placed w q)
      → fields_hold fs i w ≡ true → fields fs s p i v ≡ got (placed w q)
  unfolding taken fields ordered field_holds field
  taken_read [] p i v o l e h = ap got (got_is e)
  taken_read (d ∷ ds) p i v o l u h =
      on_taken (λ r. and_then r (λ x. taken ds s x.next (i + 1) x.value) ≡ got (placed w q) → fields (d ∷ ds) s p i v ≡ got (placed w q)) d s p i v
      (λ a e. rw a (taken_read ds p (i + 1) v b.1 (omega arith) e t.1))
      (λ x next a n e.
      let k = kept ds next (i + 1) (set v i x) e in
      let at : get_or w i 0 ≡ x = k i (omega arith) ∙ get_or-set_same v i x 0 (omega arith) in
      let same : is_present d w ≡ true = present_same any_slot d i v w b.0 (λ j _ g. k j (omega arith) ∙ get_or-set_other v i j x 0 (λ f. omega arith)) ∙ a in
      let held : holds d x ≡ true = rw (← at) (present_holds d i w same t.0) in
      rw (a, n, held) (taken_read ds next (i + 1) (set v i x) b.1 (rw (length-set v i x) (omega arith)) e t.1))
      (λ r e. absurd (let z : ◌≡◌ {A = ℕ} 0 1 = cc in omega arith))
      u
    where
      b : (count_below any_slot (presence d) i ≡ true) × (ordered (i + 1) ds ≡ true)
      b = both_true (count_below any_slot (presence d) i) (ordered (i + 1) ds) o

      t : (field_holds d i w ≡ true) × (fields_hold ds (i + 1) w ≡ true)
      t = both_true (field_holds d i w) (fields_hold ds (i + 1) w) h

  -- fields that are read are taken
  read_taken : (fs : List Domain) (p i : ℕ) (v : List ℕ) → fields fs s p i v ≡ got (placed w q) → taken fs s p i v ≡ got (placed w q)
  unfolding taken fields stored
  read_taken [] p i v e = ap got (got_is e)
  read_taken (d ∷ ds) p i v u =
      on_field (λ r. and_then r (λ x. fields ds s x.next (i + 1) x.value) ≡ got (placed w q) → taken (d ∷ ds) s p i v ≡ got (placed w q)) d s p i v
      (λ a e. rw a (read_taken ds p (i + 1) v e))
      (λ x next a n t e. rw (a, n) (read_taken ds next (i + 1) (set v i x) e))
      (λ r e. absurd (let z : ◌≡◌ {A = ℕ} 0 1 = cc in omega arith))
      u

-- a member's fields that were taken and pass question 7 are those that are read
pub taken_fields : (s w : List ℕ) (p q : ℕ) (kind : MemberKind) → taken (fields_of kind) s p 0 empty ≡ got (placed w q) → fields_hold (fields_of kind) 0 w ≡ true
    → fields (fields_of kind) s p 0 empty ≡ got (placed w q)
taken_fields s w p q kind e h = taken_read s w q (fields_of kind) p 0 empty (in_order kind) (omega (arith, fields_fit kind)) e h

pub fields_taken : (s w : List ℕ) (p q : ℕ) (kind : MemberKind) → fields (fields_of kind) s p 0 empty ≡ got (placed w q) → taken (fields_of kind) s p 0 empty ≡ got (placed w q)
fields_taken s w p q kind e = read_taken s w q (fields_of kind) p 0 empty e

-- ---- A row, as the code takes it.

module _ (s : List ℕ) (p end i : ℕ) (v : List ℕ) where
  pub row_ended : end ≤ i → taken_row (end - i) s p i v ≡ got (placed v p)
  unfolding taken_row
  row_ended h = let z : end - i ≡ 0 = omega arith in rw z

  module _ (h : i < end) where
    one_more : end - i ≡ suc (end - (i + 1))
    one_more = omega arith

    module _ (r : Result ℕ Question) (next : ℕ) (e : reading_of r next ≡ of_number (number_at s p)) where
      pub row_refused : (q : Question) → r ≡ Err q → taken_row (end - i) s p i v ≡ no (stopped q v)
      unfolding taken_row stored
      row_refused q f = rw one_more (refused (number_at s p) (rw f at e))
        where
          refused : (n : Number) → no q ≡ of_number n → and_then (stored_by n i v) (λ r. taken_row (end - (i + 1)) s r.next (i + 1) r.value) ≡ no (stopped q v)
          refused (Ok x) g = absurd (let z : ◌≡◌ {A = ℕ} 0 1 = cc in omega arith)
          refused (Err k) g = cc

      pub row_stored : (x : ℕ) → r ≡ Ok x → taken_row (end - i) s p i v ≡ taken_row (end - (i + 1)) s next (i + 1) (set v i x)
      unfolding taken_row stored
      row_stored x f = rw one_more (kept_on (number_at s p) (rw f at e))
        where
          kept_on : (n : Number) → got (placed x next) ≡ of_number n → and_then (stored_by n i v) (λ r. taken_row (end - (i + 1)) s r.next (i + 1) r.value) ≡ taken_row (end - (i + 1)) s next (i + 1) (set v i x)
          kept_on (Ok (y, k)) g = let same : placed x next ≡ placed y k = cc in rw (ap (λ (r : Placed ℕ). r.value) same, ap (λ (r : Placed ℕ). r.next) same)
          kept_on (Err k) g = absurd (let z : ◌≡◌ {A = ℕ} 0 1 = cc in omega arith)

-- a row that was refused or taken, and what follows it
module _ (old mid : Cursor) (r : FieldsEnd) (v : List ℕ) (o : Reading Stopped (Placed (List ℕ))) (m : Moved old o (fields_end_of r v) mid)
    (f : List ℕ → Placed (List ℕ) → Reading Stopped (Placed (List ℕ))) where
  pub then_refused : (q : Question) → r ≡ Err q → (t : FieldsEnd) → t ≡ Err q → Moved old (and_then o (f old.src.now)) (fields_end_of t v) mid
  then_refused q e t g = moved_refused old mid _ o m f (stopped q v) (rw e) _ (rw g)

  pub then_on : r ≡ (Ok tt) → (new : Cursor) (t : FieldsEnd) (w : List ℕ) → Moved mid (f mid.src.now (placed v mid.at)) (fields_end_of t w) new
      → Moved old (and_then o (f old.src.now)) (fields_end_of t w) new
  then_on e new t w n = moved_on old mid _ o m f v (rw e) new _ n

pub end_got : (r : FieldsEnd) (v : List ℕ) (p : ℕ) (o : Reading Stopped (Placed (List ℕ))) → reading_of (fields_end_of r v) p ≡ o → r ≡ (Ok tt) → o ≡ got (placed v p)
end_got r v p o was e = rw (← was, e)

-- ---- Rows.

-- one list after another
taken_append : (xs ys : List Domain) (s : List ℕ) (p i : ℕ) (v : List ℕ)
    → taken (xs ++ ys) s p i v ≡ and_then (taken xs s p i v) (λ r. taken ys s r.next (i + length xs) r.value)
unfolding taken
taken_append [] ys s p i v = let z : i + 0 ≡ i = omega arith in rw z
taken_append (x ∷ xs) ys s p i v = after (taken_append xs ys s) (if is_present x v then stored s p i v else got (placed v p))
  where
    after : ((p i : ℕ) (v : List ℕ) → taken (xs ++ ys) s p i v ≡ and_then (taken xs s p i v) (λ r. taken ys s r.next (i + length xs) r.value))
        → (o : Reading Stopped (Placed (List ℕ)))
        → and_then o (λ r. taken (xs ++ ys) s r.next (i + 1) r.value)
        ≡ and_then (and_then o (λ r. taken xs s r.next (i + 1) r.value)) (λ r. taken ys s r.next (i + suc (length xs)) r.value)
    after more (got r) = let z : i + suc (length xs) ≡ i + 1 + length xs = omega arith in rw z (more r.next (i + 1) r.value)
    after more (no r) = refl

-- Fields of which the first m are there and the others not, whatever the slots from i on hold, are a row of m numbers.
module _ (Q : List ℕ → Type 0) (least : ℕ) (stays : (v : List ℕ) (i x : ℕ) → least ≤ i → Q v → Q (set v i x)) where
  Row : List Domain → ℕ → Type 0
  Row [] zero = Unit {0}
  Row [] (suc m) = ⊥
  Row (d ∷ ds) zero = ((v : List ℕ) → Q v → is_present d v ≡ false) × Row ds zero
  Row (d ∷ ds) (suc m) = ((v : List ℕ) → Q v → is_present d v ≡ true) × Row ds m

  rows_taken : (fs : List Domain) (m : ℕ) → Row fs m → (s : List ℕ) (p i : ℕ) (v : List ℕ) → least ≤ i → Q v → taken fs s p i v ≡ taken_row m s p i v
  unfolding Row taken taken_row
  rows_taken [] zero r s p i v l h = refl
  rows_taken [] (suc m) r s p i v l h = absurd r
  rows_taken (d ∷ ds) zero r s p i v l h = rw (r.0 v h) (rows_taken ds zero r.1 s p (i + 1) v (omega arith) h)
  rows_taken (d ∷ ds) (suc m) r s p i v l h =
      rw (r.0 v h)
      (on_stored (λ o. and_then o (λ x. taken ds s x.next (i + 1) x.value) ≡ and_then o (λ x. taken_row m s x.next (i + 1) x.value)) s p i v
      (λ x next _. rows_taken ds m r.1 s next (i + 1) (set v i x) (omega arith) (stays v i x l h))
      (λ q. refl))

-- Fields that are there whatever the slots hold.
all_plain : List Domain → Bool
all_plain [] = true
all_plain (d ∷ ds) = is_always (presence d) && all_plain ds

Any : List ℕ → Type 0
Any v = Unit {0}

any_stays : (v : List ℕ) (i x : ℕ) → 0 ≤ i → Any v → Any (set v i x)
unfolding Any
any_stays v i x l h = tt

plain_row : (fs : List Domain) → all_plain fs ≡ true → Row Any 0 any_stays fs (length fs)
unfolding Row all_plain
plain_row [] e = tt
plain_row (d ∷ ds) e = let b = both_true (is_always (presence d)) (all_plain ds) e in ((λ v _. always_present d v b.0), plain_row ds b.1)

row_plain : (fs : List Domain) → all_plain fs ≡ true → (s : List ℕ) (p i : ℕ) (v : List ℕ) → taken fs s p i v ≡ taken_row (length fs) s p i v
unfolding Any
row_plain fs e s p i v = rows_taken Any 0 any_stays fs (length fs) (plain_row fs e) s p i v (omega arith) tt

-- A list whose count k is n: two numbers to each of its first four groups.
module _ (k n : ℕ) where
  Count : List ℕ → Type 0
  Count v = get_or v k 0 ≡ n

  count_stays : (v : List ℕ) (i x : ℕ) → k + 1 ≤ i → Count v → Count (set v i x)
  unfolding Count
  count_stays v i x l h = get_or-set_other v i k x 0 (λ f. omega arith) ∙ h

  Rows : List Domain → ℕ → Type 0
  Rows = Row Count (k + 1) count_stays

  there : (j : ℕ) → j < n → (ds : List Domain) (m : ℕ) → Rows ds m → Rows (GroupDiameter k j ∷ GroupBars k j ∷ ds) (suc (suc m))
  unfolding Count Rows Row is_present
  there j l ds m r = ((λ v h. rw h (lt-ltb j n l)), ((λ v h. rw h (lt-ltb j n l)), r))

  past : (j : ℕ) → n ≤ j → (ds : List Domain) → Rows ds zero → Rows (GroupDiameter k j ∷ GroupBars k j ∷ ds) zero
  unfolding Count Rows Row is_present
  past j l ds r = ((λ v h. rw h (le-ltb j n l)), ((λ v h. rw h (le-ltb j n l)), r))

  none : Rows [] zero
  unfolding Rows Row
  none = tt

  -- g is n, but at most four
  row : (g : ℕ) → g ≤ n → (g < 4 → n ≤ g) → g ≤ 4 → Rows (groups k) (2 * g)
  row zero few all h =
      past 0 (all (omega arith)) _ (past 1 (omega (arith, all (omega arith))) _ (past 2 (omega (arith, all (omega arith))) _ (past 3 (omega (arith, all (omega arith))) _ none)))
  row (suc zero) few all h =
      there 0 (omega arith) _ _ (past 1 (omega (arith, all (omega arith))) _ (past 2 (omega (arith, all (omega arith))) _ (past 3 (omega (arith, all (omega arith))) _ none)))
  row (suc (suc zero)) few all h =
      there 0 (omega arith) _ _ (there 1 (omega arith) _ _ (past 2 (omega (arith, all (omega arith))) _ (past 3 (omega (arith, all (omega arith))) _ none)))
  row (suc (suc (suc zero))) few all h =
      there 0 (omega arith) _ _ (there 1 (omega arith) _ _ (there 2 (omega arith) _ _ (past 3 (omega (arith, all (omega arith))) _ none)))
  row (suc (suc (suc (suc zero)))) few all h = there 0 (omega arith) _ _ (there 1 (omega arith) _ _ (there 2 (omega arith) _ _ (there 3 (omega arith) _ _ none)))
  row (suc (suc (suc (suc (suc g))))) few all h = absurd (omega arith)

  list_row : (g : ℕ) → g ≡ min n 4 → (s : List ℕ) (p : ℕ) (v : List ℕ) → get_or v k 0 ≡ n → taken (groups k) s p (k + 1) v ≡ taken_row (2 * g) s p (k + 1) v
  unfolding Count Rows
  list_row g h s p v e =
      rows_taken Count (k + 1) count_stays (groups k) (2 * g) (row g (omega arith) (λ l. omega arith) (omega arith)) s p (k + 1) v (omega arith) e

-- as the code takes it
pub list_taken : (k g : ℕ) (s : List ℕ) (p : ℕ) (v : List ℕ) → g ≡ min (get_or v k 0) 4 → taken_row (k + 1 + 2 * g - (k + 1)) s p (k + 1) v ≡ taken (groups k) s p (k + 1) v
list_taken k g s p v h =
    let z : k + 1 + 2 * g - (k + 1) ≡ 2 * g = omega arith in
    ap (λ (m : ℕ). taken_row m s p (k + 1) v) z ∙ sym (list_row k (get_or v k 0) g h s p v refl)

-- ---- By kind: rows and lists, one after the other.

and_same : {N A B : Type 0} (o : Reading N A) (f g : A → Reading N B) → ((a : A) → f a ≡ g a) → and_then o f ≡ and_then o g
and_same (got a) f g e = e a
and_same (no q) f g e = refl

module _ (s : List ℕ) where
  abbrev pub row_from : ℕ → ℕ → Placed (List ℕ) → Reading Stopped (Placed (List ℕ))
  row_from m i r = taken_row m s r.next i r.value

  abbrev pub list_from : ℕ → Placed (List ℕ) → Reading Stopped (Placed (List ℕ))
  list_from k r = taken (groups k) s r.next (k + 1) r.value

  -- fields that are there, then others
  plain_then : (xs ys : List Domain) → all_plain xs ≡ true → (p i : ℕ) (v : List ℕ)
      → taken (xs ++ ys) s p i v ≡ and_then (taken_row (length xs) s p i v) (λ r. taken ys s r.next (i + length xs) r.value)
  plain_then xs ys e p i v = taken_append xs ys s p i v ∙ rw (row_plain xs e s p i v)

  -- the fields of a beam from each of its rows and lists on: the loads, the count of the compression bars, the list of the tension bars
  abbrev pub from_links : Bool → Placed (List ℕ) → Reading Stopped (Placed (List ℕ))
  from_links pointLoad d = taken (drop beam_links (beam_fields_of pointLoad)) s d.next beam_links d.value

  abbrev pub from_compression : Bool → Placed (List ℕ) → Reading Stopped (Placed (List ℕ))
  from_compression pointLoad c = and_then (list_from compression_count c) (from_links pointLoad)

  abbrev pub from_count : Bool → Placed (List ℕ) → Reading Stopped (Placed (List ℕ))
  from_count pointLoad b = and_then (row_from 1 compression_count b) (from_compression pointLoad)

  abbrev pub from_tension : Bool → Placed (List ℕ) → Reading Stopped (Placed (List ℕ))
  from_tension pointLoad a = and_then (list_from tension_count a) (from_count pointLoad)

  pub beam_rows : (pointLoad : Bool) (p : ℕ) (v : List ℕ)
      → taken (beam_fields_of pointLoad) s p 0 v ≡ and_then (taken_row 9 s p 0 v) (from_tension pointLoad)
  unfolding all_plain
  beam_rows pointLoad p v =
      let fs = beam_fields_of pointLoad in
      plain_then (take 9 fs) (drop 9 fs) refl p 0 v
      ∙ and_same (taken_row 9 s p 0 v) _ _ (λ a.
      taken_append (groups tension_count) (drop 17 fs) s a.next 9 a.value
      ∙ and_same (list_from tension_count a) _ _ (λ b.
      plain_then (Range 0 4 ∷ []) (drop 18 fs) refl b.next 17 b.value
      ∙ and_same (row_from 1 compression_count b) _ _ (λ c. taken_append (groups compression_count) (drop 26 fs) s c.next 18 c.value)))

  -- what follows a beam's lists: a row to the end of its table
  last_plain : (pointLoad : Bool) → all_plain (drop beam_links (beam_fields_of pointLoad)) ≡ true
  unfolding all_plain
  last_plain false = refl
  last_plain true = refl

  pub loads_row : (pointLoad : Bool) (end : ℕ) → end ≡ length (beam_fields_of pointLoad) → (p : ℕ) (v : List ℕ)
      → taken (drop beam_links (beam_fields_of pointLoad)) s p beam_links v ≡ taken_row (end - beam_links) s p beam_links v
  loads_row pointLoad end e p v =
      let n : end - beam_links ≡ length (drop beam_links (beam_fields_of pointLoad)) = omega arith in
      rw n (row_plain (drop beam_links (beam_fields_of pointLoad)) (last_plain pointLoad) s p beam_links v)

  -- the fields of a column from its list on
  abbrev pub from_groups : Placed (List ℕ) → Reading Stopped (Placed (List ℕ))
  from_groups a = and_then (list_from column_count a) (row_from 4 column_links)

  pub column_rows : (p : ℕ) (v : List ℕ) → taken column_fields s p 0 v ≡ and_then (taken_row 5 s p 0 v) from_groups
  unfolding all_plain
  column_rows p v =
      plain_then (take 5 column_fields) (drop 5 column_fields) refl p 0 v
      ∙ and_same (taken_row 5 s p 0 v) _ _ (λ a.
      taken_append (groups column_count) (drop 13 column_fields) s a.next 5 a.value
      ∙ and_same (list_from column_count a) _ _ (λ b. row_plain (drop 13 column_fields) refl s b.next 13 b.value))

  pub mesh_rows : (p : ℕ) (v : List ℕ) → taken mesh_fields s p 0 v ≡ taken_row 11 s p 0 v
  unfolding all_plain
  mesh_rows p v = row_plain mesh_fields refl s p 0 v
