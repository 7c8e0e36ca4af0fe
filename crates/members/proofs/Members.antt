-- The steps of reading members, as the code takes them.
use Rattle.std.specs.Prelude.{Err, Ok, Result}
use Prim.Native.Nat.{ℕ, zero, suc, ◌+◌, ◌-◌, ◌≤◌, ◌<◌}
use mathlib.Core.Path.{◌≡◌, refl, sym, ap, ◌∙◌}
use mathlib.Core.List.{List, [], ◌∷◌}
use native.Mathlib.Omega.{arith}
use lib.ListN.{length}
use Rattle.question.specs.declared.Question.{Question}
use Rattle.question.specs.declared.Question.TheVariants.{Mark, Kind}
use Rattle.question.specs.declared.Refusal.{Refusal}
use Rattle.member.specs.Member.{Member}
use Rattle.field_table.specs.declared.MemberKind.{MemberKind}
use Rattle.field_table.specs.Fields.{known, kind_of, fields_of}
use Rattle.verdict.specs.declared.Built.{Built}
use Rattle.verdict.specs.Built.{member_of}
use Rattle.verdict.specs.Verdict.{member_verdict}
use Rattle.question.specs.Reading.{Reading, got, no, and_then, refusal, named}
use Rattle.varint.specs.Placed.{Placed, placed}
use Rattle.varint.specs.Moved.{reading_of}
use Rattle.field_check.specs.declared.Slots.{Slots}
use Rattle.field_validator.specs.FieldsAt.{empty, checked, fields}
use Rattle.field_validator.specs.FieldsResult.{fields_read_of}
use Rattle.members.specs.Members.{member_body, mark_rises, mark_at, kind_at, member, members}
use Rattle.members.specs.MembersResult.{marked, members_end}

-- ---- A member.

-- what the code's result for fields says of their reading
module _ (r : Result Slots Question) (p : ℕ) (o : Reading Question (Placed (List ℕ))) (was : reading_of (fields_read_of r) p ≡ o) where
  pub fields_read : (w : Slots) → r ≡ Ok w → o ≡ got (placed w.v p)
  fields_read w e = rw (← was, e)

  pub fields_refused : (q : Question) → r ≡ Err q → o ≡ no q
  fields_refused q e = rw (← was, e)

-- what the mark of a reading says of it
record MarkedGot (o : Reading Question (Placed Built)) (mark next : ℕ) : Type 0 where
  built : Built
  was : o ≡ got (placed built next)
  mark_is : built.mark ≡ mark

marked_got : (o : Reading Question (Placed Built)) (mark next : ℕ) → marked o ≡ got (placed mark next) → MarkedGot o mark next
marked_got (got b) mark next e =
    let same : placed b.value.mark b.next ≡ placed mark next = cc in
    record {
      built = b.value;
      was = ap (λ (k : ℕ). got (placed b.value k)) (ap (λ (x : Placed ℕ). x.next) same);
      mark_is = ap (λ (x : Placed ℕ). x.value) same;
    }
marked_got (no q) mark next e = absurd (let z : ◌≡◌ {A = ℕ} 0 1 = cc in omega arith)

marked_no : (o : Reading Question (Placed Built)) (q : Question) → marked o ≡ no q → o ≡ no q
marked_no (got b) q e = absurd (let z : ◌≡◌ {A = ℕ} 0 1 = cc in omega arith)
marked_no (no r) q e = cc

module _ (mark number : ℕ) (kind : MemberKind) (is : kind ≡ kind_of number) (s : List ℕ) (p : ℕ) where
  pub body_no : (q : Question) → fields (fields_of kind) s p 0 empty ≡ no q → marked (member_body mark number s p) ≡ no q
  unfolding member_body
  body_no q e = rw (← is, e)

  module _ (v : List ℕ) (next : ℕ) (e : fields (fields_of kind) s p 0 empty ≡ got (placed v next)) where
    pub body_accepted : member_verdict kind v ≡ Ok tt → marked (member_body mark number s p) ≡ got (placed mark next)
    unfolding member_body
    body_accepted f = rw (← is, e, f)

    pub body_refused : (q : Question) → member_verdict kind v ≡ Err q → marked (member_body mark number s p) ≡ no q
    unfolding member_body
    body_refused q f = rw (← is, e, f)

-- a member from its kind on, and from its fields on
abbrev pub from_kind : ℕ → List ℕ → Placed ℕ → Reading Question (Placed ℕ)
from_kind mark s k = marked (member_body mark k.value s k.next)

abbrev pub from_mark : List ℕ → Placed ℕ → Reading Question (Placed ℕ)
from_mark s m = and_then (checked Kind known s m.next) (from_kind m.value s)

pub member_steps : (s : List ℕ) (p before : ℕ) → marked (member s p before) ≡ and_then (checked Mark (mark_rises before) s p) (from_mark s)
unfolding member mark_at kind_at
member_steps s p before = marks (checked Mark (mark_rises before) s p)
  where
    kinds : (m : Placed ℕ) (o : Reading Question (Placed ℕ))
        → marked (and_then o (λ k. member_body m.value k.value s k.next)) ≡ and_then o (from_kind m.value s)
    kinds m (got k) = refl
    kinds m (no q) = refl

    marks : (o : Reading Question (Placed ℕ))
        → marked (and_then o (λ m. and_then (checked Kind known s m.next) (λ k. member_body m.value k.value s k.next))) ≡ and_then o (from_mark s)
    marks (got m) = kinds m (checked Kind known s m.next)
    marks (no q) = refl

-- ---- Members in a row.

pub no_member : (n : ℕ) (s : List ℕ) (p before i : ℕ) → n ≤ 0 → members n s p before i ≡ got (placed [] p)
unfolding members
no_member n s p before i h = let e : n ≡ 0 = omega arith in rw e

pub member_refused : (n : ℕ) (s : List ℕ) (p before i : ℕ) → 0 < n → (r : Result ℕ Question) (next : ℕ) → reading_of r next ≡ marked (member s p before)
    → (q : Question) → r ≡ Err q → members n s p before i ≡ no (refusal q i)
unfolding members
member_refused n s p before i h r next was q e =
    let one_more : n ≡ suc (n - 1) = omega arith in
    rw (one_more, marked_no (member s p before) q (sym (rw e at was)))

module _ (n m : ℕ) (s : List ℕ) (p before i : ℕ) (one_more : n ≡ suc m) where
  pub member_read : (r : Result ℕ Question) (next : ℕ) → reading_of r next ≡ marked (member s p before) → (mark : ℕ) → r ≡ Ok mark
      → members_end (members n s p before i) ≡ members_end (members m s next mark (i + 1))
  unfolding members
  member_read r next was mark e =
      let b = marked_got (member s p before) mark next (sym (rw e at was)) in
      ap (λ (k : ℕ). members_end (members k s p before i)) one_more
      ∙ after b.built b.was
      ∙ ap (λ (k : ℕ). members_end (members m s next k (i + 1))) b.mark_is
    where
      kept : (m : Member) (o : Reading Refusal (Placed (List Member)))
          → members_end (and_then o (λ ms. got (placed (m ∷ ms.value) ms.next))) ≡ members_end o
      kept m (got ms) = refl
      kept m (no r) = refl

      after : (b : Built) → member s p before ≡ got (placed b next) → members_end (members (suc m) s p before i) ≡ members_end (members m s next b.mark (i + 1))
      after b f = rw f (kept (member_of b) (members m s next b.mark (i + 1)))

-- What a row of n members that was read says of its first member and of the others.
pub record FirstRead (n : ℕ) (s : List ℕ) (p before i : ℕ) (ms : List Member) (end : ℕ) : Type 0 where
  pub first : Built
  pub next : ℕ
  pub others : List Member
  pub reads : member s p before ≡ got (placed first next)
  pub list : ms ≡ member_of first ∷ others
  pub reads_others : members n s next first.mark (i + 1) ≡ got (placed others end)

pub first_read : (n : ℕ) (s : List ℕ) (p before i : ℕ) (ms : List Member) (end : ℕ) → members (suc n) s p before i ≡ got (placed ms end)
    → FirstRead n s p before i ms end
unfolding members
first_read n s p before i ms end = on_member (member s p before) refl
  where
    Goal : Reading Refusal (Placed (List Member)) → Type 0
    Goal o = o ≡ got (placed ms end) → FirstRead n s p before i ms end

    on_rest : (b : Built) (next : ℕ) → member s p before ≡ got (placed b next) → (o : Reading Refusal (Placed (List Member))) → members n s next b.mark (i + 1) ≡ o
        → Goal (and_then o (λ r. got (placed (member_of b ∷ r.value) r.next)))
    on_rest b next e (got r) f g =
        let same : placed (member_of b ∷ r.value) r.next ≡ placed ms end = cc in
        let list : member_of b ∷ r.value ≡ ms = ap (λ (x : Placed (List Member)). x.value) same in
        let ends : r.next ≡ end = ap (λ (x : Placed (List Member)). x.next) same in
        record {
          first = b;
          next = next;
          others = r.value;
          reads = e;
          list = sym list;
          reads_others = f ∙ ap (λ (k : ℕ). got (placed r.value k)) ends;
        }
    on_rest b next e (no r) f g = absurd (let z : ◌≡◌ {A = ℕ} 0 1 = cc in omega arith)

    on_member : (o : Reading Question (Placed Built)) → member s p before ≡ o
        → Goal (and_then (named i o) (λ m. and_then (members n s m.next m.value.mark (i + 1)) (λ r. got (placed (member_of m.value ∷ r.value) r.next))))
    on_member (got m) e g = on_rest m.value m.next e (members n s m.next m.value.mark (i + 1)) refl g
    on_member (no q) e g = absurd (let z : ◌≡◌ {A = ℕ} 0 1 = cc in omega arith)

-- as many members as the count says
pub members_length : (n : ℕ) (s : List ℕ) (p before i : ℕ) (ms : List Member) (end : ℕ) → members n s p before i ≡ got (placed ms end) → length ms ≡ n
unfolding members
members_length zero s p before i ms end e =
    let same : placed [] p ≡ placed ms end = cc in ap length (sym (ap (λ (x : Placed (List Member)). x.value) same))
members_length (suc n) s p before i ms end e =
    let f = first_read n s p before i ms end e in
    ap length f.list ∙ ap suc (members_length n s f.next f.first.mark (i + 1) f.others end f.reads_others)
