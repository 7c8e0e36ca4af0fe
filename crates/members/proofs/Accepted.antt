-- What accepted members say: how they were read, and that each is accepted.
use Rattle.std.specs.Prelude.{Err, Ok}
use Prim.Native.Nat.{ℕ, zero, suc, ◌+◌, ◌-◌, ◌<◌}
use mathlib.Core.Path.{◌≡◌, refl, sym, ap, ◌∙◌}
use mathlib.Core.Bool.{Bool, true}
use mathlib.Core.List.{List, []}
use native.Mathlib.Omega.{arith}
use borrow.Author.Tests.{ltb-true, lt-ltb}
use Rattle.question.specs.declared.Question.{Question}
use Rattle.question.specs.declared.Question.TheVariants.{Mark, Kind}
use Rattle.varint.specs.Varint.{Number}
use Rattle.varint.specs.Varint.{number_at}
use Rattle.member.specs.Member.{Member}
use Rattle.member.specs.Accepted.{AcceptedMember, AcceptedMembers}
use Rattle.quantity.proofs.Choice.{both_true}
use Rattle.field_table.specs.Fields.{known, kind_of, fields_of}
use Rattle.field_check.specs.FieldCheck.{fields_hold}
use Rattle.field_domain.proofs.InRange.{in_between}
use Rattle.verdict.specs.declared.Built.{Built}
use Rattle.question.specs.Reading.{Verdict}
use Rattle.verdict.specs.Built.{member_of}
use Rattle.verdict.specs.Verdict.{mark_in_range, member_verdict}
use Rattle.verdict.proofs.Accepted.{accepted_member}
use Rattle.question.specs.Reading.{Reading, got, no, and_then, passed, Got}
use Rattle.varint.specs.Placed.{Placed, placed, of_number}
use Rattle.field_validator.specs.FieldsAt.{empty, checked, fields}
use Rattle.members.specs.Accepted.{AcceptedThen, AcceptedFrom}
use Rattle.members.specs.Members.{member_body, mark_rises, mark_at, kind_at, member, members}
use Rattle.field_validator.specs.Taken.{taken}
use Rattle.field_validator.proofs.Checked.{on_checked, passes, number_passes}
use Rattle.field_validator.proofs.Held.{fields_held}
use Rattle.field_validator.proofs.Taken.{got_is, fields_taken}
use Rattle.members.proofs.Members.{first_read}

-- ---- Steps taken apart.

pub no_got : {N A : Type 0} {q : N} {a : A} → no q ≡ got a → ⊥
no_got e = let z : ◌≡◌ {A = ℕ} 0 1 = cc in omega arith

-- what went on to a value had a value
pub record WentOn {N A B : Type 0} (o : Reading N A) (f : A → Reading N B) (b : B) : Type 0 where
  pub value : A
  pub was : o ≡ got value
  pub then : f value ≡ got b

pub went_on : {N A B : Type 0} (o : Reading N A) (f : A → Reading N B) (b : B) → and_then o f ≡ got b → WentOn o f b
went_on (got a) f b e = record { value = a; was = refl; then = e }
went_on (no q) f b e = absurd (no_got e)

-- ---- A member.

pub record MemberWas (s : List ℕ) (p before : ℕ) (b : Built) : Type 0 where
  pub accepted : AcceptedMember (member_of b)
  pub above : before < b.mark

body_accepted : (mark kind : ℕ) (s : List ℕ) (p : ℕ) (x : Placed Built) → mark_in_range mark ≡ true → member_body mark kind s p ≡ got x
    → AcceptedMember (member_of x.value) × (x.value.mark ≡ mark)
unfolding member_body
body_accepted mark kind s p x m e =
    let w = went_on (fields (fields_of (kind_of kind)) s p 0 empty) _ x e in
    on_verdict w.value (member_verdict (kind_of kind) w.value.value) refl (fields_held s w.value.value p w.value.next (kind_of kind) w.was) w.then
  where
    on_verdict : (f : Placed (List ℕ)) (t : Verdict) → member_verdict (kind_of kind) f.value ≡ t → fields_hold (fields_of (kind_of kind)) 0 f.value ≡ true
        → passed t (got (placed (record { mark = mark; kind = kind; fields = record { v = f.value } }) f.next)) ≡ got x
        → AcceptedMember (member_of x.value) × (x.value.mark ≡ mark)
    on_verdict f (Ok tt) v h e =
        let same : placed (record { mark = mark; kind = kind; fields = record { v = f.value } }) f.next ≡ x = cc in
        rw (← ap (λ (y : Placed Built). y.value) same) (accepted_member mark f.value m (kind_of kind) h v, refl)
    on_verdict f (Err q) v h e = absurd (no_got e)

pub member_was : (s : List ℕ) (p before : ℕ) (b : Built) (next : ℕ) → member s p before ≡ got (placed b next) → MemberWas s p before b
unfolding member mark_at kind_at mark_rises
member_was s p before b next e =
    let m = went_on (checked Mark (mark_rises before) s p) _ (placed b next) e in
    let k = went_on (checked Kind known s m.value.next) _ (placed b next) m.then in
    let t = both_true (mark_in_range m.value.value) _ (passes Mark (mark_rises before) s p m.value.value m.value.next m.was) in
    let w = body_accepted m.value.value k.value.value s k.value.next (placed b next) t.0 k.then in
    record { accepted = w.0; above = rw w.1 (ltb-true _ _ t.1) }

pub number_was : (q : Question) (test : ℕ → Bool) (s : List ℕ) (p x next : ℕ) → checked q test s p ≡ got (placed x next) → number_at s p ≡ Ok (x, next)
number_was q test s p x next =
    on_checked (λ o. o ≡ got (placed x next) → number_at s p ≡ Ok (x, next)) q test s p
    (λ y after n _ e.
    let same : placed y after ≡ placed x next = cc in
    let v : y ≡ x = ap (λ (r : Placed ℕ). r.value) same in
    let f : after ≡ next = ap (λ (r : Placed ℕ). r.next) same in
    rw (← v, ← f) n)
    (λ r e. absurd (no_got e))

pub record WasGot {N A : Type 0} (o : Reading N A) : Type 0 where
  pub value : A
  pub was : o ≡ got value

pub got_was : {N A : Type 0} (o : Reading N A) → Got o → WasGot o
unfolding Got
got_was (got a) h = record { value = a; was = refl }
got_was (no q) h = absurd h

-- How an accepted member was read.
pub record MemberParts (s : List ℕ) (p : ℕ) (x : Placed Built) : Type 0 where
  pub mark : ℕ
  pub after_mark : ℕ
  pub kind : ℕ
  pub after_kind : ℕ
  pub slots : List ℕ
  pub mark_is : number_at s p ≡ Ok (mark, after_mark)
  pub kind_is : number_at s after_mark ≡ Ok (kind, after_kind)
  pub is_known : known kind ≡ true
  pub held : fields_hold (fields_of (kind_of kind)) 0 slots ≡ true
  pub takes : taken (fields_of (kind_of kind)) s after_kind 0 empty ≡ got (placed slots x.next)
  pub member_is : x.value ≡ record { mark = mark; kind = kind; fields = record { v = slots } }

pub member_parts : (s : List ℕ) (p before : ℕ) (x : Placed Built) → member s p before ≡ got x → MemberParts s p x
unfolding member mark_at kind_at member_body
member_parts s p before x e =
    let m = went_on (checked Mark (mark_rises before) s p) _ x e in
    let k = went_on (checked Kind known s m.value.next) _ x m.then in
    let f = went_on (fields (fields_of (kind_of k.value.value)) s k.value.next 0 empty) _ x k.then in
    on_verdict m.value k.value f.value (number_was Mark (mark_rises before) s p m.value.value m.value.next m.was)
    (number_was Kind known s m.value.next k.value.value k.value.next k.was)
    (passes Kind known s m.value.next k.value.value k.value.next k.was)
    (fields_held s f.value.value k.value.next f.value.next (kind_of k.value.value) f.was)
    (fields_taken s f.value.value k.value.next f.value.next (kind_of k.value.value) f.was)
    (member_verdict (kind_of k.value.value) f.value.value) f.then
  where
    on_verdict : (m k : Placed ℕ) (f : Placed (List ℕ)) → number_at s p ≡ Ok (m.value, m.next) → number_at s m.next ≡ Ok (k.value, k.next)
        → known k.value ≡ true → fields_hold (fields_of (kind_of k.value)) 0 f.value ≡ true
        → taken (fields_of (kind_of k.value)) s k.next 0 empty ≡ got (placed f.value f.next) → (t : Verdict)
        → passed t (got (placed (record { mark = m.value; kind = k.value; fields = record { v = f.value } }) f.next)) ≡ got x
        → MemberParts s p x
    on_verdict m k f a b c h g (Ok tt) e =
        let same : placed (record { mark = m.value; kind = k.value; fields = record { v = f.value } }) f.next ≡ x = cc in
        record {
          mark = m.value;
          after_mark = m.next;
          kind = k.value;
          after_kind = k.next;
          slots = f.value;
          mark_is = a;
          kind_is = b;
          is_known = c;
          held = h;
          takes = g ∙ ap (λ (n : ℕ). got (placed f.value n)) (ap (λ (y : Placed Built). y.next) same);
          member_is = sym (ap (λ (y : Placed Built). y.value) same);
        }
    on_verdict m k f a b c h g (Err q) e = absurd (no_got e)

value_is : (n : Number) (x next y after : ℕ) → n ≡ Ok (x, next) → n ≡ Ok (y, after) → (x ≡ y) × (next ≡ after)
value_is n x next y after e f =
    let same : placed x next ≡ placed y after = got_is (ap of_number (sym e ∙ f)) in
    (ap (λ (r : Placed ℕ). r.value) same, ap (λ (r : Placed ℕ). r.next) same)

value_got : {n : Number} {x next : ℕ} → n ≡ Ok (x, next) → Got (of_number n)
unfolding Got
value_got e = rw e tt

-- an accepted member, as the code takes it
module _ (s : List ℕ) (p : ℕ) (ok : Got (member s p 0)) where
  was : WasGot (member s p 0)
  was = got_was (member s p 0) ok

  parts : MemberParts s p was.value
  parts = member_parts s p 0 was.value was.was

  abbrev made : ℕ → ℕ → List ℕ → Built
  made m c w = record { mark = m; kind = c; fields = record { v = w } }

  pub mark_got : Got (of_number (number_at s p))
  mark_got = value_got parts.mark_is

  module _ (mark at : ℕ) (m : number_at s p ≡ Ok (mark, at)) where
    mark_same : (parts.mark ≡ mark) × (parts.after_mark ≡ at)
    mark_same = value_is _ _ _ _ _ parts.mark_is m

    kind_at_lem : number_at s at ≡ Ok (parts.kind, parts.after_kind)
    kind_at_lem = rw (← mark_same.1) parts.kind_is

    pub kind_got : Got (of_number (number_at s at))
    kind_got = value_got kind_at_lem

    module _ (kind first : ℕ) (k : number_at s at ≡ Ok (kind, first)) where
      kind_same : (parts.kind ≡ kind) × (parts.after_kind ≡ first)
      kind_same = value_is _ _ _ _ _ kind_at_lem k

      takes : taken (fields_of (kind_of kind)) s first 0 empty ≡ got (placed parts.slots was.value.next)
      takes = rw (← kind_same.0, ← kind_same.1) parts.takes

      pub fields_got : Got (taken (fields_of (kind_of kind)) s first 0 empty)
      unfolding Got
      fields_got = rw takes tt

      pub member_taken : (v : List ℕ) (next : ℕ) → taken (fields_of (kind_of kind)) s first 0 empty ≡ got (placed v next)
          → member s p 0 ≡ got (placed (record { mark = mark; kind = kind; fields = record { v = v } }) next)
      member_taken v next t =
          let f : placed v next ≡ placed parts.slots was.value.next = got_is (sym t ∙ takes) in
          was.was
          ∙ ap (λ (b : Built). got (placed b was.value.next)) parts.member_is
          ∙ ap (λ (m : ℕ). got (placed (made m parts.kind parts.slots) was.value.next)) mark_same.0
          ∙ ap (λ (c : ℕ). got (placed (made mark c parts.slots) was.value.next)) kind_same.0
          ∙ ap (λ (r : Placed (List ℕ)). got (placed (made mark kind r.value) r.next)) (sym f)

-- an accepted member is so whatever mark stands before it
pub any_before : (s : List ℕ) (p before : ℕ) (x : Placed Built) → member s p before ≡ got x → member s p 0 ≡ got x
unfolding member mark_at mark_rises mark_in_range
any_before s p before x e =
    let m = went_on (checked Mark (mark_rises before) s p) _ x e in
    let t = both_true (mark_in_range m.value.value) _ (passes Mark (mark_rises before) s p m.value.value m.value.next m.was) in
    let r : mark_rises 0 m.value.value ≡ true = rw (t.0, lt-ltb 0 m.value.value (in_between {lo = 1} {hi = 999999} t.0).0) in
    rw (number_passes Mark (mark_rises 0) s p m.value.value m.value.next (number_was Mark (mark_rises before) s p m.value.value m.value.next m.was) r) m.then

-- ---- Members in a row.

pub members_accepted : (n : ℕ) (s : List ℕ) (p before i : ℕ) (ms : List Member) (end : ℕ) → members n s p before i ≡ got (placed ms end) → AcceptedMembers ms
unfolding members
members_accepted zero s p before i ms end e =
    let same : placed [] p ≡ placed ms end = cc in
    rw (← ap (λ (x : Placed (List Member)). x.value) same) tt
members_accepted (suc n) s p before i ms end e =
    let f = first_read n s p before i ms end e in
    rw f.list ((member_was s p before f.first f.next f.reads).accepted, members_accepted n s f.next f.first.mark (i + 1) f.others end f.reads_others)

-- members that were read are accepted whatever marks stand before them
pub members_from : (n : ℕ) (s : List ℕ) (p before i : ℕ) (ms : List Member) (end : ℕ) → members n s p before i ≡ got (placed ms end) → AcceptedFrom n s p
unfolding members AcceptedFrom
members_from zero s p before i ms end e = tt
members_from (suc n) s p before i ms end e =
    let f = first_read n s p before i ms end e in
    rw (any_before s p before _ f.reads) (members_from n s f.next f.first.mark (i + 1) f.others end f.reads_others)

-- the first of them
pub first_accepted : (n : ℕ) (s : List ℕ) (p : ℕ) → 0 < n → AcceptedFrom n s p → Got (member s p 0)
unfolding AcceptedFrom Got
first_accepted n s p h a = let one_less : n ≡ suc (n - 1) = omega arith in go (member s p 0) (rw one_less at a)
  where
    go : (o : Reading Question (Placed Built)) → AcceptedThen o (λ b. AcceptedFrom (n - 1) s b.next) → Got o
    go (got b) a = tt
    go (no q) a = a

-- the others
pub others_accepted : (n : ℕ) (s : List ℕ) (p : ℕ) → 0 < n → (b : Built) (next : ℕ) → member s p 0 ≡ got (placed b next) → AcceptedFrom n s p → AcceptedFrom (n - 1) s next
unfolding AcceptedFrom
others_accepted n s p h b next e a = let one_less : n ≡ suc (n - 1) = omega arith in rw (one_less, e) at a
