-- Nothing past a count has an effect: lists that agree up to their counts make the same member and get the same answer.
use Prim.Native.Nat.{ℕ}
use mathlib.Core.Path.{◌≡◌, refl}
use mathlib.Core.List.{List}
use lib.ListN.{take}
use Rattle.bars.specs.declared.Group.{Group}
use Rattle.field_table.specs.declared.MemberKind.{MemberKind}
use Rattle.field_table.specs.declared.MemberKind.TheVariants as kinds
use Rattle.field_table.specs.Fields.{kind_of}
use Rattle.lent_groups.proofs.Named.{named_same}
use Rattle.lent_member.specs.declared.Lent.{Lent}
use Rattle.lent_member.specs.Lent.{lent_beam, lent_column, lent_of, lent_member, first_count, second_count, lent_fields_hold, lent_verdict}

-- by kind
same_of : (kind : MemberKind) (mark : ℕ) (v : List ℕ) (first first' second second' : List Group) → take (first_count kind v) first ≡ take (first_count kind v) first'
    → take (second_count kind v) second ≡ take (second_count kind v) second' → lent_of kind mark v first' second' ≡ lent_of kind mark v first second
unfolding lent_beam lent_column
same_of (kinds.Beam pointLoad) mark v first first' second second' p q = rw (p, q)
same_of kinds.Column mark v first first' second second' p q = rw p
same_of kinds.Mesh mark v first first' second second' p q = refl

module _ (x : Lent) (first first' second second' : List Group)
    (p : take (first_count (kind_of x.kind) x.fields.v) first ≡ take (first_count (kind_of x.kind) x.fields.v) first')
    (q : take (second_count (kind_of x.kind) x.fields.v) second ≡ take (second_count (kind_of x.kind) x.fields.v) second') where
  pub lent_member_same : lent_member x first' second' ≡ lent_member x first second
  unfolding lent_member
  lent_member_same = same_of (kind_of x.kind) x.mark x.fields.v first first' second second' p q

  pub lent_same : lent_verdict x first' second' ≡ lent_verdict x first second
  unfolding lent_verdict lent_fields_hold
  lent_same = rw (named_same _ first first' p, named_same _ second second' q, lent_member_same)
