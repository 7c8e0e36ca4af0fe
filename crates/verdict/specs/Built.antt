-- The member that a caller built, and what its questions come to.
use Rattle.std.specs.Prelude.{◌≡◌, Result, Err, Ok}
use Rattle.question.specs.declared.Question.{Question}
use Rattle.member.specs.Member.{Member}
use Rattle.field_table.specs.Fields.{kind_of}
use Rattle.field_layout.specs.declared.valid.ValidMember.{ValidMember}
use Rattle.field_layout.specs.Layout.{member_at}
use Rattle.field_layout.specs.Valid.{valid_member}
use Rattle.verdict.specs.declared.Built.{Built}
use Rattle.verdict.specs.Verdict.{built_verdict}

abbrev pub member_of : Built → Member
member_of x = member_at x.mark (kind_of x.kind) x.fields.v

-- the member, which passed every question, or the first answered no
abbrev pub Validated : Built → Result ValidMember Question → Type 0
Validated x (Ok m) = (built_verdict x.mark x.kind x.fields.v ≡ Ok tt) × (valid_member m ≡ member_of x)
Validated x (Err q) = built_verdict x.mark x.kind x.fields.v ≡ Err q
