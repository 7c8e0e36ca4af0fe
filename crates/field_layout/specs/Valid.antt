-- The member that passed every question.
use Rattle.member.specs.Member.{Member}
use Rattle.field_layout.specs.Layout.{member_at}
use Rattle.field_layout.specs.declared.valid.ValidMember.{ValidMember}

abbrev pub valid_member : ValidMember → Member
valid_member x = member_at x.mark x.kind x.fields.v
