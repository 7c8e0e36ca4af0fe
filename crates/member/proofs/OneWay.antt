-- A member is accepted in at most one way: what a field of a structure asks of the fact that it holds.
use denote.Struct.Props.{props}
use Rattle.bars.proofs.Facts.{groups_prop}
use Rattle.member.specs.Member.{Member, beam, column, mesh}
use Rattle.member.specs.Accepted.{AcceptedMember}
use Rattle.member.specs.OneWay.{load_within_prop}

pub accepted_member_prop : (m : Member) → IsProp (AcceptedMember m)
accepted_member_prop (beam mark x) = hlevel (props, groups_prop, load_within_prop)
accepted_member_prop (column mark x) = hlevel (props, groups_prop)
accepted_member_prop (mesh mark x) = hlevel props
