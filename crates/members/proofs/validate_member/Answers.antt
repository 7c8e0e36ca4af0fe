-- `members::validate_member` meets its contract.
use borrow.Author.Rules.{rules}
use Rattle.field_table.specs.Fields.{known}
use Rattle.varint.proofs.Moved.{moved_refused, moved_on}
use Rattle.members.specs.Members.{mark_rises}
use Rattle.members.proofs.Members.{from_mark, from_kind, member_steps}
use Rattle.members.proofs.validate_member.Goals as goal

pub returns-in_err-mark : goal.returns-in_err-mark
returns-in_err-mark c =
    let m = c.number_that.ensures.moved (mark_rises c.args.before) (λ x b h r. search rules) in
    rw member_steps (moved_refused _ _ _ _ m from_mark _ c.in_err-mark.was _ (search rules))

pub returns-in_err-number : goal.returns-in_err-number
returns-in_err-number c =
    let m = c.number_that.ensures.moved (mark_rises c.args.before) (λ x b h r. search rules) in
    let k = c.number_that-2.ensures.moved known (λ x b h r. search rules) in
    rw member_steps
    (moved_on _ _ _ _ m from_mark _ c.in_ok-mark.was _ _ (moved_refused _ _ _ _ k (from_kind c.in_ok-mark.mark) _ c.in_err-number.was _ (search rules)))

pub returns : goal.returns
returns c =
    let m = c.number_that.ensures.moved (mark_rises c.args.before) (λ x b h r. search rules) in
    let k = c.number_that-2.ensures.moved known (λ x b h r. search rules) in
    rw member_steps
    (moved_on _ _ _ _ m from_mark _ c.in_ok-mark.was _ _ (moved_on _ _ _ _ k (from_kind c.in_ok-mark.mark) _ c.in_ok-number.was _ _ c.validate_body.ensures))
