-- `lent_member::put_fields` meets its contract.
use borrow.Author.Rules.{rules}
use Rattle.lent_member.proofs.Placed.{fields_placed}
use Rattle.lent_member.proofs.put_fields.Goals as goal

pub returns : goal.returns
returns c =
    let a = c.args in
    fields_placed a.v.now a.x.v _ a.at a.from a.count (search rules) (search rules) c.copy_from_slice.ensures.after
