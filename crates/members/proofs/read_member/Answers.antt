-- `members::read_member` meets its contract.
use mathlib.Core.Path.{sym, ◌∙◌}
use Rattle.varint.proofs.Moved.{number_is}
use Rattle.members.proofs.Accepted.{kind_got, fields_got, member_taken}
use Rattle.members.proofs.read_member.Goals as goal

pub read_number-kind-requires : goal.read_number-kind-requires
read_number-kind-requires c =
    let m = c.read_number-mark.ensures in
    rw m.same (kind_got _ _ c.requires _ _ (number_is _ _ _ m.reads))

pub read_fields-requires : goal.read_fields-requires
read_fields-requires c =
    let m = c.read_number-mark.ensures in
    let k = c.read_number-kind.ensures in
    rw (k.same, m.same, c.kind_of.ensures)
    (fields_got _ _ c.requires _ _ (number_is _ _ _ m.reads) _ _ (number_is _ _ _ (rw m.same at k.reads)))

pub returns : goal.returns
returns c =
    let m = c.read_number-mark.ensures in
    let k = c.read_number-kind.ensures in
    let f = c.read_fields.ensures in
    record {
      same = f.same ∙ k.same ∙ m.same;
      reads = sym (member_taken _ _ c.requires _ _ (number_is _ _ _ m.reads) _ _ (number_is _ _ _ (rw m.same at k.reads)) _ _
          (sym (rw (k.same, m.same, c.kind_of.ensures) at f.reads)));
    }
