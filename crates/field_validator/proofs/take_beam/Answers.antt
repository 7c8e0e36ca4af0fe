-- `field_validator::take_beam` meets its contract: a row or a list that was refused, or was taken and then the next.
use borrow.Author.Rules.{rules}
use Rattle.field_validator.proofs.Taken.{from_tension, from_count, from_compression, from_links, beam_rows, loads_row, then_refused, then_on}
use Rattle.field_validator.proofs.take_beam.Goals as goal

pub returns-in_err-take_row : goal.returns-in_err-take_row
returns-in_err-take_row c =
    let b = c.args.pointLoad in
    rw beam_rows (then_refused _ _ _ _ _ c.take_row.ensures (λ s. from_tension s b) _ c.in_err-take_row.was _ (search rules))

pub returns-in_err-take_list : goal.returns-in_err-take_list
returns-in_err-take_list c =
    let b = c.args.pointLoad in
    rw beam_rows
    (then_on _ _ _ _ _ c.take_row.ensures (λ s. from_tension s b) c.in_ok-take_row.was _ _ _
    (then_refused _ _ _ _ _ c.take_list.ensures (λ s. from_count s b) _ c.in_err-take_list.was _ (search rules)))

pub returns-in_err-take_row-2 : goal.returns-in_err-take_row-2
returns-in_err-take_row-2 c =
    let b = c.args.pointLoad in
    rw beam_rows
    (then_on _ _ _ _ _ c.take_row.ensures (λ s. from_tension s b) c.in_ok-take_row.was _ _ _
    (then_on _ _ _ _ _ c.take_list.ensures (λ s. from_count s b) c.in_ok-take_list.was _ _ _
    (then_refused _ _ _ _ _ c.take_row-2.ensures (λ s. from_compression s b) _ c.in_err-take_row-2.was _ (search rules))))

pub returns-in_err-take_list-2 : goal.returns-in_err-take_list-2
returns-in_err-take_list-2 c =
    let b = c.args.pointLoad in
    rw beam_rows
    (then_on _ _ _ _ _ c.take_row.ensures (λ s. from_tension s b) c.in_ok-take_row.was _ _ _
    (then_on _ _ _ _ _ c.take_list.ensures (λ s. from_count s b) c.in_ok-take_list.was _ _ _
    (then_on _ _ _ _ _ c.take_row-2.ensures (λ s. from_compression s b) c.in_ok-take_row-2.was _ _ _
    (then_refused _ _ _ _ _ c.take_list-2.ensures (λ s. from_links s b) _ c.in_err-take_list-2.was _ (search rules)))))

pub returns : goal.returns
returns c =
    let b = c.args.pointLoad in
    rw beam_rows
    (then_on _ _ _ _ _ c.take_row.ensures (λ s. from_tension s b) c.in_ok-take_row.was _ _ _
    (then_on _ _ _ _ _ c.take_list.ensures (λ s. from_count s b) c.in_ok-take_list.was _ _ _
    (then_on _ _ _ _ _ c.take_row-2.ensures (λ s. from_compression s b) c.in_ok-take_row-2.was _ _ _
    (then_on _ _ _ _ _ c.take_list-2.ensures (λ s. from_links s b) c.in_ok-take_list-2.was _ _ _
    (rw (loads_row _ b _ c.beam_field_count.ensures) c.take_row-3.ensures)))))
