-- `field_reader::read_beam` meets its contract: its rows and lists are known to be taken, one after the other.
use mathlib.Core.Path.{refl}
use native.Mathlib.Omega.{arith}
use borrow.Author.Rules.{rules}
use Rattle.varint.proofs.Moved.{moved_on}
use Rattle.field_validator.proofs.Taken.{from_tension, from_count, from_compression, from_links, beam_rows, loads_row}
use Rattle.field_reader.proofs.Rows.{first_got, then_got}
use Rattle.field_reader.proofs.read_beam.Goals as goal

pub read_row-requires : goal.read_row-requires
read_row-requires c = (omega arith, omega arith, first_got _ _ (rw (beam_rows _ c.args.pointLoad _ _) at c.requires))

pub read_list-requires : goal.read_list-requires
read_list-requires c =
    let b = c.args.pointLoad in
    let tension = then_got _ _ _ _ c.read_row.ensures (λ s. from_tension s b) (rw (beam_rows _ b _ _) at c.requires) in
    (omega arith, first_got _ _ tension)

pub read_row-requires-2 : goal.read_row-requires-2
read_row-requires-2 c =
    let b = c.args.pointLoad in
    let tension = then_got _ _ _ _ c.read_row.ensures (λ s. from_tension s b) (rw (beam_rows _ b _ _) at c.requires) in
    let count = then_got _ _ _ _ c.read_list.ensures (λ s. from_count s b) tension in
    (omega arith, omega arith, first_got _ _ count)

pub read_list-requires-2 : goal.read_list-requires-2
read_list-requires-2 c =
    let b = c.args.pointLoad in
    let tension = then_got _ _ _ _ c.read_row.ensures (λ s. from_tension s b) (rw (beam_rows _ b _ _) at c.requires) in
    let count = then_got _ _ _ _ c.read_list.ensures (λ s. from_count s b) tension in
    let compression = then_got _ _ _ _ c.read_row-2.ensures (λ s. from_compression s b) count in
    (omega arith, first_got _ _ compression)

pub read_row-requires-3 : goal.read_row-requires-3
read_row-requires-3 c =
    let b = c.args.pointLoad in
    let tension = then_got _ _ _ _ c.read_row.ensures (λ s. from_tension s b) (rw (beam_rows _ b _ _) at c.requires) in
    let count = then_got _ _ _ _ c.read_list.ensures (λ s. from_count s b) tension in
    let compression = then_got _ _ _ _ c.read_row-2.ensures (λ s. from_compression s b) count in
    let links = then_got _ _ _ _ c.read_list-2.ensures (λ s. from_links s b) compression in
    (search rules, search rules, rw (loads_row _ b _ c.beam_field_count.ensures _ _) at links)

pub returns : goal.returns
returns c =
    let b = c.args.pointLoad in
    rw beam_rows
    (moved_on _ _ _ _ c.read_row.ensures (λ s. from_tension s b) _ refl _ _
    (moved_on _ _ _ _ c.read_list.ensures (λ s. from_count s b) _ refl _ _
    (moved_on _ _ _ _ c.read_row-2.ensures (λ s. from_compression s b) _ refl _ _
    (moved_on _ _ _ _ c.read_list-2.ensures (λ s. from_links s b) _ refl _ _
    (rw (loads_row _ b _ c.beam_field_count.ensures) c.read_row-3.ensures)))))
