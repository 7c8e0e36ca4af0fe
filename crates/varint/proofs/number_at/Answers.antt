-- `varint::number_at` meets its contract.
use mathlib.Core.Path.{refl, sym, ◌∙◌}
use native.Mathlib.Omega.{arith}
use Rattle.varint.specs.Varint.{number_at}
use Rattle.varint.proofs.Septets.{file_ends, only_septet, last_septet_at, from_second, second_last, from_third}
use Rattle.varint.proofs.number_at.Goals as goal

pub returns-then-src-at : goal.returns-then-src-at
unfolding number_at
returns-then-src-at c = sym (file_ends _ 5 _ _ _ (omega arith) c.if-src-at.true)

pub returns-then-first-lt128 : goal.returns-then-first-lt128
unfolding number_at
returns-then-first-lt128 c =
    sym (last_septet_at _ 5 _ _ _ (omega arith) _ refl c.if-src-at.false c.if-first-lt128.true ∙ only_septet _ _ c.if-first-lt128.true)

pub returns-then-src-at-2 : goal.returns-then-src-at-2
returns-then-src-at-2 c =
    sym (from_second _ _ _ refl c.if-src-at.false c.if-first-lt128.false ∙ file_ends _ 4 _ _ _ (omega arith) c.if-src-at-2.true)

pub returns-then-second-lt128 : goal.returns-then-second-lt128
returns-then-second-lt128 c =
    c.last_septet.ensures
    ∙ sym (second_last _ _ _ refl c.if-src-at.false c.if-first-lt128.false _ refl c.if-src-at-2.false c.if-second-lt128.true)

pub returns : goal.returns
returns c =
    c.long_number.ensures
    ∙ sym (from_third _ _ _ refl c.if-src-at.false c.if-first-lt128.false _ refl c.if-src-at-2.false c.if-second-lt128.false)
