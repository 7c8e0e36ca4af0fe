-- `field_reader::read_at` meets its contract.
use mathlib.Core.Path.{refl, ◌∙◌}
use Prim.Native.Nat.{◌+◌}
use native.Mathlib.Omega.{arith}
use Rattle.field_reader.proofs.Numbers.{first_there, first_ends, second_there, second_ends, third_follows, third_read}
use Rattle.field_reader.proofs.read_at.Goals as goal

pub bounds-src-at : goal.bounds-src-at
bounds-src-at c = first_there _ _ c.requires

pub overflow_add-result : goal.overflow_add-result
overflow_add-result c = omega (arith, first_there _ _ c.requires, c.well_formed.0.0)

pub returns-then-first-lt128 : goal.returns-then-first-lt128
returns-then-first-lt128 c = first_ends _ _ c.requires _ refl c.if-first-lt128.true

pub bounds-src-at-2 : goal.bounds-src-at-2
bounds-src-at-2 c = second_there _ _ c.requires _ refl c.if-first-lt128.false

pub returns-then-second-lt128 : goal.returns-then-second-lt128
returns-then-second-lt128 c = second_ends _ _ c.requires _ refl c.if-first-lt128.false _ refl c.if-second-lt128.true

pub read_long-requires : goal.read_long-requires
read_long-requires c = (
  omega (arith, c.type_inv.src c.args.at, c.type_inv.src (c.args.at + 1)),
  third_read _ _ c.requires _ refl c.if-first-lt128.false _ refl c.if-second-lt128.false,
)

pub returns : goal.returns
returns c = third_follows _ _ c.requires _ refl c.if-first-lt128.false _ refl c.if-second-lt128.false ∙ c.read_long.ensures
