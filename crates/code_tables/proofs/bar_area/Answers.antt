-- `code_tables::bar_area` meets its contract: every area of the table is the rounded one.
use mathlib.Core.Path.{sym}
use native.Mathlib.Omega.{arith}
use Rattle.code_tables.proofs.Bars.{rounded, listed_area, square_most}
use Rattle.code_tables.proofs.bar_area.Goals as goal

pub overflow_mul-result : goal.overflow_mul-result
overflow_mul-result c = omega (arith, square_most c.args.diameter c.requires)

pub overflow_mul-result-2 : goal.overflow_mul-result-2
overflow_mul-result-2 c = omega (arith, square_most c.args.diameter c.requires)

pub overflow_add-result : goal.overflow_add-result
overflow_add-result c = omega (arith, square_most c.args.diameter c.requires)

pub returns : goal.returns
unfolding rounded
returns c = sym (listed_area _ c.requires)
