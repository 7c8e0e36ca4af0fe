-- `reinforcement::beam_ratio` meets its contract.
use native.Mathlib.Omega.{arith}
use Rattle.bars.specs.Listed.{groups_in}
use Rattle.bars.proofs.Sums.{bars_most, area_most_by_bars}
use Rattle.reinforcement.proofs.beam_ratio.Goals as goal

pub overflow_mul-result : goal.overflow_mul-result
overflow_mul-result c =
    let x = c.args.x in
    let gs = groups_in x.beam.tension in
    let r = x.in_range in
    omega (arith, c.steel_area.ensures, area_most_by_bars gs r.tension, bars_most gs r.tension, r.tension_most)
