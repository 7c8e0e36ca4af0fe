-- What the checks ask of any parameters. A grade whose parameters keep these bounds moves no proof of a check.
use Rattle.std.specs.Prelude.{◌≤◌, ◌<◌}
use Rattle.parameters.specs.declared.Parameters.{Parameters}

-- α1 (hundredths) and βc (thirtieths) above 0 and at most 1, ξb above 0 and below 1; with a denominator up to 10^8 the products of
-- 4.2.2-3 fit 64 bits
pub record UsableParameters (r : Parameters) : Type 0 where
  pub stress_least : 1 ≤ r.stressFactor
  pub stress_most : r.stressFactor ≤ 100
  pub web_least : 1 ≤ r.webFactor
  pub web_most : r.webFactor ≤ 30
  pub depth_least : 1 ≤ r.depthLimit.num
  pub depth_below : r.depthLimit.num < r.depthLimit.den
  pub depth_room : r.depthLimit.den ≤ 100000000
