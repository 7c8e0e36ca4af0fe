-- The four utilizations of a member, from the outcome of its checks.
use Rattle.std.specs.Prelude.{ℕ, ◌*◌, Float}
use Rattle.quantity.specs.Rounding.{down}
use Rattle.outcome.specs.declared.Outcome.{Outcome}
use Rattle.member.specs.Member.{Member, beam, column, mesh, Beam, Column, Mesh}
use Rattle.cracking.specs.Steps.{width_limit}
use Rattle.deflection.specs.Steps.{span_divisor}
use Rattle.ratio.specs.declared.Utilization.{Utilization}
use Rattle.ratio.specs.Ratio.{no_ratio, over_figure, over_limit, four_ratios}

-- "Deflection's limit is down of the limit in 0.01 mm", for the span l0, mm, and the flag of the stricter limits
unfoldable pub deflection_limit : ℕ → ℕ → ℕ
deflection_limit l₀ strict = down (100 * l₀) (span_divisor l₀ strict)

-- moment, shear, width and deflection
unfoldable pub beam_utilization : (ℕ → ℕ → Float) → Beam → Outcome → Utilization
beam_utilization over x o =
    four_ratios
    (over_figure over x.M o.first)
    (over_figure over x.Vd o.second)
    (over_limit over o.third (width_limit x.environment))
    (over_limit over o.fourth (deflection_limit x.l₀ x.strict))

-- "a column's axial share takes the first place"
unfoldable pub column_utilization : (ℕ → ℕ → Float) → Column → Outcome → Utilization
column_utilization over x o = four_ratios (over_figure over x.N o.first) no_ratio no_ratio no_ratio

-- "a mesh's two shares, each figure over the given length, take the first and second"
unfoldable pub mesh_utilization : (ℕ → ℕ → Float) → Mesh → Outcome → Utilization
mesh_utilization over x o = four_ratios (over_limit over o.first x.anchorage) (over_limit over o.second x.lap) no_ratio no_ratio

abbrev pub utilization_of : (ℕ → ℕ → Float) → Member → Outcome → Utilization
utilization_of over (beam mark x) o = beam_utilization over x o
utilization_of over (column mark x) o = column_utilization over x o
utilization_of over (mesh mark x) o = mesh_utilization over x o
