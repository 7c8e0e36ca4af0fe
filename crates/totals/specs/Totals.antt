-- The totals of the groups that a count names in a lent list, or question 7.
use Rattle.std.specs.Prelude.{ℕ, ◌&&◌, List, leb, take, if◌then◌else◌}
use Rattle.question.specs.declared.Question.TheVariants.{Field}
use Rattle.question.specs.Question.{number_of}
use Rattle.bars.specs.declared.Group.{Group}
use Rattle.bars.specs.Sums.{bar_count, area, sum_d, sum_e}
use Rattle.lent_groups.specs.LentGroups.{named_hold}
use Rattle.totals.specs.declared.BarTotals.{BarTotals}

-- question 0: number of bars; area in tenths of mm²; D, the sum of n·d, and E, the sum of n·d²
abbrev pub totals_given : List Group → BarTotals
totals_given gs = record { question = 0; member = 0; bars = bar_count gs; area = area gs; diameters = sum_d gs; squares = sum_e gs }

-- 7; as a built member's refusal it names member 1
abbrev pub totals_refused : BarTotals
totals_refused = record { question = number_of Field; member = 1; bars = 0; area = 0; diameters = 0; squares = 0 }

-- as of a member: up to four groups, each in range, and no count above the length of its list
unfoldable pub bar_totals : ℕ → List Group → BarTotals
bar_totals count list = if leb count 4 && named_hold count list then totals_given (take count list) else totals_refused
