-- `koxaltes::koxaltes_bar_totals` meets its contract.
use Rattle.std.proofs.Common.{◌∙◌}
use Rattle.totals.proofs.Totals.{copied_totals}
use Rattle.koxaltes.proofs.koxaltes_bar_totals.Goals as goal

pub returns : goal.returns
returns c = c.copied_totals.ensures ∙ copied_totals c.args.count c.args.groups.now c.first_groups.ensures
