-- `totals::groups_hold` meets its contract.
use mathlib.Core.Path.{◌≡◌}
use mathlib.Core.Bool.{true, false}
use borrow.Author.Rules.{rules}
use borrow.Author.Tests.{tests}
use Rattle.std.proofs.lemmas.Iterator.{cases_from_all, YieldsList-from_slice}
use Rattle.lent_groups.specs.LentGroups.{group_holds}
use Rattle.totals.proofs.Totals.{walked}
use Rattle.totals.proofs.groups_hold.Goals as goal

pub returns : goal.returns
returns c =
    let gs = c.args.groups.now in
    walked gs _
    (cases_from_all _ _ _ (λ g. group_holds g ≡ true) (λ g. group_holds g ≡ false) c.all.ensures.ran
    (YieldsList-from_slice gs (cc)) (λ x q k. search (rules, tests)) (λ x q k. search (rules, tests)))
