-- Questions 9 and 10: what a yes says.
use Prim.Native.Nat.{◌*◌, ◌≤◌}
use mathlib.Core.Path.{◌≡◌}
use mathlib.Core.Bool.{true}
use lib.Dec.{leb}
use borrow.Author.Tests.{leb-true}
use Rattle.quantity.proofs.Choice.{both_true}
use Rattle.member.specs.Member.{Beam, Column, h₀}
use Rattle.bars.specs.Sums.{bar_count, area}
use Rattle.reinforcement.specs.Reinforcement.{beam_bars, column_bars, beam_ratio}

module _ (x : Beam) where
  -- 9
  pub few_bars : beam_bars x ≡ true → (bar_count x.tension ≤ 40) × (bar_count x.compression ≤ 40)
  unfolding beam_bars
  few_bars e =
      let t = both_true (leb (bar_count x.tension) 40) _ e in
      (leb-true _ _ t.0, leb-true _ _ t.1)

  -- 10
  pub ratio : beam_ratio x ≡ true → 5 * area x.tension ≤ 2 * x.b * h₀ x
  unfolding beam_ratio
  ratio e = leb-true _ _ e

-- 9 of a column
pub column_few_bars : (x : Column) → column_bars x ≡ true → bar_count x.groups ≤ 40
unfolding column_bars
column_few_bars x e = leb-true _ _ e
