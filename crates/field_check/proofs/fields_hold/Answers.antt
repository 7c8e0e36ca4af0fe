-- `field_check::fields_hold` meets its contract.
use Prim.Native.Nat.{◌-◌}
use mathlib.Core.Path.{◌≡◌, refl}
use mathlib.Core.Bool.{true, false}
use borrow.Author.Rules.{rules}
use borrow.Author.Tests.{tests}
use native.Mathlib.Omega.{arith}
use Rattle.std.proofs.lemmas.Iterator.{cases_from_all, serves_from_Range, YieldsList-from_range}
use Rattle.field_table.proofs.Tables.{fields_fit}
use Rattle.field_table.specs.Fields.{fields_of}
use Rattle.field_check.proofs.Joined.{held_at, walked}
use Rattle.field_check.proofs.fields_hold.Goals as goal

pub all-requires-clause-callable : goal.all-requires-clause-callable
all-requires-clause-callable c =
    let f = fields_fit c.args.kind in
    serves_from_Range (λ x q k. search (rules, tests)) (λ x l h. search rules)

pub returns : goal.returns
returns c =
    let ds = fields_of c.args.kind in
    let v = c.args.v.now in
    let n = c.field_count.result in
    let number : n - 0 ≡ n = omega arith in
    walked ds v n _ c.field_count.ensures
    (cases_from_all _ _ _ (λ k. held_at ds 0 v k ≡ true) (λ k. held_at ds 0 v k ≡ false) c.all.ensures.ran
    (YieldsList-from_range 0 n n refl number) (λ x q k. search (rules, tests)) (λ x q k. search (rules, tests)))
