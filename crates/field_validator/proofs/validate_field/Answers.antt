-- `field_validator::validate_field` meets its contract.
use borrow.Author.Rules.{rules}
use Rattle.field_domain.specs.Domain.{holds}
use Rattle.field_validator.proofs.validate_field.Goals as goal

pub returns : goal.returns
returns c = c.number_that.ensures.moved (holds c.args.d) (λ x b h r. search rules)
