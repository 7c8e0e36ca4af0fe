-- `schedule::validate_schedule` meets its contract.
use mathlib.Core.Path.{◌≡◌, sym}
use native.Mathlib.Omega.{arith}
use borrow.Author.Rules.{rules}
use Rattle.std.specs.Prelude.{Err, Ok}
use Rattle.schedule.proofs.Answers.{member_no, bytes_left, all_read}
use Rattle.schedule.proofs.validate_schedule.Goals as goal

pub returns-in_err-validate_members-clause-answer : goal.returns-in_err-validate_members-clause-answer
returns-in_err-validate_members-clause-answer c =
    let count : c.number.result ≡ Ok c.in_ok-count.count = search rules in
    let ends = rw c.number.ensures.moved.same at c.validate_members.ensures.moved.reads in
    let e : c.from_residual-in_err-validate_members.result ≡ Err (c.in_err-validate_members.field-0.0) = search rules in
    rw e
    (sym (member_no c.args.src.now (omega arith) _ _ c.number.ensures.moved.reads c.in_ok-count.count count (omega arith) _ _ ends _ c.in_err-validate_members.was))

pub returns-then-end-src-clause-answer : goal.returns-then-end-src-clause-answer
returns-then-end-src-clause-answer c =
    let count : c.number.result ≡ Ok c.in_ok-count.count = search rules in
    let ends = rw c.number.ensures.moved.same at c.validate_members.ensures.moved.reads in
    rw c.at-then-end-src.ensures
    (sym (bytes_left c.args.src.now (omega arith) _ _ c.number.ensures.moved.reads c.in_ok-count.count count (omega arith) _ _ ends c.in_ok-validate_members.was (omega arith)))

pub returns-clause-answer : goal.returns-clause-answer
returns-clause-answer c =
    let count : c.number.result ≡ Ok c.in_ok-count.count = search rules in
    let ends = rw c.number.ensures.moved.same at c.validate_members.ensures.moved.reads in
    sym (all_read c.args.src.now (omega arith) _ _ c.number.ensures.moved.reads c.in_ok-count.count count (omega arith) _ _ ends c.in_ok-validate_members.was (omega arith))
