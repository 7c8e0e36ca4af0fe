use Rattle.std.proofs.Common.{rules}
-- `text_answer::put_alone` meets its contract.
use Rattle.text_answer.proofs.Printed.{put_from}
use Rattle.text_answer.proofs.put_alone.Goals as goal

pub returns : goal.returns
returns g c =
    let wrote = c.requires.1.1 _ _ c.put.ensures in
    put_from wrote c.new-w.ensures.start c.new-w.ensures.held (search rules)
