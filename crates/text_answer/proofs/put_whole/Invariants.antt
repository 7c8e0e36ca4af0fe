-- The text that `put_alone` puts.
use Rattle.text_answer.proofs.put_whole.Given as goal

abbrev pub ghost-put_alone : goal.ghost-put_alone
ghost-put_alone g a = g.text
