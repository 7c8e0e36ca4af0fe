-- The text that `put_whole` puts.
use Rattle.line.specs.Line.{line_words, line_text}
use Rattle.text_answer.proofs.print_line.Given as goal

abbrev pub ghost-put_whole : goal.ghost-put_whole
ghost-put_whole a = line_text (line_words a.put.0.now a.put.1.now)
