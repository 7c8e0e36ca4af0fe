-- The text that `put_whole` puts.
use Rattle.std.specs.Prelude.{◌++◌}
use Rattle.line.specs.Line.{head_words, line_text}
use Rattle.report_text.specs.ReportText.{lines_from}
use Rattle.report_text.proofs.print_report.Given as goal

abbrev pub ghost-put_whole : goal.ghost-put_whole
ghost-put_whole a = let s = a.put.0.now in line_text (head_words s.count) ++ lines_from s.count s.input.src.now s.input.at
