-- What the bytes of a member's line say, whatever wrote them.
use Rattle.std.specs.Prelude.{ℕ, ◌≡◌, List, if◌then◌else◌, None, Some}
use Rattle.text.specs.Text.{value_of, is_decimal, word_of}
use Rattle.outcome.specs.declared.Check.{Check}
use Rattle.outcome.specs.Outcome.{Figure}
use Rattle.outcome.specs.Outcome.{name_of}

-- the six words of a line: the mark's value, the word of the check in bytes, the figures
pub record ParsedLine : Type 0 where
  pub mark : ℕ
  pub word : List ℕ
  pub first : Figure
  pub second : Figure
  pub third : Figure
  pub fourth : Figure

-- a word of digits is a figure, any other one is none
unfoldable pub parsed_figure : List ℕ → Figure
parsed_figure w = if is_decimal w then Some (value_of w) else None

unfoldable pub parse_line : List ℕ → ParsedLine
parse_line line = record {
  mark = value_of (word_of 0 line);
  word = word_of 1 line;
  first = parsed_figure (word_of 2 line);
  second = parsed_figure (word_of 3 line);
  third = parsed_figure (word_of 4 line);
  fourth = parsed_figure (word_of 5 line);
}

-- the line names the check c
abbrev pub Names : ParsedLine → Check → Type 0
Names line c = line.word ≡ name_of c
