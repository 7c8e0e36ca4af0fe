-- Reading back: what a line's bytes say is what the line was made from.
use Rattle.std.specs.Prelude.{None, Some}
use Prim.Native.Nat.{ℕ, zero, suc, ◌<◌}
use mathlib.Core.Path.{◌≡◌, refl, ap, ◌∙◌}
use mathlib.Core.List.{List, [], ◌∷◌, map}
use native.Mathlib.Omega.{arith}
use lib.ListN.{length, get_or}
use Rattle.quantity.specs.All.{All}
use Rattle.quantity.proofs.All.{all_images}
use Rattle.text.specs.Text.{every, is_decimal, value_of, joined_by, text_of, line_of, word_of}
use Rattle.text.proofs.Bytes.{Graphic, graphic}
use Rattle.text.proofs.Decimal.{decimal_is, decimal_value, decimal_graphic}
use Rattle.text.proofs.Split.{read_word, read_line, read_back}
use Rattle.outcome.specs.Outcome.{Figure}
use Rattle.outcome.specs.declared.Outcome.{Outcome}
use Rattle.outcome.specs.Outcome.{name_of}
use Rattle.line.specs.Line.{figure_word, line_words, head_words, report_words, line_text}
use Rattle.line.specs.ParsedLine.{ParsedLine, parsed_figure, parse_line}
use Rattle.check_name.proofs.Names.{name_graphic}

-- ---- No word has a blank or a newline

figure_graphic : (f : Figure) → All Graphic (figure_word f)
unfolding every
figure_graphic (Some v) = decimal_graphic v
figure_graphic None = graphic (45 ∷ []) refl

pub line_graphic : (mark : ℕ) (o : Outcome) → All (All Graphic) (line_words mark o)
line_graphic mark o = (
  decimal_graphic mark,
  (name_graphic o.check, (figure_graphic o.first, (figure_graphic o.second, (figure_graphic o.third, (figure_graphic o.fourth, tt))))),
)

pub head_graphic : (n : ℕ) → All (All Graphic) (head_words n)
unfolding every
head_graphic n = (graphic (get_or (head_words n) 0 []) refl, (decimal_graphic n, tt))

-- ---- One line

pub figure_parsed : (f : Figure) → parsed_figure (figure_word f) ≡ f
unfolding parsed_figure is_decimal every
figure_parsed (Some v) = rw (decimal_is v, decimal_value v)
figure_parsed None = refl

-- what the line of a member says
abbrev pub parsed_of : ℕ → Outcome → ParsedLine
parsed_of mark o = record {
  mark = mark;
  word = name_of o.check;
  first = o.first;
  second = o.second;
  third = o.third;
  fourth = o.fourth;
}

pub parsed_line : (mark : ℕ) (o : Outcome) → parse_line (joined_by 32 (line_words mark o)) ≡ parsed_of mark o
unfolding parse_line
parsed_line mark o =
    let ws = line_words mark o in
    let a = line_graphic mark o in
    rw (
      read_word 0 ws a,
      read_word 1 ws a,
      read_word 2 ws a,
      read_word 3 ws a,
      read_word 4 ws a,
      read_word 5 ws a,
      decimal_value mark,
      figure_parsed o.first,
      figure_parsed o.second,
      figure_parsed o.third,
      figure_parsed o.fourth,
    )

-- from the text of the one line
pub parsed_alone : (mark : ℕ) (o : Outcome) → parse_line (line_of 0 (line_text (line_words mark o))) ≡ parsed_of mark o
parsed_alone mark o = ap parse_line (read_line 0 (line_words mark o ∷ []) (line_graphic mark o, tt)) ∙ parsed_line mark o

-- ---- A report

get_d_map_in : {A B : Type 0} (f : A → B) (xs : List A) (i : ℕ) (a : A) (b : B) → i < length xs → get_or (map f xs) i b ≡ f (get_or xs i a)
get_d_map_in f [] i a b h = absurd (omega arith)
get_d_map_in f (x ∷ xs) zero a b h = refl
get_d_map_in f (x ∷ xs) (suc i) a b h = get_d_map_in f xs i a b (omega arith)

module _ {A : Type 0} (mark_of : A → ℕ) (outcome_of : A → Outcome) (members : List A) where
  pub report_graphic : All (All (All Graphic)) (report_words mark_of outcome_of members)
  report_graphic =
      (head_graphic (length members), all_images _ (λ m. line_words (mark_of m) (outcome_of m)) (λ m. line_graphic (mark_of m) (outcome_of m)) members)

  -- the first line says how many members there are
  pub head_parsed : value_of (word_of 1 (line_of 0 (text_of (report_words mark_of outcome_of members)))) ≡ length members
  head_parsed = ap value_of (read_back 0 1 (report_words mark_of outcome_of members) report_graphic) ∙ decimal_value (length members)

  -- the line after i others says what member i came to
  pub member_parsed : (i : ℕ) (d : A) → i < length members → parse_line (line_of (suc i) (text_of (report_words mark_of outcome_of members))) ≡ parsed_of (mark_of (get_or members i d)) (outcome_of (get_or members i d))
  member_parsed i d h =
      ap parse_line (read_line (suc i) (report_words mark_of outcome_of members) report_graphic ∙ ap (joined_by 32) (get_d_map_in (λ m. line_words (mark_of m) (outcome_of m)) members i d [] h))
      ∙ parsed_line (mark_of (get_or members i d)) (outcome_of (get_or members i d))
