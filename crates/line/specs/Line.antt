-- The words of each line that is printed (document 01, "One schedule, printed").
-- `text_of` (crate `text`) makes the text of lines of words.
use Rattle.std.specs.Prelude.{ℕ, List, [], ◌∷◌, map, length, None, Some}
use Rattle.text.specs.Text.{decimal, text_of}
use Rattle.outcome.specs.Outcome.{Figure}
use Rattle.outcome.specs.declared.Outcome.{Outcome}
use Rattle.outcome.specs.Outcome.{name_of}

-- a figure is a decimal number, "-" where its check was not reached
abbrev pub figure_word : Figure → List ℕ
figure_word (Some v) = decimal v
figure_word None = 45 ∷ []

-- a member's line: mark, OK or the failed check, four figures
abbrev pub line_words : ℕ → Outcome → List (List ℕ)
line_words mark o =
    decimal mark
    ∷ name_of o.check
    ∷ figure_word o.first
    ∷ figure_word o.second
    ∷ figure_word o.third
    ∷ figure_word o.fourth
    ∷ []

-- the first line of a report: members N
abbrev pub head_words : ℕ → List (List ℕ)
head_words n = (109 ∷ 101 ∷ 109 ∷ 98 ∷ 101 ∷ 114 ∷ 115 ∷ []) ∷ decimal n ∷ []

-- a report: the first line, then a line for each member
abbrev pub report_words : {A : Type 0} → (A → ℕ) → (A → Outcome) → List A → List (List (List ℕ))
report_words mark_of outcome_of members =
    head_words (length members) ∷ map (λ m. line_words (mark_of m) (outcome_of m)) members

-- a refusal: refused N member M, the number of the question and of the member
abbrev pub refusal_words : ℕ → ℕ → List (List ℕ)
refusal_words question member =
    (114 ∷ 101 ∷ 102 ∷ 117 ∷ 115 ∷ 101 ∷ 100 ∷ [])
    ∷ decimal question
    ∷ (109 ∷ 101 ∷ 109 ∷ 98 ∷ 101 ∷ 114 ∷ [])
    ∷ decimal member
    ∷ []

-- the text of one line, with its newline
abbrev pub line_text : List (List ℕ) → List ℕ
line_text words = text_of (words ∷ [])
