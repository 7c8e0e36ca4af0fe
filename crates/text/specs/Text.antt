-- Text as a list of bytes: decimal numbers, words and lines, and how they are read back.
-- (document 01, "One schedule, printed")
use Rattle.std.specs.Prelude.{ℕ, zero, suc, ◌+◌, ◌-◌, ◌*◌, ◌/◌, ◌%◌, Bool, true, false, ◌&&◌, List, [], ◌∷◌, ◌++◌, map, eqb, leb, get_or}

-- ---- Decimal numbers

-- the last k digits of v, the highest first: all of them where v has fewer, none for 0
unfoldable pub digits : ℕ → ℕ → List ℕ
digits zero v = []
digits (suc k) zero = []
digits (suc k) (suc v) = digits k (suc v / 10) ++ ((48 + suc v % 10) ∷ [])

-- v in decimal without leading zeros, "0" for 0; a number v has at most v digits
unfoldable pub decimal : ℕ → List ℕ
decimal zero = 48 ∷ []
decimal (suc v) = digits (suc v) (suc v)

-- the number that the digits s say after those of a
unfoldable pub value_from : ℕ → List ℕ → ℕ
value_from a [] = a
value_from a (b ∷ s) = value_from (10 * a + (b - 48)) s

-- the value of a word of digits
unfoldable pub value_of : List ℕ → ℕ
value_of s = value_from 0 s

-- whether each byte passes the test
unfoldable pub every : (ℕ → Bool) → List ℕ → Bool
every test [] = true
every test (b ∷ s) = test b && every test s

abbrev pub is_digit : ℕ → Bool
is_digit b = leb 48 b && leb b 57

-- whether a word is a decimal number: one digit or more, and nothing else
unfoldable pub is_decimal : List ℕ → Bool
is_decimal [] = false
is_decimal (b ∷ s) = every is_digit (b ∷ s)

-- ---- Lines and words

-- pieces with the separator c between two of them
unfoldable pub joined_by : ℕ → List (List ℕ) → List ℕ
joined_by c [] = []
joined_by c (w ∷ []) = w
joined_by c (w ∷ v ∷ ws) = w ++ c ∷ joined_by c (v ∷ ws)

-- pieces with c after each
unfoldable pub ended_by : ℕ → List (List ℕ) → List ℕ
ended_by c [] = []
ended_by c (w ∷ ws) = w ++ c ∷ ended_by c ws

-- the text of lines of words: blanks (32) between the words, a newline (10) after each line
unfoldable pub text_of : List (List (List ℕ)) → List ℕ
text_of ls = ended_by 10 (map (joined_by 32) ls)

-- the pieces of a text whose first byte is a separator or b
unfoldable pub split_more : Bool → ℕ → List (List ℕ) → List (List ℕ)
split_more true b ws = [] ∷ ws
split_more false b [] = (b ∷ []) ∷ []
split_more false b (w ∷ ws) = (b ∷ w) ∷ ws

-- the pieces of a text between separators c
unfoldable pub split : ℕ → List ℕ → List (List ℕ)
split c [] = [] ∷ []
split c (b ∷ s) = split_more (eqb b c) b (split c s)

-- the k-th line of a text and the k-th word of a line, from 0; empty past the last
unfoldable pub line_of : ℕ → List ℕ → List ℕ
line_of k s = get_or (split 10 s) k []

unfoldable pub word_of : ℕ → List ℕ → List ℕ
word_of k s = get_or (split 32 s) k []
