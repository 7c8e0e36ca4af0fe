-- How long a line can be.
use Rattle.std.specs.Prelude.{None, Some}
use Prim.Native.Nat.{ℕ, ◌+◌, ◌*◌, ◌^◌, ◌≤◌, ◌<◌}
use mathlib.Core.Path.{◌≡◌}
use mathlib.Core.List.{List, [], ◌∷◌}
use native.Mathlib.Omega.{arith}
use lib.ListN.{length, length-append}
use Rattle.quantity.specs.All.{All}
use Rattle.text.specs.Text.{text_of, ended_by}
use Rattle.text.proofs.Decimal.{decimal_short}
use Rattle.outcome.specs.Outcome.{Figure}
use Rattle.outcome.specs.declared.Outcome.{Outcome}
use Rattle.line.specs.Line.{figure_word, line_words, head_words, refusal_words, line_text}
use Rattle.line.proofs.Text.{line_last, line_more, text_append}
use Rattle.check_name.proofs.Names.{name_short}

length_last : (w : List ℕ) → length (line_text (w ∷ [])) ≡ length w + 1
length_last w = rw line_last (length-append w (10 ∷ []))

length_more : (w v : List ℕ) (ws : List (List ℕ)) → length (line_text (w ∷ v ∷ ws)) ≡ length w + 1 + length (line_text (v ∷ ws))
length_more w v ws = rw line_more (simp length-append)

-- a figure that was reached is below n
abbrev pub Below : ℕ → Figure → Type 0
Below n (Some v) = v < n
Below n None = Unit {0}

figure_short : (k : ℕ) (f : Figure) → 0 < k → Below (10 ^ k) f → length (figure_word f) ≤ k
figure_short k (Some v) p h = decimal_short k v p h
figure_short k None p h = p

-- a mark of at most j digits and figures of at most k
pub line_short : (j k mark : ℕ) (o : Outcome) → 0 < j → 0 < k → mark < 10 ^ j → Below (10 ^ k) o.first → Below (10 ^ k) o.second → Below (10 ^ k) o.third → Below (10 ^ k) o.fourth → length (line_text (line_words mark o)) ≤ j + 4 * k + 13
line_short j k mark o p q h a b c d =
    rw (length_more, length_more, length_more, length_more, length_more, length_last) (omega (
      arith,
      decimal_short j mark p h,
      name_short o.check,
      figure_short k o.first q a,
      figure_short k o.second q b,
      figure_short k o.third q c,
      figure_short k o.fourth q d,
    ))

pub head_short : (j n : ℕ) → 0 < j → n < 10 ^ j → length (line_text (head_words n)) ≤ j + 9
head_short j n p h = rw (length_more, length_last) (omega (arith, decimal_short j n p h))

pub refusal_short : (j k question member : ℕ) → 0 < j → 0 < k → question < 10 ^ j → member < 10 ^ k → length (line_text (refusal_words question member)) ≤ j + k + 17
refusal_short j k question member p q h g =
    rw (length_more, length_more, length_more, length_last) (omega (arith, decimal_short j question p h, decimal_short k member q g))

-- lines of at most n bytes each
pub text_short : (n : ℕ) (ls : List (List (List ℕ))) → All (λ l. length (line_text l) ≤ n) ls → length (text_of ls) ≤ length ls * n
unfolding text_of ended_by
text_short n [] a = omega arith
text_short n (l ∷ ls) a = rw (text_append (l ∷ []) ls, length-append) (omega (arith, a.0, text_short n ls a.1))
