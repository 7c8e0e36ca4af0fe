-- Words read from bytes, and what is written for them.
use Rattle.std.specs.Prelude.{Err, Ok}
use Prim.Native.Nat.{ℕ, zero, suc, ◌+◌, ◌-◌, ◌/◌, ◌^◌, ◌≤◌, ◌<◌}
use mathlib.Core.Path.{◌≡◌, refl, sym, ap, ◌∙◌}
use mathlib.Core.List.{List, [], ◌∷◌, ◌++◌}
use native.Mathlib.Numerals.{add-one}
use native.Mathlib.Nat.{zero-add}
use native.Mathlib.Omega.{arith}
use lib.ListN.{length, drop, set, length-append}
use lib.Seq.{sets, sets-eq, take-append_seam}
use Rattle.text.specs.Put.{Put}
use Rattle.line.specs.Line.{refusal_words, line_text}
use Rattle.line.proofs.Length.{refusal_short}
use Rattle.question.specs.declared.Refusal.{Refusal}
use Rattle.question.specs.Question.{number_of}
use Rattle.text_answer.specs.Printed.{TextAnswer}
use Rattle.text_answer.specs.Printed.{numbers_of}
use Rattle.writer.specs.Written.{file_of, file_too_long, ScheduleWritten}
use Rattle.writer.proofs.Written.{file_fits}
use Rattle.program_output.specs.ProgramOutput.{shown}
use Rattle.program_output.proofs.ProgramOutput.{Shown, written, refused}
use Rattle.vectors.specs.Vectors.{Holds, pair_at, word_at, words_from, words_of, written_of}

-- low byte first; a byte left over is no word
example : words_of (1 ∷ 2 ∷ 3 ∷ 4 ∷ 255 ∷ 0 ∷ 0 ∷ 0 ∷ 7 ∷ []) ≡ 67305985 ∷ (255 ∷ [])
unfolding words_of words_from word_at pair_at
example = refl

-- ---- Words stored one after the other.

words_length : (n : ℕ) (s : List ℕ) (p : ℕ) → length (words_from n s p) ≡ n
unfolding words_from
words_length zero s p = refl
words_length (suc n) s p = ap suc (words_length n s (p + 4))

-- before the first turn
pub all_left : (w s : List ℕ) (n : ℕ) → sets w 0 (words_from (n - 0) s 0) ≡ sets w 0 (words_from n s 0)
all_left w s n = let e : n - 0 ≡ n = omega arith in rw e

-- a turn: one word is stored, and then those left
pub word_stored : (w s : List ℕ) (n i p : ℕ) → i < n → sets (set w i (word_at s p)) (i + 1) (words_from (n - (i + 1)) s (p + 4)) ≡ sets w i (words_from (n - i) s p)
unfolding words_from
word_stored w s n i p h =
    let e : n - i ≡ suc (n - (i + 1)) = omega arith in
    rw (e, add-one i)

pub none_left : (w s : List ℕ) (n i p : ℕ) → n ≤ i → sets w i (words_from (n - i) s p) ≡ w
unfolding words_from
none_left w s n i p h = let e : n - i ≡ 0 = omega arith in rw e

-- numbers in front of others
holds_front : (t d : List ℕ) (n : ℕ) → n ≡ length t → Holds (t ++ d) n t
holds_front t d n e = rw e (omega (arith, length-append t d), take-append_seam t d)

pub words_hold : (w w' s : List ℕ) (n : ℕ) → n ≡ length s / 4 → n ≤ length w → sets w 0 (words_from n s 0) ≡ w' → Holds w' n (words_of s)
unfolding words_of
words_hold w w' s n e h f =
    let t = words_from n s 0 in
    let l : n ≡ length t = sym (words_length n s 0) in
    let g : sets w 0 t ≡ t ++ drop (length t) w = sets-eq t w 0 (omega arith) ∙ rw zero-add in
    let k : Holds w' n t = rw (← f, g) (holds_front t (drop (length t) w) n l) in
    (k.0, k.1 ∙ ap (λ (m : ℕ). words_from m s 0) e)

-- ---- What is written, in a buffer of 60,000 bytes.

module _ (words d d₁ : List ℕ) (a : TextAnswer) (room : length d ≡ 60000) (p : ScheduleWritten words d d₁ a) where
  whole_held : (d' : List ℕ) (n : ℕ) → Shown file_too_long (file_of words) d d' n → Holds d' n (written_of words)
  unfolding written_of
  whole_held d' n o =
      let w = o.whole (omega arith) in
      rw w.1 (holds_front (shown (file_of words)) (drop (length (shown (file_of words))) d) n w.0)

  pub was_written : (n : ℕ) → a ≡ Ok n → Holds d₁ n (written_of words)
  was_written n e = whole_held d₁ n (written file_too_long d d₁ n (file_of words) (omega arith) (ap numbers_of (sym e) ∙ p.answer_is) p.buffer_is)

  -- k is the question's number as the code has it; it and the member's have at most ten digits
  pub was_refused : (r : Refusal) (k : ℕ) (d' : List ℕ) (n : ℕ) → a ≡ Err r → k < 10 ^ 10 → r.member < 10 ^ 10 → k ≡ number_of r.question →
      Put d₁ 0 (line_text (refusal_words k r.member)) d' n → Holds d' n (written_of words)
  was_refused r k d' n e h g i w =
      let u : length (line_text (refusal_words k r.member)) ≤ 60000 = omega (arith, refusal_short 10 10 k r.member (omega arith) (omega arith) h g) in
      whole_held d' n (refused file_too_long d d' n (file_of words) r d₁ (file_fits words) (rw i at u) (ap numbers_of (sym e) ∙ p.answer_is) p.buffer_is (rw i at w))
