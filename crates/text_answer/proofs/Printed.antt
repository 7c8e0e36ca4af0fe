-- What the two runs give: a text that fits or not, and what was written.
use Rattle.std.specs.Prelude.{Err, Ok}
use Prim.Native.Nat.{ℕ, ◌<◌, ◌≤◌}
use mathlib.Core.Path.{◌≡◌, refl, ap}
use mathlib.Core.List.{List}
use native.Mathlib.Omega.{arith}
use native.Mathlib.Decide.{dec_le}
use borrow.Author.Tests.{le-leb, lt-leb}
use lib.ListN.{length, take, drop}
use lib.Seq.{take-append_seam}
use Rattle.text.specs.declared.Writer.{Writer}
use Rattle.text.specs.Wrote.{Wrote}
use Rattle.text.specs.Put.{Put, last_position}
use Rattle.text.proofs.Put.{fits, too_long, put_whole, learnt_length}
use Rattle.question.specs.declared.Refusal.{Refusal}
use Rattle.question.specs.Reading as reading
use Rattle.text_answer.specs.Printed.{TextAnswer}
use Rattle.question.proofs.Numbers.{numbered}
use Rattle.text_answer.specs.Printed.{written, refused, numbers_of, answered, buffer_after, Printed}

-- what a writer put, from the buffer's start on: d' is what the buffer then holds
pub put_from : {w w' : Writer} {s d d' : List ℕ} → Wrote w s w' → w.at ≡ 0 → w.out.now ≡ d → d' ≡ w'.out.now → Put d 0 s d' w'.at
put_from h a e f = rw (f, ← e, ← a) h.put

-- a text that fits
pub printed_whole : (full : Refusal) (text d : List ℕ) {d' : List ℕ} {r : ℕ} → length text ≤ length d → Put d 0 text d' r → Printed full text d d' (Ok r)
printed_whole full text d {r = r} short w =
    let s = le-leb (length text) (length d) short in
    let l : r ≡ length text = learnt_length w (omega (arith, w.short)) in
    record { answer_is = rw s (ap written l); buffer_is = rw s (put_whole w short) }

module _ (full : Refusal) (text d : List ℕ) (e e' : List ℕ) (n : ℕ) (first : Put e 0 text e' n) where
  pub printed : {d' : List ℕ} {r : ℕ} → length d < last_position → n ≤ length d → Put d 0 text d' r → Printed full text d d' (Ok r)
  printed k h w = printed_whole full text d (fits first k h) w

  pub unprinted : {a : TextAnswer} → a ≡ Err full → length d < n → Printed full text d d a
  unprinted q h =
      let s = lt-leb (length text) (length d) (too_long first h) in
      record { answer_is = rw s (ap numbers_of q); buffer_is = rw s }

-- what was written is the text
pub text_written : (full : Refusal) (text d d' : List ℕ) (a : TextAnswer) → Printed full text d d' a → (numbers_of a).question ≡ 0 → take (numbers_of a).length d' ≡ text
text_written full text d d' a p e = go (dec_le (length text) (length d))
  where
    go : Dec (length text ≤ length d) → take (numbers_of a).length d' ≡ text
    go (yes h) =
        let s = le-leb (length text) (length d) h in
        let w : numbers_of a ≡ written (length text) = rw s at p.answer_is in
        rw (w, (rw s at p.buffer_is)) (take-append_seam text (drop (length text) d))
    go (no h) =
        let g : length d < length text = omega arith in
        let w : numbers_of a ≡ refused full = rw (lt-leb (length text) (length d) g) at p.answer_is in
        absurd (numbered full.question (rw w at e))

-- a refusal: its answer, and the buffer as it was
pub refused_is : (full r : Refusal) (d : List ℕ) → (numbers_of (Err r) ≡ answered full (reading.no r) (length d)) × (d ≡ buffer_after full (reading.no r) d)
refused_is full r d = (refl, refl)
