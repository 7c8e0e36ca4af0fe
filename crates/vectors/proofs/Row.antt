-- The tally of the bytes of a row is the number of its vectors and of those that agree; worked examples of cut input.
use Prim.Native.Nat.{ℕ, zero, suc, ◌+◌, ◌/◌, ◌%◌, ◌≤◌, ◌<◌}
use mathlib.Core.Path.{◌≡◌, refl, sym, ap, ap₂, ◌∙◌}
use mathlib.Core.List.{List, [], ◌∷◌, ◌++◌, append_assoc}
use native.Mathlib.Omega.{arith}
use borrow.Author.Tests.{lt-ltb, le-ltb}
use lib.ListN.{length, drop, length-append}
use lib.Seq.{get_or-append_seam, get_or-append-add, drop-append-add, take-append_seam}
use Rattle.vectors.specs.Vectors.{same_bytes, pair_at, answer_to, part_at, part_end, vector_end, equal_at, starts_from, starts, equal_of, tally, tally_of}
use Rattle.vectors.specs.Row.{Vector, part_bytes, row_of, agreeing}
use Rattle.vectors.proofs.Walk.{whole}

-- ---- A part that stands behind `pre`.

part_length : (t : List ℕ) → length (part_bytes t) ≡ length t + 2
unfolding part_bytes
part_length t = omega arith

module _ (pre t rest : List ℕ) where
  length_read : pair_at (pre ++ (part_bytes t ++ rest)) (length pre) ≡ length t
  unfolding pair_at part_bytes
  length_read =
      let a = get_or-append_seam pre (length t % 256) ((length t / 256) ∷ (t ++ rest)) 0 in
      let b = get_or-append-add pre ((length t % 256) ∷ ((length t / 256) ∷ (t ++ rest))) 1 0 in
      rw (a, b) (omega arith)

  behind : drop (length pre + 2) (pre ++ (part_bytes t ++ rest)) ≡ t ++ rest
  unfolding part_bytes
  behind = drop-append-add pre (part_bytes t ++ rest) 2

  part_read : part_at (pre ++ (part_bytes t ++ rest)) (length pre) ≡ t
  unfolding part_at
  part_read = rw (length_read, behind) (take-append_seam t rest)

  end_read : part_end (pre ++ (part_bytes t ++ rest)) (length pre) ≡ length (pre ++ part_bytes t)
  unfolding part_end
  end_read = rw length_read (omega (arith, length-append pre (part_bytes t), part_length t))

-- ---- A vector that stands behind `pre`.

module _ (pre : List ℕ) (x : Vector) (rest : List ℕ) where
  abbrev row : List ℕ
  row = pre ++ (x.form ∷ (part_bytes x.given ++ (part_bytes x.text ++ rest)))

  -- what stands in front of its first part, of its text, and of the next vector
  abbrev head : List ℕ
  head = pre ++ (x.form ∷ [])

  abbrev front : List ℕ
  front = head ++ part_bytes x.given

  abbrev passed : List ℕ
  passed = front ++ part_bytes x.text

  from_given : row ≡ head ++ (part_bytes x.given ++ (part_bytes x.text ++ rest))
  from_given = sym (append_assoc pre (x.form ∷ []) (part_bytes x.given ++ (part_bytes x.text ++ rest)))

  from_text : row ≡ front ++ (part_bytes x.text ++ rest)
  from_text = from_given ∙ sym (append_assoc head (part_bytes x.given) (part_bytes x.text ++ rest))

  from_next : row ≡ passed ++ rest
  from_next = from_text ∙ sym (append_assoc front (part_bytes x.text) rest)

  given_starts : length pre + 1 ≡ length head
  given_starts = sym (length-append pre (x.form ∷ []))

  given_read : part_at row (length pre + 1) ≡ x.given
  given_read = rw (given_starts, from_given) (part_read head x.given (part_bytes x.text ++ rest))

  text_starts : part_end row (length pre + 1) ≡ length front
  text_starts = rw (given_starts, from_given) (end_read head x.given (part_bytes x.text ++ rest))

  text_ends : part_end row (length front) ≡ length passed
  text_ends = rw from_text (end_read front x.text rest)

  text_read : part_at row (length front) ≡ x.text
  text_read = rw from_text (part_read front x.text rest)

  next_starts : vector_end row (length pre) ≡ length passed
  next_starts = ap (part_end row) text_starts ∙ text_ends

  more : length pre < length passed
  more = omega (arith, given_starts, length-append head (part_bytes x.given), length-append front (part_bytes x.text))

  within : length passed ≤ length row
  within = rw from_next (omega (arith, length-append passed rest))

  equal_read : equal_at row (length pre) ≡ same_bytes (answer_to x.form x.given) x.text
  equal_read =
      whole row (length pre) (length front) (length passed) (sym text_starts) (sym text_ends) within x.form x.given x.text
      (sym (get_or-append_seam pre x.form (part_bytes x.given ++ (part_bytes x.text ++ rest)) 0)) (sym given_read) (sym text_read)

-- ---- The row.

-- the vectors that start behind `pre`
abbrev Read : ℕ → List ℕ → List Vector → Type 0
Read n pre xs =
    let s = pre ++ row_of xs in
    (length (starts_from n s (length pre)) ≡ length xs) × (equal_of s (starts_from n s (length pre)) ≡ agreeing xs)

-- one vector more
step : (n : ℕ) (pre : List ℕ) (x : Vector) (xs : List Vector) → Read n (passed pre x (row_of xs)) xs → Read (suc n) pre (x ∷ xs)
unfolding starts_from equal_of agreeing row_of
step n pre x xs h =
    let r = row_of xs in
    let l : length pre < length (row pre x r) = omega (arith, more pre x r, within pre x r) in
    let e = from_next pre x r in
    let v : length (starts_from n (row pre x r) (length (passed pre x r))) ≡ length xs = rw e h.0 in
    let q : equal_of (row pre x r) (starts_from n (row pre x r) (length (passed pre x r))) ≡ agreeing xs = rw e h.1 in
    rw (lt-ltb (length pre) (length (row pre x r)) l, next_starts pre x r, equal_read pre x r) (ap suc v, rw q)

none : (n : ℕ) (pre : List ℕ) → Read n pre []
unfolding starts_from equal_of agreeing row_of
none zero pre = (refl, refl)
none (suc n) pre =
    let h : length (pre ++ []) ≤ length pre = omega (arith, length-append pre []) in
    rw (le-ltb (length pre) (length (pre ++ [])) h) (refl, refl)

walked : (xs : List Vector) (n : ℕ) (pre : List ℕ) → length xs ≤ n → Read n pre xs
walked [] n pre h = none n pre
walked (x ∷ xs) zero pre h = absurd (omega arith)
walked (x ∷ xs) (suc n) pre h = step n pre x xs (walked xs n (passed pre x (row_of xs)) (omega arith))

-- a vector has a byte or more
row_long : (xs : List Vector) → length xs ≤ length (row_of xs)
unfolding row_of
row_long [] = omega arith
row_long (x ∷ xs) =
    omega (arith, row_long xs, length-append (part_bytes x.given) (part_bytes x.text ++ row_of xs), length-append (part_bytes x.text) (row_of xs))

pub row_read : (xs : List Vector) → length (row_of xs) ≤ 320000 → tally_of (row_of xs) ≡ tally (length xs) (agreeing xs)
unfolding tally_of starts
row_read xs h =
    let r = walked xs (length (row_of xs)) [] (row_long xs) in
    ap₂ tally (rw (le-ltb 320000 (length (row_of xs)) h, r.0) (omega arith)) r.1

-- ---- Cut input: the vector is counted, and is not equal.

nothing : tally_of [] ≡ tally 0 0
unfolding tally_of starts starts_from equal_of
nothing = refl

-- a form alone; a length of one byte; what is given cut; a text cut
form_alone : tally_of (0 ∷ []) ≡ tally 1 0
unfolding tally_of starts starts_from equal_of equal_at part_end pair_at
form_alone = refl

length_cut : tally_of (0 ∷ 1 ∷ []) ≡ tally 1 0
unfolding tally_of starts starts_from equal_of equal_at part_end pair_at
length_cut = refl

given_cut : tally_of (1 ∷ 2 ∷ 0 ∷ 0 ∷ []) ≡ tally 1 0
unfolding tally_of starts starts_from equal_of equal_at part_end pair_at
given_cut = refl

text_cut : tally_of (0 ∷ 1 ∷ 0 ∷ 0 ∷ 2 ∷ 0 ∷ 109 ∷ []) ≡ tally 1 0
unfolding tally_of starts starts_from equal_of equal_at part_end pair_at
text_cut = refl
