-- How many vectors an input has, and how many of them are equal to what is printed or written.
-- The input is a row of vectors, of at most 320,000 bytes. A vector is a byte that says what is given, then a schedule or a list of
-- words, and the text expected, both after their lengths in two bytes, low byte first.
use Rattle.std.specs.Prelude.{ℕ, zero, suc, ◌+◌, ◌*◌, ◌/◌, ◌≤◌, ◌≡◌, Bool, true, false, ◌&&◌, List, [], ◌∷◌, leb, ltb, eqb, length, get_or, take, drop, if◌then◌else◌}
use Rattle.program_output.specs.ProgramOutput.{shown, output_of}
use Rattle.writer.specs.Written.{file_of}
use Rattle.vectors.specs.declared.Tally.{Tally}

-- as many bytes, and the same ones
unfoldable pub same_bytes : List ℕ → List ℕ → Bool
same_bytes [] [] = true
same_bytes [] (b ∷ t) = false
same_bytes (a ∷ s) [] = false
same_bytes (a ∷ s) (b ∷ t) = eqb a b && same_bytes s t

-- the first n numbers of d are t
abbrev pub Holds : List ℕ → ℕ → List ℕ → Type 0
Holds d n t = (n ≤ length d) × (take n d ≡ t)

-- ---- Numbers, low byte first. A byte past the end counts as 0.

-- the number in the two bytes at p, and in the four
unfoldable pub pair_at : List ℕ → ℕ → ℕ
pair_at s p = get_or s p 0 + 256 * get_or s (p + 1) 0

unfoldable pub word_at : List ℕ → ℕ → ℕ
word_at s p = pair_at s p + 65536 * pair_at s (p + 2)

-- n words from p on
unfoldable pub words_from : ℕ → List ℕ → ℕ → List ℕ
words_from zero s p = []
words_from (suc n) s p = word_at s p ∷ words_from n s (p + 4)

-- all words of these bytes; fewer than four bytes left over are none
unfoldable pub words_of : List ℕ → List ℕ
words_of s = words_from (length s / 4) s 0

-- ---- The answer to what is given.

-- what is written for words: the file, or `refused N member M`
unfoldable pub written_of : List ℕ → List ℕ
written_of words = shown (file_of words)

-- form 0 is a schedule, any other a list of words
unfoldable pub answer_to : ℕ → List ℕ → List ℕ
answer_to form given = if eqb form 0 then output_of given else written_of (words_of given)

-- ---- One vector: its form and two parts, each after its length.

-- the part whose length stands at p, and the place after it
unfoldable pub part_at : List ℕ → ℕ → List ℕ
part_at s p = take (pair_at s p) (drop (p + 2) s)

unfoldable pub part_end : List ℕ → ℕ → ℕ
part_end s p = p + 2 + pair_at s p

-- the place after the vector that begins at p: past the input's end where the vector is cut
abbrev pub vector_end : List ℕ → ℕ → ℕ
vector_end s p = part_end s (part_end s (p + 1))

-- the vector is whole, and its text is the answer to what is given: a cut vector is not equal
unfoldable pub equal_at : List ℕ → ℕ → Bool
equal_at s p = leb (vector_end s p) (length s) && same_bytes (answer_to (get_or s p 0) (part_at s (p + 1))) (part_at s (part_end s (p + 1)))

-- ---- All vectors.

abbrev pub one_if : Bool → ℕ
one_if b = if b then 1 else 0

-- where the vectors from p on begin: each begins where the one before ends, until the input ends; at most `most` of them
unfoldable pub starts_from : ℕ → List ℕ → ℕ → List ℕ
starts_from zero s p = []
starts_from (suc most) s p = if ltb p (length s) then p ∷ starts_from most s (vector_end s p) else []

-- a vector has a byte or more, so there are at most as many as bytes
unfoldable pub starts : List ℕ → List ℕ
starts s = starts_from (length s) s 0

-- how many of the vectors that begin there are equal
unfoldable pub equal_of : List ℕ → List ℕ → ℕ
equal_of s [] = 0
equal_of s (p ∷ ps) = one_if (equal_at s p) + equal_of s ps

abbrev pub tally : ℕ → ℕ → Tally
tally vectors equal = record { vectors = vectors; equal = equal }

abbrev pub row_tally : List ℕ → Tally
row_tally s = tally (length (starts s)) (equal_of s (starts s))

-- of an input: what is past the 320,000th byte counts as one vector more, which is not equal
unfoldable pub tally_of : List ℕ → Tally
tally_of s = tally ((row_tally s).vectors + one_if (ltb 320000 (length s))) (row_tally s).equal
