-- What stands in the buffer is all of the input, or as many of its first bytes as there is room for.
use Rattle.std.proofs.Common.{◌≡◌, ℕ, ◌≤◌, ◌<◌, List, ◌++◌, IfSome, None, Some, length, take, sym, ap, subst, ◌∙◌, arith, append-nil, length-take-le, take_all}
use Rattle.std.proofs.Math.Seq.{take-append_seam}
use native.Mathlib.Decide.{dec_le}
use Rattle.std.specs.Prelude.{Option}
use Rattle.std.specs.Io.KnownBytes.{Appends, Consumes, IsAtEnd}
use Rattle.program_output.specs.ProgramOutput.{output_of}
use Rattle.console.proofs.print_input.Goals as goal

-- what `HasTaken` says of a read that yields n
abbrev Taken : Option (List ℕ) → Option (List ℕ) → ℕ → List ℕ → Type 0
Taken before after n buf = Consumes before after (take n buf) × (n < length buf → IsAtEnd after)

-- the input's first bytes, as many as there is room for, are the n that were read
first_bytes : (bytes left buf : List ℕ) (room n : ℕ) → length buf ≡ room → n ≤ length buf →
    Taken (Some bytes) (Some left) n buf → take room bytes ≡ take n buf
first_bytes bytes left buf room n full within h = go (dec_le (length buf) n)
  where
    long : length (take n buf) ≡ n
    long = length-take-le n buf within

    go : Dec (length buf ≤ n) → take room bytes ≡ take n buf
    go (yes k) =
        let same : room ≡ length (take n buf) = omega (arith, long) in
        ap (take room) h.0 ∙ ap (λ (i : ℕ). take i (take n buf ++ left)) same ∙ take-append_seam (take n buf) left
    go (no k) =
        let all : bytes ≡ take n buf = h.0 ∙ ap (λ (l : List ℕ). take n buf ++ l) (h.1 (omega arith)) ∙ append-nil (take n buf) in
        ap (take room) all ∙ take_all room (take n buf) (omega (arith, long))

-- the output of the bytes that were read is the output of those
printed : (held holds before after : Option (List ℕ)) (buf : List ℕ) (room n : ℕ) → length buf ≡ room → n ≤ length buf →
    Taken before after n buf → Appends held holds (output_of (take n buf)) →
    IfSome before (λ bytes. Appends held holds (output_of (take room bytes)))
printed held holds None after buf room n full within h p = tt
printed held holds (Some bytes) None buf room n full within h p = absurd h.0
printed held holds (Some bytes) (Some left) buf room n full within h p =
    subst (λ (l : List ℕ). Appends held holds (output_of l)) (sym (first_bytes bytes left buf room n full within h)) p

pub returns-in-Ok-print_output-clause-printed : goal.returns-in-Ok-print_output-clause-printed
returns-in-Ok-print_output-clause-printed g c =
    printed _ _ _ _ c.read_input.new.buf 60001 c.in-Ok.n (omega arith) c.in-Ok.ensures.within.0 c.in-Ok.ensures.bytes c.in-Ok-print_output.ensures
