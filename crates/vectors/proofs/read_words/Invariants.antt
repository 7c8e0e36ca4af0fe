use Prim.Native.Nat.{◌*◌, ◌-◌}
use mathlib.Core.Path.{◌≡◌}
use lib.ListN.{length}
use lib.Seq.{sets}
use Rattle.vectors.specs.Vectors.{words_from}
use Rattle.vectors.proofs.read_words.Given as goal

abbrev pub invariant-loop-i : goal.invariant-loop-i
invariant-loop-i l =
    (length l.words ≡ 16384) × (sets l.words l.i (words_from (l.n - l.i) l.src (4 * l.i)) ≡ sets l.initial.words 0 (words_from l.n l.src 0))
