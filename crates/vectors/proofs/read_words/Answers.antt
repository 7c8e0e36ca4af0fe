-- `vectors::read_words` meets its contract. The loop's invariant: whoever stores the words that are left has stored all of them.
use Prim.Native.Nat.{◌+◌, ◌*◌}
use mathlib.Core.Path.{◌≡◌, refl, sym, ◌∙◌}
use native.Mathlib.Omega.{arith}
use lib.ListN.{length-set}
use Rattle.vectors.proofs.Words.{word_stored, none_left, words_hold}
use Rattle.vectors.proofs.read_words.Goals as goal

pub loop-i-preserved : goal.loop-i-preserved
loop-i-preserved c =
    let l = c.loop-i in
    let next : 4 * (l.i + 1) ≡ 4 * l.i + 4 = omega arith in
    (length-set l.words _ _ ∙ l.invariant.0, rw (c.word_at.ensures, next) (word_stored l.words _ _ _ (4 * l.i) c.loop-i-test.true ∙ l.invariant.1))

pub returns : goal.returns
returns c =
    let l = c.loop-i in
    words_hold c.args.words.now l.words _ _ refl (omega arith) (sym l.invariant.1 ∙ none_left l.words _ _ _ (4 * l.i) c.loop-i-test.false)
