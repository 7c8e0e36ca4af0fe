-- What a writer does.
use Rattle.std.specs.Prelude.{ℕ, ◌≡◌, List}
use Rattle.text.specs.declared.Writer.{Writer}
use Rattle.text.specs.Put.{Put}

-- The writer w puts the text s, and is w' then: it keeps its buffer.
pub record Wrote (w : Writer) (s : List ℕ) (w' : Writer) : Type 0 where
  pub same : w'.out.ghost_name ≡ w.out.ghost_name
  pub put : Put w.out.now w.at s w'.out.now w'.at
