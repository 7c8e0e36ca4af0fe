-- The text of lines, put together from words and from lines.
use Prim.Native.Nat.{ℕ}
use mathlib.Core.Path.{◌≡◌, refl}
use mathlib.Core.List.{List, [], ◌∷◌, ◌++◌, append_assoc}
use Rattle.text.specs.Text.{joined_by, ended_by, text_of}
use Rattle.text.specs.declared.Writer.{Writer}
use Rattle.text.specs.Wrote.{Wrote}
use Rattle.text.proofs.Put.{wrote_then}
use Rattle.line.specs.Line.{line_text}

-- ---- A line from its words

pub line_last : (w : List ℕ) → line_text (w ∷ []) ≡ w ++ (10 ∷ [])
unfolding text_of ended_by joined_by
line_last w = refl

pub line_more : (w v : List ℕ) (ws : List (List ℕ)) → line_text (w ∷ v ∷ ws) ≡ w ++ (32 ∷ []) ++ line_text (v ∷ ws)
unfolding text_of ended_by joined_by
line_more w v ws = simp append_assoc

-- the last word of a line
pub wrote_end : (w : List ℕ) {a b : Writer} → Wrote a (w ++ (10 ∷ [])) b → Wrote a (line_text (w ∷ [])) b
wrote_end w h = rw line_last h

-- a word before others
pub wrote_more : (w v : List ℕ) (ws : List (List ℕ)) {a b c : Writer} → Wrote a (w ++ (32 ∷ [])) b → Wrote b (line_text (v ∷ ws)) c → Wrote a (line_text (w ∷ v ∷ ws)) c
wrote_more w v ws h k = rw line_more (wrote_then h k)

-- ---- A text from its lines

pub text_append : (ls ms : List (List (List ℕ))) → text_of (ls ++ ms) ≡ text_of ls ++ text_of ms
unfolding text_of ended_by
text_append [] ms = refl
text_append (l ∷ ls) ms = rw (text_append ls ms) (simp append_assoc)
