-- Laws of `Put` and `Wrote`: the room left after a text, a text copied.
use Prim.Native.Nat.{ℕ, ◌+◌, ◌≤◌}
use mathlib.Core.Path.{◌≡◌, ap}
use mathlib.Core.List.{List}
use native.Mathlib.Omega.{arith}
use lib.ListN.{length, take}
use lib.Seq.{take-length}
use Rattle.text.specs.declared.Writer.{Writer}
use Rattle.text.specs.Put.{Put}
use Rattle.text.specs.Wrote.{Wrote}
use Rattle.text.proofs.Put.{put_length, put_read}

-- the room that is left after a text of at most k bytes
pub put_room : (k m : ℕ) {d : List ℕ} {at : ℕ} {s d' : List ℕ} {r : ℕ} → Put d at s d' r → length s ≤ k → at + k + m ≤ length d → r + m ≤ length d'
put_room k m a h g = omega (arith, put_length a, a.next)

-- a text that fits, copied from the buffer at whose start it was put: x is what that buffer then holds
pub wrote_copied : {a : Writer} {s : List ℕ} {b : Writer} → Wrote a s b → a.at ≡ 0 → length s ≤ length a.out.now → {w w' : Writer} {x : List ℕ} → Wrote w (take b.at x) w' → x ≡ b.out.now → Wrote w s w'
wrote_copied {a} {s} p z h q e = rw (ap (take _) e, put_read (rw z at p.put) h) at q

-- the same of a text that fills that buffer
pub wrote_whole : {a : Writer} {s : List ℕ} {b : Writer} → Wrote a s b → a.at ≡ 0 → length s ≡ length a.out.now → {w w' : Writer} {x : List ℕ} → Wrote w x w' → x ≡ b.out.now → Wrote w s w'
wrote_whole {a} {s} {b} p z h {w} {w'} {x} q e =
    let n : b.at ≡ length x = omega (arith, ap length e, put_length p.put, p.put.next, p.put.short) in
    wrote_copied p z (omega arith) (rw (n, take-length x) q) e
