-- Fields copied into slots.
use Prim.Native.Nat.{ℕ, ◌+◌, ◌-◌, ◌≤◌}
use mathlib.Core.Path.{◌≡◌, sym}
use mathlib.Core.List.{List, append_assoc}
use native.Mathlib.Omega.{arith}
use lib.ListN.{length, take, drop, length-take, length-drop}
use borrow.Rule.Slice.PartMut.{put_mid, Post-is}
use Rattle.std.proofs.lemmas.List.Edits.{sets, sets-eq}
use Rattle.field_layout.specs.Layout.{part}
use Rattle.field_layout.proofs.Part.{part_slice}

pub fields_placed : (v s ys : List ℕ) (at from n : ℕ) → at + n ≤ length v → from + n ≤ length s → ys ≡ take (from + n - from) (drop from s)
    → put_mid at (at + n - at) v ys ≡ sets v at (part s from n)
fields_placed v s ys at from n h g e =
    let row = take n (drop from s) in
    let k : from + n - from ≡ n = omega arith in
    let l : length row ≡ n = simp (length-take, length-drop) (omega arith) in
    let there : at + length row ≤ length v = rw l h in
    rw (part_slice s from n g, sets-eq row v at there, l, e, k, Post-is at (at + n) v (omega arith))
    (sym (append_assoc (take at v) row (drop (at + n) v)))
