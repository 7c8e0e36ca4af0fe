-- Laws of `Put`: one text after the other, and the whole buffer after a text put at its start.
use Prim.Native.Nat.{ℕ, suc, ◌+◌, ◌<◌, ◌≤◌}
use mathlib.Core.Path.{◌≡◌, refl, sym, ◌∙◌}
use mathlib.Core.List.{List, [], ◌∷◌, ◌++◌}
use native.Mathlib.Nat.{add-zero, zero-add}
use native.Mathlib.Omega.{arith, min_cases}
use lib.ListN.{length, take, drop, length-append}
use lib.Seq.{sets, sets-eq, length-sets, set_out, take-append_seam}
use Rattle.text.specs.Put.{Put, advance, last_position}
use Rattle.text.specs.Wrote.{Wrote}
use Rattle.text.specs.declared.Writer.{Writer}

-- ---- Runs of stores

sets_append : (s t d : List ℕ) (at : ℕ) → sets (sets d at s) (at + length s) t ≡ sets d at (s ++ t)
sets_append [] t d at = rw add-zero
sets_append (b ∷ s) t d at =
    let e : at + suc (length s) ≡ suc at + length s = omega arith in
    rw e (sets_append s t _ (suc at))

-- past the end nothing is stored
sets_out : (s d : List ℕ) (at : ℕ) → length d ≤ at → sets d at s ≡ d
sets_out [] d at h = refl
sets_out (b ∷ s) d at h = rw (set_out d at b h) (sets_out s d (suc at) (omega arith))

-- the largest position lies past the end, and so does any above it
sets_advance : (d t : List ℕ) (at n : ℕ) → length d < last_position → sets d (advance at n) t ≡ sets d (at + n) t
sets_advance d t at n h =
    min_cases (at + n) last_position _ (λ k e. rw e)
    (λ k e. rw e (sets_out t d last_position (omega arith) ∙ sym (sets_out t d (at + n) (omega arith))))

-- ---- One text after the other

pub put_none : (d : List ℕ) (at : ℕ) → length d < last_position → at ≤ last_position → Put d at [] d at
put_none d at h k = record { bytes = refl; next = omega arith; short = h }

pub put_then : {d : List ℕ} {at : ℕ} {s d₁ : List ℕ} {p : ℕ} {t d₂ : List ℕ} {q : ℕ} → Put d at s d₁ p → Put d₁ p t d₂ q → Put d at (s ++ t) d₂ q
put_then {d} {at} {s} {d₁} {p} {t} {d₂} {q} a b = record {
  bytes = b.bytes ∙ rw (a.next, sets_advance d₁ t at (length s) b.short, a.bytes) (sets_append s t d at);
  next = rw length-append (omega (arith, a.next, b.next));
  short = a.short;
}

pub wrote_then : {w w₁ w₂ : Writer} {s t : List ℕ} → Wrote w s w₁ → Wrote w₁ t w₂ → Wrote w (s ++ t) w₂
wrote_then a b = record { same = b.same ∙ a.same; put = put_then a.put b.put }

-- the buffer keeps its length
pub put_length : {d : List ℕ} {at : ℕ} {s d' : List ℕ} {r : ℕ} → Put d at s d' r → length d' ≡ length d
put_length {d} {at} {s} a = rw a.bytes (length-sets d at s)

-- what `put_none` asks, after any text
pub put_bounds : {d : List ℕ} {at : ℕ} {s d' : List ℕ} {r : ℕ} → Put d at s d' r → (length d' < last_position) × (r ≤ last_position)
put_bounds a = omega (arith, put_length a, a.short, a.next)

-- a byte past the end
pub put_past : (d : List ℕ) {at b r : ℕ} → length d ≤ at → length d < last_position → r ≡ advance at 1 → Put d at (b ∷ []) d r
put_past d {at} {b} h k e = record { bytes = sym (set_out d at b h); next = e; short = k }

-- ---- In a loop: w has put a part of the text s since it was w₀, and t is what is left

pub record Leaves (w₀ : Writer) (s : List ℕ) (w : Writer) (t : List ℕ) : Type 0 where
  pub bounds : (length w.out.now < last_position) × (w.at ≤ last_position)
  pub whole : (w' : Writer) → Wrote w t w' → Wrote w₀ s w'

pub leaves_all : (w : Writer) (s : List ℕ) → (length w.out.now < last_position) × (w.at ≤ last_position) → Leaves w s w s
leaves_all w s b = record { bounds = b; whole = λ w' h. h }

pub leaves_more : {w₀ w w₁ : Writer} {s : List ℕ} (t u : List ℕ) → Leaves w₀ s w (t ++ u) → Wrote w t w₁ → Leaves w₀ s w₁ u
leaves_more t u l a = record { bounds = put_bounds a.put; whole = λ w' h. l.whole w' (wrote_then a h) }

pub leaves_none : {w₀ w : Writer} {s : List ℕ} → Leaves w₀ s w [] → Wrote w₀ s w
leaves_none {w = w} l = l.whole w (record { same = refl; put = put_none w.out.now w.at l.bounds.0 l.bounds.1 })

-- ---- A text put at the start: how long it is, and what the buffer then holds

module _ {d s d' : List ℕ} {r : ℕ} (a : Put d 0 s d' r) where
  -- the position learnt on d says whether the text fits n bytes
  pub fits : {n : ℕ} → n < last_position → r ≤ n → length s ≤ n
  fits h k = omega (arith, a.next)

  pub too_long : {n : ℕ} → n < r → n < length s
  too_long k = omega (arith, a.next)

  pub learnt_length : length s ≤ last_position → r ≡ length s
  learnt_length h = omega (arith, a.next)

  -- a text that fits, and the bytes after it
  pub put_whole : length s ≤ length d → d' ≡ s ++ drop (length s) d
  put_whole h = a.bytes ∙ sets-eq s d 0 (omega arith) ∙ rw zero-add

  pub put_read : length s ≤ length d → take r d' ≡ s
  put_read h =
      let e : r ≡ length s = learnt_length (omega (arith, a.short)) in
      rw (e, put_whole h) (take-append_seam s _)
