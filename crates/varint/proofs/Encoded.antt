-- The bytes of a number are read back wherever they stand, and no other bytes are read as that number.
use mathlib.Core.Path.{◌≡◌, refl, sym, ap, ap₂, ◌∙◌}
use mathlib.Core.Bool.{or-true}
use mathlib.Core.List.{List, [], ◌∷◌, ◌++◌, append_assoc}
use mathlib.Core.Logic.{◌⊎◌, inl, inr, ⊎_elim}
use Prim.Native.Nat.{ℕ, zero, suc, ◌+◌, ◌-◌, ◌*◌, ◌/◌, ◌%◌, ◌^◌, ◌≤◌, ◌<◌}
use native.Mathlib.Nat.{pow-suc}
use native.Mathlib.Numerals.{add-one}
use native.Mathlib.Omega.{arith}
use lib.ListN.{length, get_or, drop, length-append}
use lib.Seq.{get_or-append_seam, drop-cons}
use lib.Dec.{ltb}
use borrow.Author.Tests.{lt-ltb, le-ltb, ltb-true, ltb-false, eq-eqb}
use Rattle.std.specs.Prelude.{if◌then◌else◌, Err, Ok}
use Rattle.quantity.proofs.Rounding.{expand}
use Rattle.question.specs.declared.Question.TheVariants.{NumberForm}
use Rattle.varint.specs.Varint.{Number}
use Rattle.varint.specs.Varint.{number_at, septets_at, last_septet}
use Rattle.varint.specs.Encoding.{septets_of, bytes_of, Bytes}
use Rattle.varint.proofs.Septets.{last_septet_at, septet_follows, Ended, septets_inv, refused_no_value}
use Rattle.quantity.proofs.Choice.{if_case}

-- ---- Read back.

-- the number v, with p the place after it: question 3 where v is 2 ^ 32 or more
abbrev sized : ℕ → ℕ → Number
sized v p = if ltb v (2 ^ 32) then Ok (v, p) else Err NumberForm

-- a byte after a prefix stands inside the list
inside : (pre : List ℕ) (b : ℕ) (tl : List ℕ) → length pre < length (pre ++ b ∷ tl)
inside pre b tl = simp length-append (omega arith)

-- a septet that is not zero, or the only one, ends the number
read_last : (left : ℕ) (pre rest : List ℕ) (b w v : ℕ) → b < 128 → (0 < b) ⊎ (w ≡ 1)
    → septets_at (suc left) (pre ++ b ∷ rest) (length pre) w v ≡ sized (v + b * w) (length pre + 1)
unfolding last_septet
read_last left pre rest b w v h z =
    last_septet_at _ _ _ _ _ (omega arith) b (sym (get_or-append_seam pre b rest 0)) (inside pre b rest) h
    ∙ ⊎_elim (λ e. simp (lt-ltb 0 b e)) (λ e. simp (eq-eqb w 1 e, or-true)) z

-- a septet with the top bit set: the number goes on behind it
read_next : (left : ℕ) (pre rest : List ℕ) (g w v : ℕ)
    → septets_at (suc left) (pre ++ (g + 128) ∷ rest) (length pre) w v
    ≡ septets_at left ((pre ++ (g + 128) ∷ []) ++ rest) (length (pre ++ (g + 128) ∷ [])) (w * 128) (v + g * w)
read_next left pre rest g w v =
    let e : g + 128 - 128 ≡ g = omega arith in
    let l : suc left - 1 ≡ left = omega arith in
    septet_follows _ _ _ _ _ (omega arith) (g + 128) (sym (get_or-append_seam pre (g + 128) rest 0)) (inside pre (g + 128) rest) (omega arith)
    ∙ rw (e, l) (ap₂ (λ (s : List ℕ) (n : ℕ). septets_at left s n (w * 128) (v + g * w)) (sym (append_assoc pre ((g + 128) ∷ []) rest))
    (sym (length-append pre ((g + 128) ∷ []))))

-- the value, split at its lowest septet
split : (v u w : ℕ) → v + u % 128 * w + u / 128 * (w * 128) ≡ v + u * w
split v u w =
    let e : u / 128 * 128 + u % 128 ≡ u = omega arith in
    let f : (u / 128 * 128 + u % 128) * w ≡ u * w = ap (λ (n : ℕ). n * w) e in
    rw (← f) (simp expand (omega arith))

septets_back : (k u : ℕ) → u < 128 ^ suc k → (pre rest : List ℕ) (w v : ℕ) → (0 < u) ⊎ (w ≡ 1)
    → septets_at (suc k) (pre ++ (septets_of k u ++ rest)) (length pre) w v ≡ sized (v + u * w) (length pre + length (septets_of k u))
unfolding septets_of
septets_back zero u h pre rest w v z = read_last 0 pre rest u w v h z
septets_back (suc k) u h pre rest w v z =
    if_case
    (λ (l : List ℕ). septets_at (suc (suc k)) (pre ++ (l ++ rest)) (length pre) w v ≡ sized (v + u * w) (length pre + length l))
    (ltb u 128) _ _
    (λ t. read_last (suc k) pre rest u w v (ltb-true _ _ t) z)
    (λ t.
    read_next (suc k) pre (septets_of k (u / 128) ++ rest) (u % 128) w v
    ∙ septets_back k (u / 128) (omega (arith, pow-suc 128 (suc k))) (pre ++ (u % 128 + 128) ∷ []) rest (w * 128) (v + u % 128 * w)
    (inl (omega (arith, ltb-false u 128 t)))
    ∙ ap₂ sized (split v u w) (omega (arith, length-append pre ((u % 128 + 128) ∷ []))))

-- the bytes of a number below 2 ^ 32 are read as it, wherever they stand
pub bytes_read : (v : ℕ) → v < 2 ^ 32 → (pre rest : List ℕ)
    → number_at (pre ++ (bytes_of v ++ rest)) (length pre) ≡ Ok (v, length pre + length (bytes_of v))
unfolding number_at bytes_of
bytes_read v h pre rest =
    let e : 0 + v * 1 ≡ v = omega arith in
    septets_back 4 v (omega arith) pre rest 1 0 (inr refl)
    ∙ rw e (simp (lt-ltb _ _ h))

-- ---- No other bytes.

-- the septets from p to next encode u, which adds u * w to the value v of the septets below
record Encodes (k : ℕ) (s : List ℕ) (p w v x next : ℕ) : Type 0 where
  u : ℕ
  value : x ≡ v + u * w
  bytes : drop p s ≡ septets_of k u ++ drop next s
  form : (0 < u) ⊎ (w ≡ 1)

-- a number below 128 is one septet
pub one_septet : (k b : ℕ) → b < 128 → septets_of k b ≡ b ∷ []
unfolding septets_of
one_septet zero b h = refl
one_septet (suc k) b h = simp (lt-ltb _ _ h)

-- the lowest septet of any other, and those above it
pub more_septets : (k v : ℕ) → 128 ≤ v → septets_of (suc k) v ≡ (v % 128 + 128) ∷ septets_of k (v / 128)
unfolding septets_of
more_septets k v h = simp (le-ltb _ _ h)

-- the septet g below the septets of u, which is not zero
next_septet : (k g u : ℕ) → g < 128 → 0 < u → septets_of (suc k) (g + u * 128) ≡ (g + 128) ∷ septets_of k u
next_septet k g u h z =
    let m : (g + u * 128) % 128 ≡ g = omega arith in
    let d : (g + u * 128) / 128 ≡ u = omega arith in
    more_septets k (g + u * 128) (omega arith) ∙ rw (m, d)

module _ (s : List ℕ) (small : Bytes s) where
  encodes_last : (k p w v x next : ℕ) → p < length s → get_or s p 0 < 128 → Ended (get_or s p 0) w v (p + 1) x next
      → Encodes k s p w v x next
  encodes_last k p w v x next h l e =
      record {
        u = get_or s p 0;
        value = e.value;
        bytes = rw (one_septet k (get_or s p 0) l, e.after, add-one) (drop-cons s p 0 h);
        form = e.form;
      }

  encodes_next : (k p w v x next : ℕ) → p < length s → 128 ≤ get_or s p 0
      → Encodes k s (p + 1) (w * 128) (v + (get_or s p 0 - 128) * w) x next
      → Encodes (suc k) s p w v x next
  encodes_next k p w v x next h g i =
      let b = get_or s p 0 in
      let above : 0 < i.u = ⊎_elim (λ a. a) (λ e. absurd (omega arith)) i.form in
      let e = next_septet k (b - 128) i.u (omega (arith, small p)) above in
      let back : b - 128 + 128 ≡ b = omega arith in
      record {
        u = b - 128 + i.u * 128;
        value = i.value ∙ simp expand (omega arith);
        bytes = rw (e, back, ← i.bytes, add-one) (drop-cons s p 0 h);
        form = inl (omega arith);
      }

  encodes : (k p w v x next : ℕ) → septets_at (suc k) s p w v ≡ Ok (x, next) → Encodes k s p w v x next
  unfolding septets_at
  encodes zero p w v x next r =
      let c = septets_inv 0 s p w v x next r in
      ⊎_elim (λ e. encodes_last 0 p w v x next c.0 e.0 e.1) (λ e. absurd (refused_no_value e.1)) c.1
  encodes (suc k) p w v x next r =
      let c = septets_inv (suc k) s p w v x next r in
      ⊎_elim
      (λ e. encodes_last (suc k) p w v x next c.0 e.0 e.1)
      (λ e. encodes_next k p w v x next c.0 e.0 (encodes k (p + 1) (w * 128) (v + (get_or s p 0 - 128) * w) x next e.1))
      c.1

  -- the bytes that were read as v are those of v
  pub only_bytes : (at v next : ℕ) → number_at s at ≡ Ok (v, next) → drop at s ≡ bytes_of v ++ drop next s
  unfolding number_at bytes_of
  only_bytes at v next r =
      let i = encodes 4 at 1 0 v next r in
      let e : v ≡ i.u = omega (arith, i.value) in
      rw e i.bytes
