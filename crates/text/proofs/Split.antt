-- Reading back: the pieces of a text that was joined from pieces without the separator, and the words of a text of lines.
use Prim.Native.Nat.{ℕ, zero, suc, ◌≤◌}
use mathlib.Core.Path.{◌≡◌, refl, ap, ◌∙◌}
use mathlib.Core.List.{List, [], ◌∷◌, ◌++◌, map}
use native.Mathlib.Omega.{arith}
use lib.ListN.{get_or, get_or-map}
use borrow.Author.Tests.{eq-eqb, ne_eqb}
use Rattle.quantity.specs.All.{All}
use Rattle.quantity.proofs.All.{all_append, all_at, all_weaken, all_map}
use Rattle.text.specs.Text.{split_more, split, joined_by, ended_by, text_of, line_of, word_of}
use Rattle.text.proofs.Bytes.{Not, Graphic, graphic_free}

-- ---- For any separator

pub split_one : (c : ℕ) (s : List ℕ) → All (Not c) s → split c s ≡ s ∷ []
unfolding split split_more
split_one c [] a = refl
split_one c (b ∷ s) a = rw (ne_eqb b c a.0, split_one c s a.1)

pub split_first : (c : ℕ) (s t : List ℕ) → All (Not c) s → split c (s ++ c ∷ t) ≡ s ∷ split c t
unfolding split split_more
split_first c [] t a = rw (eq-eqb c c refl)
split_first c (b ∷ s) t a = rw (ne_eqb b c a.0, split_first c s t a.1)

pub split_joined : (c : ℕ) (w : List ℕ) (ws : List (List ℕ)) → All (All (Not c)) (w ∷ ws) → split c (joined_by c (w ∷ ws)) ≡ w ∷ ws
unfolding joined_by
split_joined c w [] a = split_one c w a.0
split_joined c w (v ∷ ws) a = split_first c w _ a.0 ∙ ap (λ (l : List (List ℕ)). w ∷ l) (split_joined c v ws a.1)

pub split_ended : (c : ℕ) (ws : List (List ℕ)) → All (All (Not c)) ws → split c (ended_by c ws) ≡ ws ++ ([] ∷ [])
unfolding ended_by split
split_ended c [] a = refl
split_ended c (w ∷ ws) a = split_first c w _ a.0 ∙ ap (λ (l : List (List ℕ)). w ∷ l) (split_ended c ws a.1)

-- the k-th piece, empty past the last
get_d_last : (ws : List (List ℕ)) (k : ℕ) → get_or (ws ++ ([] ∷ [])) k [] ≡ get_or ws k []
get_d_last [] zero = refl
get_d_last [] (suc k) = refl
get_d_last (w ∷ ws) zero = refl
get_d_last (w ∷ ws) (suc k) = get_d_last ws k

pub joined_piece : (c k : ℕ) (ws : List (List ℕ)) → All (All (Not c)) ws → get_or (split c (joined_by c ws)) k [] ≡ get_or ws k []
unfolding joined_by split
joined_piece c k [] a = get_d_last [] k
joined_piece c k (w ∷ ws) a = rw (split_joined c w ws a)

pub ended_piece : (c k : ℕ) (ws : List (List ℕ)) → All (All (Not c)) ws → get_or (split c (ended_by c ws)) k [] ≡ get_or ws k []
ended_piece c k ws a = rw (split_ended c ws a) (get_d_last ws k)

-- joined by c, pieces without e have none
pub joined_free : (c e : ℕ) → Not e c → (ws : List (List ℕ)) → All (All (Not e)) ws → All (Not e) (joined_by c ws)
unfolding joined_by
joined_free c e n [] a = tt
joined_free c e n (w ∷ []) a = a.0
joined_free c e n (w ∷ v ∷ ws) a = all_append (Not e) w _ a.0 (n, joined_free c e n (v ∷ ws) a.1)

-- ---- Lines of words

words_free : (c : ℕ) → c ≤ 32 → (ws : List (List ℕ)) → All (All Graphic) ws → All (All (Not c)) ws
words_free c h ws a = all_weaken (All Graphic) (All (Not c)) (λ s p. graphic_free c s h p) ws a

lines_free : (ls : List (List (List ℕ))) → All (All (All Graphic)) ls → All (All (Not 10)) (map (joined_by 32) ls)
lines_free ls a =
    all_map (All (All Graphic)) (All (Not 10)) (joined_by 32) (λ ws p. joined_free 32 10 (λ e. omega arith) ws (words_free 10 (omega arith) ws p)) ls a

-- the k-th word of a line
pub read_word : (k : ℕ) (ws : List (List ℕ)) → All (All Graphic) ws → word_of k (joined_by 32 ws) ≡ get_or ws k []
unfolding word_of
read_word k ws a = joined_piece 32 k ws (words_free 32 (omega arith) ws a)

-- the i-th line of a text
pub read_line : (i : ℕ) (ls : List (List (List ℕ))) → All (All (All Graphic)) ls → line_of i (text_of ls) ≡ joined_by 32 (get_or ls i [])
unfolding line_of text_of joined_by
read_line i ls a = ended_piece 10 i _ (lines_free ls a) ∙ get_or-map (joined_by 32) ls i []

-- the k-th word of its i-th line
pub read_back : (i k : ℕ) (ls : List (List (List ℕ))) → All (All (All Graphic)) ls → word_of k (line_of i (text_of ls)) ≡ get_or (get_or ls i []) k []
read_back i k ls a = ap (word_of k) (read_line i ls a) ∙ read_word k _ (all_at (All (All Graphic)) ls a i [] (λ h. tt))
