-- Anchorage of ribbed welded mesh as a multiple of the diameter: 000, table 5.2.5, but for one number.
use Rattle.std.specs.Prelude.{ℕ, ◌+◌, ◌-◌, ◌*◌, ◌/◌, min, List, [], ◌∷◌, get_or}

-- at C20, C25, C30, C35, C40 and above
abbrev pub multiples : List (List ℕ)
multiples =
    -- family 1 (CRB550, CRB600H, HRB400, HRBF400): without cross bar, with
    (45 ∷ 40 ∷ 35 ∷ 32 ∷ 30 ∷ [])
    ∷ (32 ∷ 28 ∷ 25 ∷ 22 ∷ 21 ∷ [])
    -- family 2 (HRB500, HRBF500): without cross bar, with. 48 at C25 is the works' own (document 02, wish 1); 000 has 43.
    ∷ (55 ∷ 48 ∷ 43 ∷ 39 ∷ 36 ∷ [])
    ∷ (39 ∷ 34 ∷ 30 ∷ 27 ∷ 25 ∷ [])
    ∷ []

-- the multiple for a family (1, 2), with (1) or without (0) cross bar, at a grade of concrete
unfoldable pub multiple : ℕ → ℕ → ℕ → ℕ
multiple family cross grade = get_or (get_or multiples (2 * (family - 1) + cross) []) ((min grade 40 - 20) / 5) 0
