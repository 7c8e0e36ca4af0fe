-- The fields of each kind, in the order of document 01, "Schedule bytes"; kind 4: document 02, wish 3.
-- Field i of a member stands in slot i.
use Rattle.std.specs.Prelude.{ℕ, Bool, true, false, List, [], ◌∷◌, ◌++◌, eqb, if◌then◌else◌}
use Rattle.field_domain.specs.declared.Domain.{Domain}
use Rattle.field_domain.specs.declared.Domain.TheVariants.{Range, ZeroOr, Bar, Grade, Steel, LinkSteel, GroupDiameter, GroupBars}
use Rattle.field_domain.specs.Domain.{in_range}
use Rattle.field_table.specs.declared.MemberKind.{MemberKind}
use Rattle.field_table.specs.declared.MemberKind.TheVariants as kinds

-- ---- Slots by name. A list's groups take the eight slots after its count.

-- of a beam: the count of its tension groups, that of its compression groups, the first field after them, and a of kind 4
abbrev pub tension_count : ℕ
tension_count = 8

abbrev pub compression_count : ℕ
compression_count = 17

abbrev pub beam_links : ℕ
beam_links = 26

abbrev pub shear_span : ℕ
shear_span = 37

-- of a column: the count of its groups, and the first field after them
abbrev pub column_count : ℕ
column_count = 4

abbrev pub column_links : ℕ
column_links = 13

-- ---- The tables.

-- the groups of a list whose count stands in slot k: diameter and number of bars of each
abbrev pub groups : ℕ → List Domain
groups k =
    GroupDiameter k 0 ∷ GroupBars k 0 ∷ GroupDiameter k 1 ∷ GroupBars k 1 ∷ GroupDiameter k 2 ∷ GroupBars k 2 ∷ GroupDiameter k 3 ∷ GroupBars k 3 ∷ []

-- Kind 1, beam.
abbrev pub beam_fields : List Domain
beam_fields =
    -- b, h, bf, hf
    Range 100 1000 ∷ Range 160 2000 ∷ Range 100 3000 ∷ Range 0 1000
    -- as, a'
    ∷ Range 20 200 ∷ ZeroOr 20 200
    -- concrete, steel
    ∷ Grade ∷ Steel
    -- tension group count and groups
    ∷ Range 1 4 ∷ (groups tension_count
    -- compression group count and groups
    ++ (Range 0 4 ∷ (groups compression_count
    -- links: diameter, legs, spacing, steel
    ++ (Bar 6 12 ∷ Range 2 8 ∷ Range 50 400 ∷ LinkSteel
    -- cover, span
    ∷ Range 15 200 ∷ Range 1000 12000
    -- M, Mq, V
    ∷ Range 0 100000000 ∷ Range 1 100000000 ∷ Range 0 100000000
    -- environment, strict
    ∷ Range 1 3 ∷ Range 0 1 ∷ []))))

-- Kind 4, beam under a point load: the fields of kind 1 and then a, the distance from load to support.
abbrev pub load_fields : Bool → List Domain
load_fields false = []
load_fields true = Range 0 12000 ∷ []

-- a beam, under a point load (kind 4) or not (kind 1)
abbrev pub beam_fields_of : Bool → List Domain
beam_fields_of pointLoad = beam_fields ++ load_fields pointLoad

-- Kind 2, column.
abbrev pub column_fields : List Domain
column_fields =
    -- b, h
    Range 300 1500 ∷ Range 300 1500
    -- concrete, steel
    ∷ Grade ∷ Steel
    -- group count and groups
    ∷ Range 1 4 ∷ (groups column_count
    -- links: diameter, spacing
    ++ (Bar 6 12 ∷ Range 50 600
    -- l0, N
    ∷ Range 500 30000 ∷ Range 0 1000000000 ∷ []))

-- Kind 3, mesh.
abbrev pub mesh_fields : List Domain
mesh_fields =
    -- family, concrete, d
    Range 1 2 ∷ Grade ∷ Bar 5 16
    -- cross bar, paired, apart, seismic
    ∷ Range 0 1 ∷ Range 0 1 ∷ Range 0 1 ∷ Range 0 4
    -- lap, compression
    ∷ Range 1 2 ∷ Range 0 1
    -- anchorage given, lap given
    ∷ Range 0 100000 ∷ Range 0 100000 ∷ []

-- ---- The kinds.

-- Question 6: the kinds have the numbers 1 to 4.
unfoldable pub known : ℕ → Bool
known number = in_range 1 4 number

-- the kind of a known number
unfoldable pub kind_of : ℕ → MemberKind
kind_of number = if eqb number 1 then kinds.Beam false else if eqb number 2 then kinds.Column else if eqb number 4 then kinds.Beam true else kinds.Mesh

unfoldable pub fields_of : MemberKind → List Domain
fields_of (kinds.Beam pointLoad) = beam_fields_of pointLoad
fields_of kinds.Column = column_fields
fields_of kinds.Mesh = mesh_fields
