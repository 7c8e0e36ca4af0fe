-- The three members of document 01's printed schedule: by their fields, as a caller builds them, as a schedule's bytes and as words; beam 1 under a point load, too; all three of any concrete; a narrow beam; members whose fields are numbered, to show which stands where; a mesh of family 2.
use Rattle.std.specs.Prelude.{ℕ, ◌-◌, List, [], ◌∷◌, ◌++◌, length, replicate}
use Rattle.quantity.specs.Unit.{millimetres}
use Rattle.bars.specs.declared.Group.{Group}
use Rattle.member.specs.declared.Load.{Load}
use Rattle.member.specs.declared.Load.TheVariants.{Uniform, Point}
use Rattle.member.specs.Member.{Member, beam, column, mesh}
use Rattle.lent_member.specs.declared.Lent.{Lent}

-- one group: n bars of the diameter d
abbrev pub bars : ℕ → ℕ → List Group
bars n d = record { diameter = d; bars = n } ∷ []

-- ---- By their fields.

-- a beam without a flange, over 6 m, mark 1: its concrete, steel and load, b, h, a', its bars, its links (diameter, legs, spacing,
-- steel), M, Mq and V
abbrev plain_beam : ℕ → ℕ → Load → ℕ → ℕ → ℕ → List Group → List Group → ℕ → ℕ → ℕ → ℕ → ℕ → ℕ → ℕ → Member
plain_beam concrete steel load width height a' tension compression link legs spacing linkSteel design service shear =
    beam 1 (record {
      b = width;
      h = height;
      bf = width;
      hf = 0;
      aₛ = 40;
      a' = a';
      concrete = concrete;
      steel = steel;
      tension = tension;
      compression = compression;
      link = link;
      legs = legs;
      s = spacing;
      linkSteel = linkSteel;
      c = 30;
      l₀ = 6000;
      M = design;
      Mq = service;
      Vd = shear;
      environment = 1;
      strict = 0;
      load = load;
    })

-- beam 1 with its load, its compression steel and a', the spacing of its links and V
abbrev beam_under : Load → List Group → ℕ → ℕ → ℕ → Member
beam_under load compression a' spacing shear = plain_beam 30 1 load 250 500 a' (bars 4 20) compression 8 2 spacing 1 150000 90000 shear

abbrev pub beam_with : List Group → ℕ → ℕ → ℕ → Member
beam_with compression a' spacing shear = beam_under Uniform compression a' spacing shear

abbrev pub beam₁ : ℕ → ℕ → Member
beam₁ spacing shear = beam_with [] 0 spacing shear

-- under a point load at the distance a
abbrev pub point_loaded : ℕ → ℕ → ℕ → Member
point_loaded a spacing shear = beam_under (Point (millimetres a)) [] 0 spacing shear

-- a beam of 100 mm with heavy links: its load, its height h (h0 is 40 less) and V
abbrev pub narrow_beam : Load → ℕ → ℕ → Member
narrow_beam load height shear = plain_beam 30 1 load 100 height 0 (bars 2 20) [] 12 8 50 2 60000 1 shear

-- beam 1 of another concrete and steel, with its tension bars, its compression steel and a', M, Mq and V
abbrev pub graded_beam : ℕ → ℕ → List Group → List Group → ℕ → ℕ → ℕ → ℕ → Member
graded_beam concrete steel tension compression a' design service shear =
    plain_beam concrete steel Uniform 250 500 a' tension compression 8 2 200 1 design service shear

-- column 2 with its concrete, its length l0 and N
abbrev pub graded_column : ℕ → ℕ → ℕ → Member
graded_column concrete span force =
    column 2 (record {
      b = 400;
      h = 400;
      concrete = concrete;
      steel = 1;
      groups = bars 8 20;
      link = 8;
      s = 250;
      l₀ = span;
      N = force;
    })

abbrev pub column₂ : ℕ → ℕ → Member
column₂ span force = graded_column 30 span force

-- mesh 3 with its concrete, its anchorage and its lap
abbrev pub graded_mesh : ℕ → ℕ → ℕ → Member
graded_mesh concrete anchorage lap =
    mesh 3 (record {
      family = 1;
      concrete = concrete;
      d = 10;
      cross = 1;
      paired = 0;
      apart = 0;
      seismic = 3;
      lapping = 1;
      compression = 0;
      anchorage = anchorage;
      lap = lap;
    })

abbrev pub mesh₃ : ℕ → ℕ → Member
mesh₃ anchorage lap = graded_mesh 30 anchorage lap

-- ---- As a caller builds them: mark, kind and fields, of which there are 24; the groups are lent beside them.

abbrev pub built : ℕ → ℕ → List ℕ → Lent
built mark kind v = record { mark = mark; kind = kind; fields = record { v = v ++ replicate (24 - length v) 0 } }

-- of kind 1 or 4, with its concrete, the count of its tension groups, M, Mq, V and a
abbrev pub built_graded_beam : ℕ → ℕ → ℕ → ℕ → ℕ → ℕ → ℕ → Lent
built_graded_beam kind concrete count design service shear a =
    built 1 kind (250 ∷ 500 ∷ 250 ∷ 0 ∷ 40 ∷ 0 ∷ concrete ∷ 1 ∷ count ∷ 0 ∷ 8 ∷ 2 ∷ 200 ∷ 1 ∷ 30 ∷ 6000 ∷ design ∷ service ∷ shear ∷ 1 ∷ 0 ∷ a ∷ [])

abbrev pub built_loaded_beam : ℕ → ℕ → ℕ → ℕ → ℕ → ℕ → Lent
built_loaded_beam kind count design service shear a = built_graded_beam kind 30 count design service shear a

abbrev pub built_beam_with : ℕ → ℕ → ℕ → ℕ → ℕ → Lent
built_beam_with kind count design service a = built_loaded_beam kind count design service 120000 a

abbrev pub built_beam_of : ℕ → ℕ → ℕ → Lent
built_beam_of kind count a = built_beam_with kind count 150000 90000 a

abbrev pub built_beam : ℕ → Lent
built_beam count = built_beam_of 1 count 0

abbrev pub built_column : Lent
built_column = built 2 2 (400 ∷ 400 ∷ 30 ∷ 1 ∷ 1 ∷ 8 ∷ 250 ∷ 4000 ∷ 2500000 ∷ [])

abbrev pub built_mesh : ℕ → ℕ → Lent
built_mesh anchorage lap = built 3 3 (1 ∷ 30 ∷ 10 ∷ 1 ∷ 0 ∷ 0 ∷ 3 ∷ 1 ∷ 0 ∷ anchorage ∷ lap ∷ [])

-- mesh 4, of family 2 without cross bar, d = 10, with its concrete, lapping, anchorage and lap
abbrev pub built_mesh₄ : ℕ → ℕ → ℕ → ℕ → Lent
built_mesh₄ concrete lapping anchorage lap = built 4 3 (2 ∷ concrete ∷ 10 ∷ 0 ∷ 0 ∷ 0 ∷ 0 ∷ lapping ∷ 0 ∷ anchorage ∷ lap ∷ [])

-- ---- With another number in each place: which field stands where. The numbers mean nothing.

-- of kind 1 or 4
abbrev pub placed_beam : ℕ → Lent
placed_beam kind =
    built 9 kind (
    100 ∷ 101 ∷ 102 ∷ 103 ∷ 104 ∷ 105 ∷ 106 ∷ 107 ∷ 1 ∷ 2
    ∷ 110 ∷ 111 ∷ 112 ∷ 113 ∷ 114 ∷ 115 ∷ 116 ∷ 117 ∷ 118 ∷ 119 ∷ 120 ∷ 121 ∷ []
    )

abbrev pub beam_placed : Load → List Group → List Group → Member
beam_placed load tension compression =
    beam 9 (record {
      b = 100;
      h = 101;
      bf = 102;
      hf = 103;
      aₛ = 104;
      a' = 105;
      concrete = 106;
      steel = 107;
      tension = tension;
      compression = compression;
      link = 110;
      legs = 111;
      s = 112;
      linkSteel = 113;
      c = 114;
      l₀ = 115;
      M = 116;
      Mq = 117;
      Vd = 118;
      environment = 119;
      strict = 120;
      load = load;
    })

abbrev pub placed_column : Lent
placed_column = built 9 2 (100 ∷ 101 ∷ 102 ∷ 103 ∷ 2 ∷ 105 ∷ 106 ∷ 107 ∷ 108 ∷ [])

abbrev pub column_placed : List Group → Member
column_placed groups =
    column 9 (record {
      b = 100;
      h = 101;
      concrete = 102;
      steel = 103;
      groups = groups;
      link = 105;
      s = 106;
      l₀ = 107;
      N = 108;
    })

abbrev pub placed_mesh : Lent
placed_mesh = built 9 3 (100 ∷ 101 ∷ 102 ∷ 103 ∷ 104 ∷ 105 ∷ 106 ∷ 107 ∷ 108 ∷ 109 ∷ 110 ∷ [])

abbrev pub mesh_placed : Member
mesh_placed =
    mesh 9 (record {
      family = 100;
      concrete = 101;
      d = 102;
      cross = 103;
      paired = 104;
      apart = 105;
      seismic = 106;
      lapping = 107;
      compression = 108;
      anchorage = 109;
      lap = 110;
    })

-- ---- As a schedule's bytes.

-- numbers of three bytes
abbrev pub of90000 : List ℕ
of90000 = 144 ∷ 191 ∷ 5 ∷ []

abbrev pub of90001 : List ℕ
of90001 = 145 ∷ 191 ∷ 5 ∷ []

abbrev pub of150000 : List ℕ
of150000 = 240 ∷ 147 ∷ 9 ∷ []

abbrev pub of120000 : List ℕ
of120000 = 192 ∷ 169 ∷ 7 ∷ []

abbrev pub of411126 : List ℕ
of411126 = 246 ∷ 139 ∷ 25 ∷ []

-- beam 1's tension groups: their count, then diameter and bars
abbrev pub four_bars : List ℕ
four_bars = 1 ∷ 20 ∷ 4 ∷ []

-- up to its concrete, with its mark and its kind
abbrev pub beam_start : ℕ → ℕ → ℕ → List ℕ → List ℕ
beam_start mark kind concrete rest = mark ∷ kind ∷ 250 ∷ 1 ∷ 244 ∷ 3 ∷ 250 ∷ 1 ∷ 0 ∷ 40 ∷ 0 ∷ concrete ∷ rest

-- with its mark, kind and concrete, its tension groups, M and Mq, V, and what follows the fields of kind 1
abbrev pub graded_beam_bytes : ℕ → ℕ → ℕ → List ℕ → List ℕ → List ℕ → List ℕ → List ℕ
graded_beam_bytes mark kind concrete groups moments shear last =
    beam_start mark kind concrete (1 ∷ (groups
    ++ (0 ∷ 8 ∷ 2 ∷ 200 ∷ 1 ∷ 1 ∷ 30 ∷ 240 ∷ 46 ∷ (moments
    ++ (shear ++ (1 ∷ 0 ∷ last))))))

abbrev pub loaded_beam_bytes : ℕ → ℕ → List ℕ → List ℕ → List ℕ → List ℕ → List ℕ
loaded_beam_bytes mark kind groups moments shear last = graded_beam_bytes mark kind 30 groups moments shear last

abbrev pub beam_bytes_with : ℕ → ℕ → List ℕ → List ℕ → List ℕ → List ℕ
beam_bytes_with mark kind groups moments last = loaded_beam_bytes mark kind groups moments of120000 last

abbrev pub beam_bytes : ℕ → List ℕ → List ℕ
beam_bytes kind last = beam_bytes_with 1 kind four_bars (of150000 ++ of90000) last

-- beam 1 alone, of kind 1, with its tension groups, M and Mq
abbrev pub moment_bytes : List ℕ → List ℕ → List ℕ → List ℕ
moment_bytes groups design service = 1 ∷ beam_bytes_with 1 1 groups (design ++ service) []

-- beam 1 alone, of kind 4
abbrev pub point_bytes : List ℕ → List ℕ
point_bytes a = 1 ∷ beam_bytes 4 a

-- with its steel's code
abbrev pub column_bytes : ℕ → List ℕ
column_bytes steel = 2 ∷ 2 ∷ 144 ∷ 3 ∷ 144 ∷ 3 ∷ 30 ∷ steel ∷ 1 ∷ 20 ∷ 8 ∷ 8 ∷ 250 ∷ 1 ∷ 160 ∷ 31 ∷ 160 ∷ 203 ∷ 152 ∷ 1 ∷ []

-- with its mark and its concrete
abbrev pub graded_mesh_bytes : ℕ → ℕ → List ℕ
graded_mesh_bytes mark concrete = mark ∷ 3 ∷ 1 ∷ concrete ∷ 10 ∷ 1 ∷ 0 ∷ 0 ∷ 3 ∷ 1 ∷ 0 ∷ 142 ∷ 2 ∷ 222 ∷ 2 ∷ []

abbrev pub mesh_bytes : ℕ → List ℕ
mesh_bytes mark = graded_mesh_bytes mark 30

-- the printed schedule with the steel of its column, of code 1
abbrev pub printed_bytes : ℕ → List ℕ
printed_bytes steel = 3 ∷ (beam_bytes 1 [] ++ (column_bytes steel ++ mesh_bytes 3))

-- ---- As words that a caller lends: mark, kind, 40 slots. `past` stands in each slot that has no effect.

-- the groups past the first of a list
abbrev three_past : ℕ → List ℕ
three_past past = past ∷ past ∷ past ∷ past ∷ past ∷ past ∷ []

-- with its mark, of kind 1 or 4, with M, Mq and the slot of a
abbrev pub beam_words_with : ℕ → ℕ → ℕ → ℕ → ℕ → ℕ → List ℕ
beam_words_with mark kind design service a past =
    mark ∷ kind ∷ 250 ∷ 500 ∷ 250 ∷ 0 ∷ 40 ∷ 0 ∷ 30 ∷ 1
    ∷ 1 ∷ 20 ∷ 4 ∷ (three_past past
    ++ (0 ∷ past ∷ past ∷ (three_past past
    ++ (8 ∷ 2 ∷ 200 ∷ 1 ∷ 30 ∷ 6000 ∷ design ∷ service ∷ 120000 ∷ 1 ∷ 0 ∷ a ∷ past ∷ past ∷ []))))

abbrev pub beam_words : ℕ → ℕ → ℕ → List ℕ
beam_words kind a past = beam_words_with 1 kind 150000 90000 a past

abbrev pub column_words : ℕ → List ℕ
column_words past = 2 ∷ 2 ∷ 400 ∷ 400 ∷ 30 ∷ 1 ∷ 1 ∷ 20 ∷ 8 ∷ (three_past past ++ (8 ∷ 250 ∷ 4000 ∷ 2500000 ∷ replicate 23 past))

-- with its mark and its concrete
abbrev pub graded_mesh_words : ℕ → ℕ → ℕ → List ℕ
graded_mesh_words mark concrete past = mark ∷ 3 ∷ 1 ∷ concrete ∷ 10 ∷ 1 ∷ 0 ∷ 0 ∷ 3 ∷ 1 ∷ 0 ∷ 270 ∷ 350 ∷ replicate 29 past

abbrev pub mesh_words : ℕ → ℕ → List ℕ
mesh_words mark past = graded_mesh_words mark 30 past

-- the printed schedule
abbrev pub printed_words : ℕ → List ℕ
printed_words past = beam_words 1 past past ++ (column_words past ++ mesh_words 3 past)
