-- The bytes of a schedule: the number of members, then of each its mark, its kind and its fields (document 01, "Schedule bytes"; kind 4: document 02, wish 3).
use Rattle.std.specs.Prelude.{ℕ, List, [], ◌∷◌, ◌++◌, length}
use Rattle.varint.specs.Encoding.{bytes_of}
use Rattle.bars.specs.declared.Group.{Group}
use Rattle.field_layout.specs.Layout.{group_numbers}
use Rattle.member.specs.declared.Load.{Load}
use Rattle.member.specs.declared.Load.TheVariants.{Uniform, Point}
use Rattle.member.specs.Member.{Beam, Column, Mesh, Member, beam, column, mesh}

-- numbers one after the other
unfoldable pub bytes_of_all : List ℕ → List ℕ
bytes_of_all [] = []
bytes_of_all (n ∷ ns) = bytes_of n ++ bytes_of_all ns

-- a list of groups: how many, then diameter and number of bars of each
abbrev pub list_numbers : List Group → List ℕ
list_numbers gs = length gs ∷ group_numbers gs

-- ---- The fields of each kind.

-- kind 4 has a, the distance of its point load from the support, after the fields of kind 1
abbrev pub load_numbers : Load → List ℕ
load_numbers Uniform = []
load_numbers (Point a) = a.0 ∷ []

unfoldable pub beam_numbers : Beam → List ℕ
beam_numbers x =
    -- section, distances of the steel from its faces, materials
    x.b ∷ x.h ∷ x.bf ∷ x.hf ∷ x.aₛ ∷ x.a' ∷ x.concrete ∷ x.steel
    -- tension and compression groups
    ∷ (list_numbers x.tension
    ++ (list_numbers x.compression
    -- links: diameter, legs, spacing, steel
    ++ (x.link ∷ x.legs ∷ x.s ∷ x.linkSteel
    -- cover, span
    ∷ x.c ∷ x.l₀
    -- M, Mq, V
    ∷ x.M ∷ x.Mq ∷ x.Vd
    -- environment, strict, a
    ∷ x.environment ∷ x.strict ∷ load_numbers x.load)))

unfoldable pub column_numbers : Column → List ℕ
column_numbers x =
    -- section, materials, groups
    x.b ∷ x.h ∷ x.concrete ∷ x.steel ∷ (list_numbers x.groups
    -- links: diameter, spacing; l0, N
    ++ (x.link ∷ x.s ∷ x.l₀ ∷ x.N ∷ []))

unfoldable pub mesh_numbers : Mesh → List ℕ
mesh_numbers x =
    -- family, concrete, d
    x.family ∷ x.concrete ∷ x.d
    -- cross bar, paired, apart, seismic
    ∷ x.cross ∷ x.paired ∷ x.apart ∷ x.seismic
    -- lap, compression
    ∷ x.lapping ∷ x.compression
    -- anchorage given, lap given
    ∷ x.anchorage ∷ x.lap ∷ []

-- ---- Members and the whole.

-- a beam's kind: 4 under a point load
abbrev pub beam_kind : Load → ℕ
beam_kind Uniform = 1
beam_kind (Point a) = 4

-- mark, kind, fields
unfoldable pub member_numbers : Member → List ℕ
member_numbers (beam mark x) = mark ∷ beam_kind x.load ∷ beam_numbers x
member_numbers (column mark x) = mark ∷ 2 ∷ column_numbers x
member_numbers (mesh mark x) = mark ∷ 3 ∷ mesh_numbers x

unfoldable pub members_bytes : List Member → List ℕ
members_bytes [] = []
members_bytes (m ∷ ms) = bytes_of_all (member_numbers m) ++ members_bytes ms

unfoldable pub schedule_bytes : List Member → List ℕ
schedule_bytes ms = bytes_of (length ms) ++ members_bytes ms
