-- What holds of a member that passed question 7 and those of a whole member (8 to 10, 14).
-- The ranges are those of document 01, "Schedule bytes"; the relations those of the questions (kind 4 and 14: document 02, requests 3 and 5).
use Rattle.std.specs.Prelude.{ℕ, ◌+◌, ◌*◌, ◌≤◌, ◌<◌, ◌≡◌, true, List, length}
use Rattle.quantity.specs.All.{All}
use Rattle.table.specs.Table.{listed}
use Rattle.material.specs.Concrete.{concretes}
use Rattle.material.specs.Steel.{steels, link_steels}
use Rattle.bars.specs.Accepted.{BarFrom, AcceptedGroups}
use Rattle.member.specs.declared.Load.{Load}
use Rattle.member.specs.declared.Load.TheVariants.{Uniform, Point}
use Rattle.member.specs.Member.{Beam, Column, Mesh, Member, beam, column, mesh, h₀}
use Rattle.bars.specs.Sums.{bar_count, area}

-- Of the ranges of question 7 those that 8 to 10 are worked with.
pub record BeamInRange (x : Beam) : Type 0 where
  pub b_most : x.b ≤ 1000
  pub h_most : x.h ≤ 2000
  pub hf_most : x.hf ≤ 1000
  pub aₛ_most : x.aₛ ≤ 200
  pub a'-most : x.a' ≤ 200
  pub tension : AcceptedGroups x.tension
  pub tension_most : length x.tension ≤ 4
  pub compression : AcceptedGroups x.compression

-- a point load stands at most this far from the support
abbrev pub LoadWithin : ℕ → Load → Type 0
LoadWithin most Uniform = Unit {0}
LoadWithin most (Point a) = a.0 ≤ most

pub record AcceptedBeam (x : Beam) : Type 0 where
  pub b_least : 100 ≤ x.b
  pub b_most : x.b ≤ 1000
  pub h_least : 160 ≤ x.h
  pub h_most : x.h ≤ 2000
  pub bf_most : x.bf ≤ 3000
  pub hf_most : x.hf ≤ 1000
  pub aₛ_least : 20 ≤ x.aₛ
  pub aₛ_most : x.aₛ ≤ 200
  pub a'-most : x.a' ≤ 200
  pub concrete : listed x.concrete concretes ≡ true
  pub steel : listed x.steel steels ≡ true
  pub tension : AcceptedGroups x.tension
  pub tension_some : 1 ≤ length x.tension
  pub compression : AcceptedGroups x.compression
  pub link : BarFrom 6 12 x.link
  pub legs_least : 2 ≤ x.legs
  pub legs_most : x.legs ≤ 8
  pub s_least : 50 ≤ x.s
  pub s_most : x.s ≤ 400
  pub linkSteel : listed x.linkSteel link_steels ≡ true
  pub c_most : x.c ≤ 200
  pub l₀_least : 1000 ≤ x.l₀
  pub l₀_most : x.l₀ ≤ 12000
  pub M_most : x.M ≤ 100000000
  pub Mq_least : 1 ≤ x.Mq
  pub Mq_most : x.Mq ≤ 100000000
  pub Vd_most : x.Vd ≤ 100000000
  pub environment_least : 1 ≤ x.environment
  pub environment_most : x.environment ≤ 3
  pub strict_most : x.strict ≤ 1
  -- 8
  pub flange : x.b ≤ x.bf
  pub web : x.bf ≡ x.b → x.hf ≡ 0
  pub slab : 2 * x.hf ≤ x.h
  pub no_compression : length x.compression ≡ 0 → x.a' ≡ 0
  pub faces : 2 * (x.aₛ + x.a') ≤ x.h
  pub cover : x.c < x.aₛ
  pub slender : x.l₀ ≤ 30 * h₀ x
  pub load_within : LoadWithin x.l₀ x.load
  -- 9
  pub tension_bars : bar_count x.tension ≤ 40
  pub compression_bars : bar_count x.compression ≤ 40
  -- 10
  pub ratio : 5 * area x.tension ≤ 2 * x.b * h₀ x
  -- 14
  pub service_moment : x.Mq ≤ x.M

pub record AcceptedColumn (x : Column) : Type 0 where
  pub b_least : 300 ≤ x.b
  pub b_most : x.b ≤ 1500
  pub h_most : x.h ≤ 1500
  pub concrete : listed x.concrete concretes ≡ true
  pub steel : listed x.steel steels ≡ true
  pub groups : AcceptedGroups x.groups
  pub groups_some : 1 ≤ length x.groups
  pub link : BarFrom 6 12 x.link
  pub s_most : x.s ≤ 600
  pub l₀_most : x.l₀ ≤ 30000
  pub N_most : x.N ≤ 1000000000
  -- 8
  pub order : x.b ≤ x.h
  -- 9
  pub bars : bar_count x.groups ≤ 40

pub record AcceptedMesh (x : Mesh) : Type 0 where
  pub family_least : 1 ≤ x.family
  pub family_most : x.family ≤ 2
  pub concrete : listed x.concrete concretes ≡ true
  pub d : BarFrom 5 16 x.d
  pub cross : x.cross ≤ 1
  pub paired : x.paired ≤ 1
  pub apart : x.apart ≤ 1
  pub seismic : x.seismic ≤ 4
  pub lapping_least : 1 ≤ x.lapping
  pub lapping_most : x.lapping ≤ 2
  pub compression : x.compression ≤ 1
  pub anchorage : x.anchorage ≤ 100000
  pub lap : x.lap ≤ 100000
  -- 8
  pub apart_alone : 1 ≤ x.cross → x.apart ≡ 0

-- A member of any kind: question 5's range of the mark, and the fields of its kind.
abbrev pub AcceptedMark : ℕ → Type 0
AcceptedMark m = (1 ≤ m) × (m ≤ 999999)

abbrev pub AcceptedMember : Member → Type 0
AcceptedMember (beam m x) = AcceptedMark m × AcceptedBeam x
AcceptedMember (column m x) = AcceptedMark m × AcceptedColumn x
AcceptedMember (mesh m x) = AcceptedMark m × AcceptedMesh x

abbrev pub AcceptedMembers : List Member → Type 0
AcceptedMembers ms = All AcceptedMember ms
