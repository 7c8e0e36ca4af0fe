-- Members as document 01 has them; kind 4 as document 02, wish 3.
-- "A member's fields are those of its kind, with the groups that its counts name": two are equal exactly where mark, kind and these are.
use Rattle.std.specs.Prelude.{ℕ, ◌-◌, List}
use Rattle.bars.specs.declared.Group.{Group}
use Rattle.bars.specs.Listed.{groups_in}
use Rattle.member.specs.declared.Load.{Load}
use Rattle.member.specs.declared.Beam as code-beam
use Rattle.member.specs.declared.Column as code-column
use Rattle.member.specs.declared.Mesh as code-mesh

-- Kinds 1 and 4. Lengths in mm; M and Mq in N·m; V in N.
pub record Beam : Type 0 where
  pub b : ℕ
  pub h : ℕ
  pub bf : ℕ
  pub hf : ℕ
  -- as and a': distances of the tension and the compression steel from their faces
  pub aₛ : ℕ
  pub a' : ℕ
  pub concrete : ℕ
  pub steel : ℕ
  pub tension : List Group
  pub compression : List Group
  -- links: diameter, legs, spacing, steel
  pub link : ℕ
  pub legs : ℕ
  pub s : ℕ
  pub linkSteel : ℕ
  pub c : ℕ
  pub l₀ : ℕ
  pub M : ℕ
  pub Mq : ℕ
  -- V
  pub Vd : ℕ
  pub environment : ℕ
  pub strict : ℕ
  -- uniform in kind 1; in kind 4 a point load at the distance a from the support
  pub load : Load

-- Kind 2. N in N.
pub record Column : Type 0 where
  pub b : ℕ
  pub h : ℕ
  pub concrete : ℕ
  pub steel : ℕ
  pub groups : List Group
  pub link : ℕ
  pub s : ℕ
  pub l₀ : ℕ
  pub N : ℕ

-- Kind 3.
pub record Mesh : Type 0 where
  pub family : ℕ
  pub concrete : ℕ
  pub d : ℕ
  pub cross : ℕ
  pub paired : ℕ
  pub apart : ℕ
  pub seismic : ℕ
  pub lapping : ℕ
  pub compression : ℕ
  pub anchorage : ℕ
  pub lap : ℕ

-- A member: its mark, its kind and the fields of that kind.
pub data Member : Type 0 where
  beam : ℕ → Beam → Member
  column : ℕ → Column → Member
  mesh : ℕ → Mesh → Member

-- effective depth
abbrev pub h₀ : Beam → ℕ
h₀ x = x.h - x.aₛ

-- What a structure of the code says: nothing past a count is read.
abbrev pub beam_of : code-beam.Beam → Beam
beam_of x =
    record {
      b = x.b.0;
      h = x.h.0;
      bf = x.bf.0;
      hf = x.hf.0;
      aₛ = x.at.0;
      a' = x.ac.0;
      concrete = x.concrete;
      steel = x.steel;
      tension = groups_in x.tension;
      compression = groups_in x.compression;
      link = x.link;
      legs = x.legs;
      s = x.s.0;
      linkSteel = x.linkSteel;
      c = x.c.0;
      l₀ = x.l0.0;
      M = x.M;
      Mq = x.Mq;
      Vd = x.v.0;
      environment = x.environment;
      strict = x.strict;
      load = x.load;
    }

abbrev pub column_of : code-column.Column → Column
column_of x =
    record {
      b = x.b.0;
      h = x.h.0;
      concrete = x.concrete;
      steel = x.steel;
      groups = groups_in x.groups;
      link = x.link;
      s = x.s.0;
      l₀ = x.l0.0;
      N = x.N.0;
    }

abbrev pub mesh_of : code-mesh.Mesh → Mesh
mesh_of x =
    record {
      family = x.family;
      concrete = x.concrete;
      d = x.d.0;
      cross = x.cross;
      paired = x.paired;
      apart = x.apart;
      seismic = x.seismic;
      lapping = x.lapping;
      compression = x.compression;
      anchorage = x.anchorage.0;
      lap = x.lap.0;
    }
