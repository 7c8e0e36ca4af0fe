-- The fields of a member by name: slot i holds field i of its kind's table (crate `field_table`).
use Rattle.std.specs.Prelude.{ℕ, zero, suc, ◌+◌, Bool, true, false, List, [], ◌∷◌, get_or, take}
use Rattle.quantity.specs.Unit.{millimetres}
use Rattle.bars.specs.declared.Group.{Group}
use Rattle.field_table.specs.declared.MemberKind.{MemberKind}
use Rattle.field_table.specs.declared.MemberKind.TheVariants as kinds
use Rattle.field_table.specs.Fields.{tension_count, compression_count, beam_links, column_count, column_links}
use Rattle.member.specs.declared.Load.{Load}
use Rattle.member.specs.declared.Load.TheVariants.{Uniform, Point}
use Rattle.member.specs.Member.{Beam, Column, Mesh, Member, beam, column, mesh}

abbrev pub slot : List ℕ → ℕ → ℕ
slot v i = get_or v i 0

-- n numbers from place i on; 0 past the end
abbrev pub part : List ℕ → ℕ → ℕ → List ℕ
part v i zero = []
part v i (suc n) = slot v i ∷ part v (suc i) n

-- the group whose diameter stands in slot i
abbrev pub group : List ℕ → ℕ → Group
group v i = record { diameter = slot v i; bars = slot v (i + 1) }

-- groups of bars as numbers: diameter and number of bars of each
abbrev pub group_numbers : List Group → List ℕ
group_numbers [] = []
group_numbers (g ∷ gs) = g.diameter ∷ g.bars ∷ group_numbers gs

-- the groups of the list whose count stands in slot k: nothing past the count is read
abbrev pub groups_at : List ℕ → ℕ → List Group
groups_at v k = take (slot v k) (group v (k + 1) ∷ group v (k + 3) ∷ group v (k + 5) ∷ group v (k + 7) ∷ [])

-- a beam's load, given what stands in the slot of a: without a point load it is not read
abbrev pub load_at : Bool → ℕ → Load
load_at false a = Uniform
load_at true a = Point (millimetres a)

-- A beam of these groups, whose other fields stand in slots: those before the groups from slot 0 on, those after them from slot i on.
abbrev pub beam_from : Bool → List ℕ → ℕ → List Group → List Group → Beam
beam_from pointLoad v i tension compression =
    record {
      b = slot v 0;
      h = slot v 1;
      bf = slot v 2;
      hf = slot v 3;
      aₛ = slot v 4;
      a' = slot v 5;
      concrete = slot v 6;
      steel = slot v 7;
      tension = tension;
      compression = compression;
      link = slot v i;
      legs = slot v (i + 1);
      s = slot v (i + 2);
      linkSteel = slot v (i + 3);
      c = slot v (i + 4);
      l₀ = slot v (i + 5);
      M = slot v (i + 6);
      Mq = slot v (i + 7);
      Vd = slot v (i + 8);
      environment = slot v (i + 9);
      strict = slot v (i + 10);
      load = load_at pointLoad (slot v (i + 11));
    }

-- The same of a column.
abbrev pub column_from : List ℕ → ℕ → List Group → Column
column_from v i groups =
    record {
      b = slot v 0;
      h = slot v 1;
      concrete = slot v 2;
      steel = slot v 3;
      groups = groups;
      link = slot v i;
      s = slot v (i + 1);
      l₀ = slot v (i + 2);
      N = slot v (i + 3);
    }

unfoldable pub beam_at : Bool → List ℕ → Beam
beam_at pointLoad v = beam_from pointLoad v beam_links (groups_at v tension_count) (groups_at v compression_count)

unfoldable pub column_at : List ℕ → Column
column_at v = column_from v column_links (groups_at v column_count)

unfoldable pub mesh_at : List ℕ → Mesh
mesh_at v =
    record {
      family = slot v 0;
      concrete = slot v 1;
      d = slot v 2;
      cross = slot v 3;
      paired = slot v 4;
      apart = slot v 5;
      seismic = slot v 6;
      lapping = slot v 7;
      compression = slot v 8;
      anchorage = slot v 9;
      lap = slot v 10;
    }

-- The member with this mark, this kind and these slots.
unfoldable pub member_at : ℕ → MemberKind → List ℕ → Member
member_at mark (kinds.Beam pointLoad) v = beam mark (beam_at pointLoad v)
member_at mark kinds.Column v = column mark (column_at v)
member_at mark kinds.Mesh v = mesh mark (mesh_at v)
