-- What a field may hold (document 01, "Schedule bytes"), and question 7 of one field.
use Rattle.std.specs.Prelude.{ℕ, Bool, true, false, ◌&&◌, ◌||◌, List, leb, ltb, eqb, get_or, if◌then◌else◌}
use Rattle.table.specs.Table.{listed}
use Rattle.code_tables.specs.Bars.{area_of}
use Rattle.material.specs.Concrete.{concretes}
use Rattle.material.specs.Steel.{steels, link_steels}
use Rattle.field_domain.specs.declared.Domain.{Domain}
use Rattle.field_domain.specs.declared.Domain.TheVariants.{Range, ZeroOr, Bar, Grade, Steel, LinkSteel, GroupDiameter, GroupBars}

abbrev pub in_range : ℕ → ℕ → ℕ → Bool
in_range lo hi x = leb lo x && leb x hi

-- a bar of the table (000, table 3.2.3) from lo to hi
abbrev pub bar : ℕ → ℕ → ℕ → Bool
bar lo hi x = in_range lo hi x && ltb 0 (area_of x)

-- a group's diameter, and its number of bars
abbrev pub group_diameter : ℕ → Bool
group_diameter d = bar 6 50 d

abbrev pub group_bars : ℕ → Bool
group_bars n = in_range 1 20 n

unfoldable pub holds : Domain → ℕ → Bool
holds (Range lo hi) x = in_range lo hi x
holds (ZeroOr lo hi) x = eqb x 0 || in_range lo hi x
holds (Bar lo hi) x = bar lo hi x
holds Grade x = listed x concretes
holds Steel x = listed x steels
holds LinkSteel x = listed x link_steels
holds (GroupDiameter count place) x = group_diameter x
holds (GroupBars count place) x = group_bars x

-- When a field is there: always, or, in a group, where the count in this slot is above this place in the list, from 0.
pub data Presence : Type 0 where
  always : Presence
  counted : ℕ → ℕ → Presence

abbrev pub presence : Domain → Presence
presence (GroupDiameter count place) = counted count place
presence (GroupBars count place) = counted count place
presence (Range lo hi) = always
presence (ZeroOr lo hi) = always
presence (Bar lo hi) = always
presence Grade = always
presence Steel = always
presence LinkSteel = always

abbrev pub is_always : Presence → Bool
is_always always = true
is_always (counted count place) = false

abbrev pub present : Presence → List ℕ → Bool
present always v = true
present (counted count place) v = ltb place (get_or v count 0)

-- Whether a field is there in a member whose slots hold v.
unfoldable pub is_present : Domain → List ℕ → Bool
is_present d v = present (presence d) v

-- Question 7 of the field in slot i.
unfoldable pub field_holds : Domain → ℕ → List ℕ → Bool
field_holds d i v = if is_present d v then holds d (get_or v i 0) else true
