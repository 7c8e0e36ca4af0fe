-- Demand 3 for a member's line, read back from its bytes.
use Rattle.std.specs.Prelude.{ℕ, ◌≡◌, List}
use Rattle.outcome.specs.declared.Check.{Check}
use Rattle.outcome.specs.declared.Outcome.{Outcome}
use Rattle.outcome.specs.Outcome.{outcome}
use Rattle.member.specs.Member.{Member, beam, column, mesh}
use Rattle.section.specs.Section.{section_of}
use Rattle.mesh.specs.Exact.{SafeMesh}
use Rattle.column.specs.Exact.{SafeColumn}
use Rattle.beam.specs.Exact.{SafeBeam}
use Rattle.line.specs.ParsedLine.{ParsedLine, parse_line, Names}
use Rattle.checks.specs.MemberOutcome.{mark_of}

-- a check and four figures are safe for a member: each figure on the safe side of its clause's exact fraction and within its distance;
-- OK only where every exact inequality holds; a named check fails, or holds by less than its figure's distance
abbrev pub SafeMember : Member → Outcome → Type 0
SafeMember (beam mark x) o = SafeBeam (section_of x) o
SafeMember (column mark x) o = SafeColumn x o
SafeMember (mesh mark x) o = SafeMesh x o

-- what a line says: the mark is the member's, the word is OK or the name of a check, and word and figures are safe
pub record SafeParsedLine (m : Member) (line : ParsedLine) : Type 0 where
  pub check : Check
  pub word : Names line check
  pub mark : line.mark ≡ mark_of m
  pub safe : SafeMember m (outcome check line.first line.second line.third line.fourth)

abbrev pub SafeLine : Member → List ℕ → Type 0
SafeLine m line = SafeParsedLine m (parse_line line)
