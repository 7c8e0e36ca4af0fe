-- Demand 3 for every accepted member: its outcome is safe, and so is its line.
use Prim.Native.Nat.{ℕ}
use mathlib.Core.Path.{◌≡◌, refl}
use mathlib.Core.List.{List}
use Rattle.member.specs.Member.{Member, beam, column, mesh}
use Rattle.member.specs.Accepted.{AcceptedMember}
use Rattle.mesh.proofs.Safe.{mesh_safe}
use Rattle.column.proofs.Safe.{column_safe}
use Rattle.beam.proofs.Safe.{beam_safe}
use Rattle.line.specs.ParsedLine.{parse_line}
use Rattle.line.proofs.ParsedLine.{parsed_of}
use Rattle.checks.specs.MemberOutcome.{mark_of, outcome_of}
use Rattle.checks.specs.LineClaim.{SafeMember, SafeLine}

pub member_safe : (m : Member) → AcceptedMember m → SafeMember m (outcome_of m)
member_safe (beam mark x) a = beam_safe x a.1
member_safe (column mark x) a = column_safe x a.1
member_safe (mesh mark x) a = mesh_safe x a.1

-- a line that says the member's mark and outcome
pub line_safe : (m : Member) (line : List ℕ) → AcceptedMember m → parse_line line ≡ parsed_of (mark_of m) (outcome_of m) → SafeLine m line
line_safe m line a e = rw e (record { check = (outcome_of m).check; word = refl; mark = refl; safe = member_safe m a })
