-- Demand 3 for every accepted beam, by the ways out of its checks.
use Rattle.outcome.specs.declared.Outcome.{Outcome}
use Rattle.outcome.proofs.Says.{says_holds, says_named}
use Rattle.member.specs.Member.{Beam}
use Rattle.member.specs.Accepted.{AcceptedBeam}
use Rattle.section.specs.declared.Section.{Section}
use Rattle.section.specs.Section.{section_of}
use Rattle.section.specs.Bounded.{Bounded}
use Rattle.section.proofs.Bounded.{bounded}
use Rattle.bending.proofs.Exact.{moment_safe}
use Rattle.shear.proofs.Exact.{shear_safe}
use Rattle.cracking.proofs.Safe.{width_safe}
use Rattle.deflection.proofs.Safe.{deflection_safe}
use Rattle.beam.specs.Checks.{beam_outcome}
use Rattle.beam.specs.Exact.{none, SafeBeam}
use Rattle.beam.proofs.Ways.{WayOut, no_figure_lem, to_moment, to_shear, to_width, to_deflection, way_out}

section_safe : {x : Section} {o : Outcome} → Bounded x → WayOut x o → SafeBeam x o
section_safe a (no_figure_lem s) =
    record { first = tt; second = tt; web = tt; third = tt; fourth = tt; passed = says_holds s; named = says_named none s }
section_safe a (to_moment s) =
    record { first = moment_safe a; second = tt; web = tt; third = tt; fourth = tt; passed = says_holds s; named = says_named none s }
section_safe a (to_shear w s) =
    record { first = moment_safe a; second = shear_safe a; web = w; third = tt; fourth = tt; passed = says_holds s; named = says_named none s }
section_safe a (to_width w e g s) =
    record {
      first = moment_safe a;
      second = shear_safe a;
      web = w;
      third = width_safe _ a e g;
      fourth = tt;
      passed = says_holds s;
      named = says_named none s;
    }
section_safe a (to_deflection w e g s) =
    record {
      first = moment_safe a;
      second = shear_safe a;
      web = w;
      third = width_safe _ a e g;
      fourth = deflection_safe _ a e;
      passed = says_holds s;
      named = says_named none s;
    }

pub beam_safe : (x : Beam) → AcceptedBeam x → SafeBeam (section_of x) (beam_outcome x)
beam_safe x a = section_safe (bounded x a) (way_out x a)
