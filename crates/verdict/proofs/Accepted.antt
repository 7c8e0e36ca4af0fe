-- What an accepted member satisfies.
use Rattle.std.specs.Prelude.{Ok}
use Prim.Native.Nat.{ℕ, ◌*◌, ◌≤◌}
use mathlib.Core.Path.{◌≡◌, refl}
use mathlib.Core.Bool.{Bool, true, false}
use mathlib.Core.List.{List}
use native.Mathlib.Omega.{arith}
use Rattle.question.specs.declared.Question.{Question}
use Rattle.question.specs.declared.Question.TheVariants.{Mark, Kind, Field, Consistency, Bars, Ratio, ServiceMoment}
use Rattle.member.specs.Member.{h₀}
use Rattle.bars.specs.Sums.{bar_count, area}
use Rattle.member.specs.Accepted.{AcceptedMark, AcceptedMember, AcceptedBeam, AcceptedColumn, AcceptedMesh}
use Rattle.consistency.specs.Consistency.{beam_consistent, column_consistent, mesh_consistent}
use Rattle.reinforcement.specs.Reinforcement.{beam_bars, beam_ratio, column_bars}
use Rattle.consistency.proofs.Consistency.{Related, related, column_order, apart_alone}
use Rattle.reinforcement.proofs.Reinforcement.{few_bars, ratio, column_few_bars}
use Rattle.service_moment.specs.ServiceMoment.{service_moment_fits}
use Rattle.service_moment.proofs.ServiceMoment.{within_design}
use Rattle.field_table.specs.declared.MemberKind.{MemberKind}
use Rattle.field_table.specs.declared.MemberKind.TheVariants as kinds
use Rattle.field_table.specs.Fields.{tension_count, compression_count, column_count, beam_fields, column_fields, mesh_fields, known, kind_of, fields_of}
use Rattle.field_check.specs.FieldCheck.{fields_hold}
use Rattle.field_layout.specs.Layout.{member_at, groups_at, beam_at, column_at, mesh_at}
use Rattle.field_domain.proofs.InRange.{in_between}
use Rattle.field_layout.proofs.Held.{in_range_lem, zero_or, in_bars, a_grade, a_steel, a_link_steel, groups_some, beam_fields_held, beam_held, tension_accepted, compression_accepted, column_held, column_groups_accepted, mesh_held}
use Rattle.question.specs.Reading.{Verdict}
use Rattle.verdict.specs.Verdict.{mark_in_range, member_verdict, fields_verdict, built_verdict, ask_verdict, beam_verdict, column_verdict, mesh_verdict}

-- an accepted member had a yes to the question
pub asked_yes : (q : Question) (t : Bool) (next : Verdict) → ask_verdict q t next ≡ (Ok tt) → (t ≡ true) × (next ≡ (Ok tt))
asked_yes q true next e = (refl, e)
asked_yes q false next e = absurd (let z : ◌≡◌ {A = ℕ} 0 1 = cc in omega arith)

-- ---- A beam.

module _ (pointLoad : Bool) (v : List ℕ) (e : fields_hold beam_fields 0 v ≡ true) where
  with_relations : Related (beam_at pointLoad v) → (bar_count (groups_at v tension_count) ≤ 40) × (bar_count (groups_at v compression_count) ≤ 40)
      → 5 * area (groups_at v tension_count) ≤ 2 * (beam_at pointLoad v).b * h₀ (beam_at pointLoad v) → (beam_at pointLoad v).Mq ≤ (beam_at pointLoad v).M
      → AcceptedBeam (beam_at pointLoad v)
  unfolding beam_at
  with_relations r n s m =
      record {
        b_least = (in_range_lem v 0 100 1000 (beam_held v e 0 tt)).0;
        b_most = (in_range_lem v 0 100 1000 (beam_held v e 0 tt)).1;
        h_least = (in_range_lem v 1 160 2000 (beam_held v e 1 tt)).0;
        h_most = (in_range_lem v 1 160 2000 (beam_held v e 1 tt)).1;
        bf_most = (in_range_lem v 2 100 3000 (beam_held v e 2 tt)).1;
        hf_most = (in_range_lem v 3 0 1000 (beam_held v e 3 tt)).1;
        aₛ_least = (in_range_lem v 4 20 200 (beam_held v e 4 tt)).0;
        aₛ_most = (in_range_lem v 4 20 200 (beam_held v e 4 tt)).1;
        a'-most = zero_or v 5 20 200 (beam_held v e 5 tt);
        concrete = a_grade v 6 (beam_held v e 6 tt);
        steel = a_steel v 7 (beam_held v e 7 tt);
        tension = tension_accepted v e;
        tension_some = groups_some v tension_count (in_range_lem v tension_count 1 4 (beam_held v e tension_count tt)).0;
        compression = compression_accepted v e;
        link = in_bars v 26 6 12 (beam_held v e 26 tt);
        legs_least = (in_range_lem v 27 2 8 (beam_held v e 27 tt)).0;
        legs_most = (in_range_lem v 27 2 8 (beam_held v e 27 tt)).1;
        s_least = (in_range_lem v 28 50 400 (beam_held v e 28 tt)).0;
        s_most = (in_range_lem v 28 50 400 (beam_held v e 28 tt)).1;
        linkSteel = a_link_steel v 29 (beam_held v e 29 tt);
        c_most = (in_range_lem v 30 15 200 (beam_held v e 30 tt)).1;
        l₀_least = (in_range_lem v 31 1000 12000 (beam_held v e 31 tt)).0;
        l₀_most = (in_range_lem v 31 1000 12000 (beam_held v e 31 tt)).1;
        M_most = (in_range_lem v 32 0 100000000 (beam_held v e 32 tt)).1;
        Mq_least = (in_range_lem v 33 1 100000000 (beam_held v e 33 tt)).0;
        Mq_most = (in_range_lem v 33 1 100000000 (beam_held v e 33 tt)).1;
        Vd_most = (in_range_lem v 34 0 100000000 (beam_held v e 34 tt)).1;
        environment_least = (in_range_lem v 35 1 3 (beam_held v e 35 tt)).0;
        environment_most = (in_range_lem v 35 1 3 (beam_held v e 35 tt)).1;
        strict_most = (in_range_lem v 36 0 1 (beam_held v e 36 tt)).1;
        flange = r.flange;
        web = r.web;
        slab = r.slab;
        no_compression = r.no_compression;
        faces = r.faces;
        cover = r.cover;
        slender = r.slender;
        load_within = r.load_within;
        tension_bars = n.0;
        compression_bars = n.1;
        ratio = s;
        service_moment = m;
      }

  pub accepted_beam : beam_verdict (beam_at pointLoad v) ≡ (Ok tt) → AcceptedBeam (beam_at pointLoad v)
  unfolding beam_verdict beam_at
  accepted_beam a =
      let x = beam_at pointLoad v in
      let r = asked_yes Consistency (beam_consistent x) _ a in
      let n = asked_yes Bars (beam_bars x) _ r.1 in
      let s = asked_yes Ratio (beam_ratio x) _ n.1 in
      let m = asked_yes ServiceMoment (service_moment_fits x) _ s.1 in
      with_relations (related x r.0) (few_bars x n.0) (ratio x s.0) (within_design x m.0)

-- ---- A column.

module _ (v : List ℕ) (e : fields_hold column_fields 0 v ≡ true) where
  pub accepted_column : column_verdict (column_at v) ≡ (Ok tt) → AcceptedColumn (column_at v)
  unfolding column_verdict column_at
  accepted_column a =
      let x = column_at v in
      let r = asked_yes Consistency (column_consistent x) _ a in
      let n = asked_yes Bars (column_bars x) _ r.1 in
      record {
        b_least = (in_range_lem v 0 300 1500 (column_held v e 0 tt)).0;
        b_most = (in_range_lem v 0 300 1500 (column_held v e 0 tt)).1;
        h_most = (in_range_lem v 1 300 1500 (column_held v e 1 tt)).1;
        concrete = a_grade v 2 (column_held v e 2 tt);
        steel = a_steel v 3 (column_held v e 3 tt);
        groups = column_groups_accepted v e;
        groups_some = groups_some v column_count (in_range_lem v column_count 1 4 (column_held v e column_count tt)).0;
        link = in_bars v 13 6 12 (column_held v e 13 tt);
        s_most = (in_range_lem v 14 50 600 (column_held v e 14 tt)).1;
        l₀_most = (in_range_lem v 15 500 30000 (column_held v e 15 tt)).1;
        N_most = (in_range_lem v 16 0 1000000000 (column_held v e 16 tt)).1;
        order = column_order x r.0;
        bars = column_few_bars x n.0;
      }

-- ---- A mesh.

module _ (v : List ℕ) (e : fields_hold mesh_fields 0 v ≡ true) where
  pub accepted_mesh : mesh_verdict (mesh_at v) ≡ (Ok tt) → AcceptedMesh (mesh_at v)
  unfolding mesh_verdict mesh_at
  accepted_mesh a =
      let x = mesh_at v in
      let r = asked_yes Consistency (mesh_consistent x) _ a in
      record {
        family_least = (in_range_lem v 0 1 2 (mesh_held v e 0 tt)).0;
        family_most = (in_range_lem v 0 1 2 (mesh_held v e 0 tt)).1;
        concrete = a_grade v 1 (mesh_held v e 1 tt);
        d = in_bars v 2 5 16 (mesh_held v e 2 tt);
        cross = (in_range_lem v 3 0 1 (mesh_held v e 3 tt)).1;
        paired = (in_range_lem v 4 0 1 (mesh_held v e 4 tt)).1;
        apart = (in_range_lem v 5 0 1 (mesh_held v e 5 tt)).1;
        seismic = (in_range_lem v 6 0 4 (mesh_held v e 6 tt)).1;
        lapping_least = (in_range_lem v 7 1 2 (mesh_held v e 7 tt)).0;
        lapping_most = (in_range_lem v 7 1 2 (mesh_held v e 7 tt)).1;
        compression = (in_range_lem v 8 0 1 (mesh_held v e 8 tt)).1;
        anchorage = (in_range_lem v 9 0 100000 (mesh_held v e 9 tt)).1;
        lap = (in_range_lem v 10 0 100000 (mesh_held v e 10 tt)).1;
        apart_alone = apart_alone x r.0;
      }

-- ---- A member of any kind.

module _ (mark : ℕ) (v : List ℕ) (m : mark_in_range mark ≡ true) where
  in_marks : AcceptedMark mark
  unfolding mark_in_range
  in_marks = in_between {lo = 1} {hi = 999999} m

  pub accepted_member : (kind : MemberKind) → fields_hold (fields_of kind) 0 v ≡ true → member_verdict kind v ≡ (Ok tt) → AcceptedMember (member_at mark kind v)
  unfolding member_at member_verdict fields_of
  accepted_member (kinds.Beam pointLoad) e a = (in_marks, accepted_beam pointLoad v (beam_fields_held pointLoad v e) a)
  accepted_member kinds.Column e a = (in_marks, accepted_column v e a)
  accepted_member kinds.Mesh e a = (in_marks, accepted_mesh v e a)

-- ---- A built member.

-- what each of its questions was answered
pub record BuiltPassed (mark number : ℕ) (v : List ℕ) : Type 0 where
  pub mark_in_range_lem : mark_in_range mark ≡ true
  pub is_known : known number ≡ true
  pub held : fields_hold (fields_of (kind_of number)) 0 v ≡ true
  pub verdict : member_verdict (kind_of number) v ≡ (Ok tt)

pub built_passed : (mark number : ℕ) (v : List ℕ) → built_verdict mark number v ≡ (Ok tt) → BuiltPassed mark number v
unfolding built_verdict fields_verdict
built_passed mark number v a =
    let m = asked_yes Mark (mark_in_range mark) _ a in
    let k = asked_yes Kind (known number) _ m.1 in
    let f = asked_yes Field (fields_hold (fields_of (kind_of number)) 0 v) _ k.1 in
    record { mark_in_range_lem = m.0; is_known = k.0; held = f.0; verdict = f.1 }

-- what it satisfies
pub accepted_built : (mark number : ℕ) (v : List ℕ) → built_verdict mark number v ≡ (Ok tt) → AcceptedMember (member_at mark (kind_of number) v)
accepted_built mark number v a =
    let p = built_passed mark number v a in
    accepted_member mark v p.mark_in_range_lem (kind_of number) p.held p.verdict
