-- Each row holds by computation.
use mathlib.Core.Path.{refl}
use lib.Ieee.{of_int, div, round, lt}
use Rattle.text.specs.Text.{decimal, digits, value_from, value_of, every, is_decimal, joined_by, ended_by, text_of, split_more, split, line_of, word_of}
use Rattle.line.specs.ParsedLine.{parsed_figure, parse_line}
use Rattle.quantity.specs.Rounding.{up, down, clamp}
use Rattle.code_tables.specs.Bars.{area_of}
use Rattle.material.specs.Concrete.{concrete_of}
use Rattle.code_tables.specs.Mesh.{multiple}
use Rattle.code_tables.specs.Slenderness.{point}
use Rattle.code_tables.specs.Spacing.{spacing_limit}
use Rattle.material.specs.Steel.{steel_of, fyv_of}
use Rattle.quantity.specs.Fraction.{◌⊕◌, ◌⊘◌}
use Rattle.parameters.specs.Parameters.{stress_factor, web_factor, β₁, εcu, balanced_depth, depth_limit, parameters_of}
use Rattle.bars.specs.Sums.{bar_count, area, sum_d, sum_e, group_area, group_diameters, group_squares}
use Rattle.consistency.specs.Consistency.{flange_fits, compression_fits, depth_fits, load_fits, beam_consistent, column_consistent, mesh_consistent}
use Rattle.reinforcement.specs.Reinforcement.{beam_bars, beam_ratio, column_bars}
use Rattle.service_moment.specs.ServiceMoment.{service_moment_fits}
use Rattle.field_domain.specs.Domain.{is_present, holds, field_holds}
use Rattle.field_table.specs.Fields.{known, kind_of, fields_of}
use Rattle.section.specs.Section.{section_of}
use Rattle.bending.specs.Steps.{least_steel, compression_depth, compression_yields, yielded_capacity, couple_capacity, bending_capacity}
use Rattle.web_crushing.specs.Steps.{web_holds}
use Rattle.shear.specs.Steps.{concrete_shear, link_shear, shear_capacity, shear_above, link_spacing, least_links}
use Rattle.shear.specs.ShearCheck.{shear_result}
use Rattle.cracking.specs.Steps.{stress_holds, steel_stress, stiffening, mean_stress, crack_spacing, width_of, σ, q, crack_width, width_limit}
use Rattle.deflection.specs.Steps.{flexibility, curvature, short_term, long_term, deflection_of, deflection, span_divisor, deflection_holds}
use Rattle.serviceability.specs.Checks.{from_deflection, from_width, from_stress}
use Rattle.beam.specs.Checks.{from_least_links, from_spacing, from_shear, from_bending, from_depth, section_outcome, beam_outcome}
use Rattle.axial.specs.Steps.{steel_fits, slenderness_fits, concrete_area, squash_load, axial_capacity}
use Rattle.column.specs.Checks.{links_fit, axial_outcome, slenderness_outcome, links_outcome, column_outcome}
use Rattle.stability.specs.Steps.{interval, interpolated, stability}
use Rattle.anchorage.specs.Steps.{basic_length, anchorage_length}
use Rattle.lap.specs.Steps.{tension_lap, required_lap, lap_length}
use Rattle.mesh.specs.Checks.{lap_outcome, mesh_outcome}
use Rattle.field_layout.specs.Layout.{beam_at, column_at, mesh_at, member_at}
use Rattle.verdict.specs.Verdict.{beam_verdict, column_verdict, mesh_verdict, member_verdict, mark_in_range, fields_verdict, built_verdict}
use Rattle.ratio.specs.Ratio.{quotient, ratio, over_figure, over_limit}
use Rattle.utilization.specs.Utilization.{deflection_limit, beam_utilization, column_utilization, mesh_utilization}
use Rattle.varint.specs.Varint.{number_at, septets_at, last_septet}
use Rattle.field_validator.specs.FieldsAt.{field, fields}
use Rattle.members.specs.Members.{member_body, mark_rises, mark_at, kind_at, member, members}
use Rattle.schedule.specs.Schedule.{schedule}
use Rattle.report.specs.Report.{report_of}
use Rattle.lent_groups.specs.LentGroups.{named_hold}
use Rattle.totals.specs.Totals.{bar_totals}
use Rattle.lent_member.specs.Lent.{lent_beam, lent_column, lent_member, lent_fields_hold, lent_verdict}
use Rattle.koxaltes.specs.Entries.{lent_report_of}
use Rattle.koxaltes.specs.UtilizationEntry.{lent_utilization_of}
use Rattle.program_output.specs.ProgramOutput.{output_of}
use Rattle.varint.specs.Encoding.{septets_of, bytes_of}
use Rattle.encoding.specs.ScheduleBytes.{bytes_of_all, beam_numbers, column_numbers, mesh_numbers, member_numbers, members_bytes, schedule_bytes}
use Rattle.held_schedule.specs.HeldSchedule.{record_at, records_from, records_of, record_verdict, record_members, held_members}
use Rattle.writer.specs.Written.{file_of}
use Rattle.cases.specs.Cases.{Table}

pub table : Table
unfolding file_of held_members records_of records_from record_at record_members record_verdict built_verdict fields_verdict schedule_bytes members_bytes member_numbers beam_numbers column_numbers mesh_numbers bytes_of_all bytes_of septets_of parse_line parsed_figure line_of word_of split split_more is_decimal every value_of value_from output_of report_of text_of ended_by joined_by decimal digits lent_report_of lent_utilization_of lent_verdict lent_member lent_beam lent_column lent_fields_hold named_hold bar_totals number_at septets_at last_septet schedule members member mark_at kind_at mark_rises mark_in_range member_body fields field fields_of known kind_of is_present holds area_of member_verdict field_holds beam_verdict column_verdict mesh_verdict beam_consistent flange_fits compression_fits depth_fits load_fits beam_bars beam_ratio service_moment_fits column_consistent column_bars mesh_consistent bar_count member_at beam_at column_at mesh_at beam_outcome section_outcome from_depth from_bending from_shear from_spacing from_least_links from_stress from_width from_deflection section_of concrete_of steel_of fyv_of parameters_of stress_factor web_factor depth_limit balanced_depth β₁ εcu ◌⊕◌ ◌⊘◌ area sum_d sum_e group_area group_diameters group_squares least_steel compression_depth compression_yields yielded_capacity couple_capacity bending_capacity web_holds shear_result concrete_shear link_shear shear_capacity shear_above link_spacing least_links spacing_limit stress_holds steel_stress stiffening mean_stress crack_spacing width_of σ q crack_width width_limit flexibility curvature short_term long_term deflection_of deflection span_divisor deflection_holds column_outcome links_outcome slenderness_outcome axial_outcome steel_fits links_fit slenderness_fits axial_capacity stability interval interpolated concrete_area squash_load point mesh_outcome lap_outcome anchorage_length lap_length required_lap tension_lap basic_length multiple up down clamp beam_utilization column_utilization mesh_utilization over_figure over_limit ratio deflection_limit quotient of_int div round lt
table =
    record {
      beam_1 = refl;
      shear_reached = refl;
      shear_exceeded = refl;
      links_apart = refl;
      column_2 = refl;
      force_reached = refl;
      force_exceeded = refl;
      mesh_3 = refl;
      lap_short = refl;
      anchorage_short = refl;
      compression = refl;
      compression_above = refl;
      point_0 = refl;
      point_689 = refl;
      point_690 = refl;
      point_691 = refl;
      point_1000 = refl;
      point_exceeded = refl;
      point_1379 = refl;
      point_1380 = refl;
      point_1381 = refl;
      point_6000 = refl;
      point_low_shear = refl;
      point_high_shear = refl;
      web_reached = refl;
      web_exceeded = refl;
      web_point_reached = refl;
      web_point_exceeded = refl;
      web_399_reached = refl;
      web_399_exceeded = refl;
      web_400_reached = refl;
      web_400_exceeded = refl;
      web_401_reached = refl;
      web_401_exceeded = refl;
      web_500_reached = refl;
      web_500_exceeded = refl;
      web_599_reached = refl;
      web_599_exceeded = refl;
      web_600_reached = refl;
      web_600_exceeded = refl;
      web_601_reached = refl;
      web_601_exceeded = refl;
      web_1500_reached = refl;
      web_1500_exceeded = refl;
      web_point_500_reached = refl;
      web_point_500_exceeded = refl;
      beams-by-grade = refl;
      columns-by-grade = refl;
      meshes-by-grade = refl;
      depth_50_1_reached = refl;
      depth_50_1_exceeded = refl;
      depth_50_2_reached = refl;
      depth_50_2_exceeded = refl;
      depth_55_1_reached = refl;
      depth_55_1_exceeded = refl;
      depth_55_2_reached = refl;
      depth_55_2_exceeded = refl;
      depth_80_2_reached = refl;
      depth_80_2_exceeded = refl;
      depth_80_1_most = refl;
      depth_50_by_table = refl;
      yields_80_reached = refl;
      yields_80_exceeded = refl;
      couple_80_exceeded = refl;
      web_c55_reached = refl;
      web_c55_exceeded = refl;
      web_c80_reached = refl;
      web_c80_exceeded = refl;
      stocky = refl;
      slender = refl;
      stability_8 = refl;
      stability_50 = refl;
      limit_7000 = refl;
      limit_9000 = refl;
      schedule_read = refl;
      schedule_printed = refl;
      steel_three = refl;
      no_members = refl;
      empty_file = refl;
      all_ones = refl;
      five_hundred = refl;
      one_more = refl;
      mark_zero = refl;
      mark_stays = refl;
      kind_five = refl;
      point_read = refl;
      point_at_span = refl;
      point_past_span = refl;
      point_past_range = refl;
      point_missing = refl;
      moments_equal = refl;
      service_above = refl;
      moments_exchanged = refl;
      no_design_moment = refl;
      point_moments_equal = refl;
      point_service_above = refl;
      consistency_before_service = refl;
      bars_before_service = refl;
      ratio_before_service = refl;
      service_before_mark = refl;
      service_of_second = refl;
      web_printed = refl;
      grade_read = refl;
      grades_of_beams = refl;
      grades_of_point_loads = refl;
      grades_of_columns = refl;
      grades_of_meshes = refl;
      cross_bar_two = refl;
      ends_in_a_field = refl;
      byte_left = refl;
      total_parsed = refl;
      passed-parsed = refl;
      failed-parsed = refl;
      placed_beam_lem = refl;
      placed_point = refl;
      placed_column_lem = refl;
      placed_mesh_lem = refl;
      built_beam_lem = refl;
      built_column_lem = refl;
      built_mesh_lem = refl;
      line_1 = refl;
      line_point = refl;
      point_refused = refl;
      line_service = refl;
      line_point_service = refl;
      line_web = refl;
      line_point_web = refl;
      line_grade = refl;
      line_grade_51 = refl;
      line_grade_85 = refl;
      line_2 = refl;
      line_3 = refl;
      count_above = refl;
      works_met = refl;
      works_anchorage_short = refl;
      works_lap_short = refl;
      works_stacked = refl;
      works_not_at_30 = refl;
      beam_numbers_lem = refl;
      point-numbers = refl;
      column_numbers_lem = refl;
      mesh_numbers_lem = refl;
      written_three = refl;
      written_unread = refl;
      written_none = refl;
      written_point = refl;
      mark_again = refl;
      mark_before_kind = refl;
      kind_nine = refl;
      written_service = refl;
      written_point_service = refl;
      written_grade = refl;
      written_grade_51 = refl;
      written_grade_85 = refl;
      file_fits = refl;
      file_too_long_lem = refl;
      mark_before_room = refl;
      service_before_room = refl;
      totals = refl;
      totals_above = refl;
      utilization_1 = refl;
      utilization_point = refl;
      utilization_web = refl;
      utilization_point_web = refl;
      utilization_2 = refl;
      utilization_3 = refl;
      utilization_none = refl;
      utilization_refused = refl;
      utilization_service = refl;
      utilization_point_service = refl;
      governs_1 = refl;
      governs_web = refl;
      governs_3 = refl;
      governs_none = refl;
    }
