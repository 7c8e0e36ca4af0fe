-- Document 01's tabled cases ("One schedule, printed") and some beside them, in one table: what the definitions give for members and bytes that are written out.
use Rattle.std.specs.Prelude.{ℕ, ◌*◌, ◌≡◌, true, false, List, [], ◌∷◌, ◌++◌, map, replicate, negsuc, Float, None, Some}
use Prim.Native.Char.{code}
use Prim.Native.String.{String, [] as []ₛ, ◌∷◌ as ◌∷ₛ◌}
use Rattle.std.specs.Float.{fin}
use Rattle.text.specs.Text.{value_of, word_of, line_of}
use Rattle.quantity.specs.Unit.{millimetres}
use Rattle.member.specs.declared.Load.TheVariants.{Uniform, Point}
use Rattle.line.specs.ParsedLine.{parse_line}
use Rattle.question.specs.declared.Question.TheVariants.{Mark, Kind, Field, Consistency, ServiceMoment}
use Rattle.deflection.specs.Steps.{span_divisor}
use Rattle.stability.specs.Steps.{stability}
use Rattle.ratio.specs.declared.Utilization.{Utilization}
use Rattle.ratio.specs.Ratio.{nought, no_ratio, four_ratios}
use Rattle.governing.specs.Governing.{governing_of}
use Rattle.utilization.specs.Utilized.{values_given, values_refused}
use Rattle.question.specs.Reading.{got, no, refusal}
use Rattle.schedule.specs.Schedule.{schedule}
use Rattle.report_text.specs.ReportText.{member_text}
use Rattle.lent_member.specs.Lent.{lent_member}
use Rattle.encoding.specs.ScheduleBytes.{member_numbers}
use Rattle.text_answer.specs.Printed.{answered}
use Rattle.writer.specs.Written.{file_of, file_too_long}
use Rattle.totals.specs.Totals.{bar_totals}
use Rattle.koxaltes.specs.Entries.{lent_report_of}
use Rattle.koxaltes.specs.UtilizationEntry.{lent_utilization_of}
use Rattle.program_output.specs.ProgramOutput.{output_of}
use Rattle.cases.specs.CaseMembers.{
  bars,
  beam_with,
  beam₁,
  point_loaded,
  narrow_beam,
  graded_beam,
  graded_column,
  column₂,
  graded_mesh,
  mesh₃,
  built_graded_beam,
  built_loaded_beam,
  built_beam_with,
  built_beam_of,
  built_beam,
  built_column,
  built_mesh,
  built_mesh₄,
  placed_beam,
  beam_placed,
  placed_column,
  column_placed,
  placed_mesh,
  mesh_placed,
  of90000,
  of90001,
  of150000,
  of411126,
  of120000,
  four_bars,
  beam_start,
  graded_beam_bytes,
  loaded_beam_bytes,
  beam_bytes_with,
  moment_bytes,
  point_bytes,
  graded_mesh_bytes,
  mesh_bytes,
  printed_bytes,
  beam_words_with,
  beam_words,
  graded_mesh_words,
  mesh_words,
  printed_words,
}

-- the bytes of a text in ASCII
abbrev pub bytes : String → List ℕ
bytes []ₛ = []
bytes (c ∷ₛ s) = code c ∷ bytes s

-- the report of document 01's schedule
abbrev pub printed : List ℕ
printed = bytes "members 3\n1 OK 179495 177587 172 1885\n2 OK 2816134 - - -\n3 OK 263 342 - -\n"

-- the grades of concrete
abbrev pub grades : List ℕ
grades = 20 ∷ 25 ∷ 30 ∷ 35 ∷ 40 ∷ 45 ∷ 50 ∷ 55 ∷ 60 ∷ 65 ∷ 70 ∷ 75 ∷ 80 ∷ []

-- three files that end after the grade: the first and the last are refused for it, the other for its end
abbrev pub refused_but_ends : List String
refused_but_ends = "refused 7 member 1\n" ∷ "refused 2 member 1\n" ∷ "refused 7 member 1\n" ∷ []

-- ---- Utilizations as doubles.

-- beam 1's moment, 150000/179495: 0.836
abbrev of_moment : Float
of_moment = fin false 1881779281053997 (negsuc 50)

-- its four, with that of the shear: 172/300 and 1885/3000 are 0.573 and 0.628
abbrev of_beam_with : Float → Utilization
of_beam_with shear =
    record {
      first = of_moment;
      second = shear;
      third = fin false 5164127572718169 (negsuc 52);
      fourth = fin false 5659523531728923 (negsuc 52);
      firstReached = true;
      secondReached = true;
      thirdReached = true;
      fourthReached = true;
    }

-- 120000/177587: 0.676
abbrev pub of_beam : Utilization
of_beam = of_beam_with (fin false 380399434702751 (negsuc 48))

-- under a point load, 120000/153144: 0.784
abbrev pub of_point_loaded : Utilization
of_point_loaded = of_beam_with (fin false 7057827342690011 (negsuc 52))

-- the first reached alone
abbrev first_alone : Float → Utilization
first_alone first = four_ratios (record { value = first; reached = true }) no_ratio no_ratio no_ratio

-- beam 1's where 6.3.1v fails
abbrev pub of_moment_alone : Utilization
of_moment_alone = first_alone of_moment

-- 2500000/2816134: 0.888
abbrev pub of_column : Utilization
of_column = first_alone (fin false 1999016926827033 (negsuc 50))

-- 263/270 and 342/350: 0.974, 0.977
abbrev pub of_mesh : Utilization
of_mesh =
    record {
      first = fin false 4386839637031261 (negsuc 51);
      second = fin false 4400660207316313 (negsuc 51);
      third = nought;
      fourth = nought;
      firstReached = true;
      secondReached = true;
      thirdReached = false;
      fourthReached = false;
    }

abbrev pub of_none : Utilization
of_none = four_ratios no_ratio no_ratio no_ratio no_ratio

-- ---- The table.

pub record Table : Type 0 where
  -- lines of members
  pub beam_1 : member_text (beam₁ 200 120000) ≡ bytes "1 OK 179495 177587 172 1885\n"
  pub shear_reached : member_text (beam₁ 200 177587) ≡ bytes "1 OK 179495 177587 172 1885\n"
  pub shear_exceeded : member_text (beam₁ 200 177588) ≡ bytes "1 4.3.3 179495 177587 - -\n"
  pub links_apart : member_text (beam₁ 201 120000) ≡ bytes "1 5.5.6s 179495 177276 - -\n"
  pub column_2 : member_text (column₂ 4000 2500000) ≡ bytes "2 OK 2816134 - - -\n"
  pub force_reached : member_text (column₂ 4000 2816134) ≡ bytes "2 OK 2816134 - - -\n"
  pub force_exceeded : member_text (column₂ 4000 2816135) ≡ bytes "2 4.2.4 2816134 - - -\n"
  pub mesh_3 : member_text (mesh₃ 270 350) ≡ bytes "3 OK 263 342 - -\n"
  pub lap_short : member_text (mesh₃ 270 341) ≡ bytes "3 5.3.7 263 342 - -\n"
  pub anchorage_short : member_text (mesh₃ 262 341) ≡ bytes "3 5.2.5 263 - - -\n"
  -- 4.2.3, 360·12568·420/10000: two bars in compression, and five, where t is below 0
  pub compression : member_text (beam_with (bars 2 20) 40 200 120000) ≡ bytes "1 OK 190028 177587 172 1696\n"
  pub compression_above : member_text (beam_with (bars 5 20) 40 200 120000) ≡ bytes "1 OK 190028 177587 172 1508\n"
  -- beam 1 under a point load (kind 4; h0 is 460): a/h0 of 1.5 is 690, of 3 is 1380
  pub point_0 : member_text (point_loaded 0 200 120000) ≡ bytes "1 OK 179495 177587 172 1885\n"
  pub point_689 : member_text (point_loaded 689 200 120000) ≡ bytes "1 OK 179495 177587 172 1885\n"
  pub point_690 : member_text (point_loaded 690 200 120000) ≡ bytes "1 OK 179495 177587 172 1885\n"
  pub point_691 : member_text (point_loaded 691 200 120000) ≡ bytes "1 OK 179495 177486 172 1885\n"
  pub point_1000 : member_text (point_loaded 1000 200 153144) ≡ bytes "1 OK 179495 153144 172 1885\n"
  pub point_exceeded : member_text (point_loaded 1000 200 153145) ≡ bytes "1 4.3.3 179495 153144 - -\n"
  pub point_1379 : member_text (point_loaded 1379 200 120000) ≡ bytes "1 OK 179495 134457 172 1885\n"
  pub point_1380 : member_text (point_loaded 1380 200 120000) ≡ bytes "1 OK 179495 134418 172 1885\n"
  pub point_1381 : member_text (point_loaded 1381 200 120000) ≡ bytes "1 OK 179495 134418 172 1885\n"
  pub point_6000 : member_text (point_loaded 6000 200 134418) ≡ bytes "1 OK 179495 134418 172 1885\n"
  -- table 5.5.6 turns on 115115 N, of which a point load leaves 71946: links of low shear at 100000 N
  pub point_low_shear : member_text (point_loaded 6000 250 100000) ≡ bytes "1 OK 179495 121924 172 1885\n"
  pub point_high_shear : member_text (point_loaded 6000 250 115116) ≡ bytes "1 5.5.6s 179495 121924 - -\n"
  -- 6.3.1v (document 02, wish 6). The web of beam 1 bears 411125 N, under either load: there 4.3.3 alone fails, above it both do, and 6.3.1v is named
  pub web_reached : member_text (beam₁ 200 411125) ≡ bytes "1 4.3.3 179495 177587 - -\n"
  pub web_exceeded : member_text (beam₁ 200 411126) ≡ bytes "1 6.3.1v 179495 - - -\n"
  pub web_point_reached : member_text (point_loaded 6000 200 411125) ≡ bytes "1 4.3.3 179495 134418 - -\n"
  pub web_point_exceeded : member_text (point_loaded 6000 200 411126) ≡ bytes "1 6.3.1v 179495 - - -\n"
  -- a narrow beam with heavy links, h0/b of 4, of 6, 1 mm to either side, between and above: the largest V that its web bears, and 1 N more
  pub web_399_reached : member_text (narrow_beam Uniform 439 142642) ≡ bytes "1 OK 72369 2639248 1 1\n"
  pub web_399_exceeded : member_text (narrow_beam Uniform 439 142643) ≡ bytes "1 6.3.1v 72369 - - -\n"
  pub web_400_reached : member_text (narrow_beam Uniform 440 143000) ≡ bytes "1 OK 72595 2645864 1 1\n"
  pub web_400_exceeded : member_text (narrow_beam Uniform 440 143001) ≡ bytes "1 6.3.1v 72595 - - -\n"
  pub web_401_reached : member_text (narrow_beam Uniform 441 143214) ≡ bytes "1 OK 72821 2652478 1 1\n"
  pub web_401_exceeded : member_text (narrow_beam Uniform 441 143215) ≡ bytes "1 6.3.1v 72821 - - -\n"
  pub web_500_reached : member_text (narrow_beam Uniform 540 160875) ≡ bytes "1 OK 95217 3307330 1 1\n"
  pub web_500_exceeded : member_text (narrow_beam Uniform 540 160876) ≡ bytes "1 6.3.1v 95217 - - -\n"
  pub web_599_reached : member_text (narrow_beam Uniform 639 171528) ≡ bytes "1 OK 117614 3962180 1 1\n"
  pub web_599_exceeded : member_text (narrow_beam Uniform 639 171529) ≡ bytes "1 6.3.1v 117614 - - -\n"
  pub web_600_reached : member_text (narrow_beam Uniform 640 171600) ≡ bytes "1 OK 117840 3968796 1 1\n"
  pub web_600_exceeded : member_text (narrow_beam Uniform 640 171601) ≡ bytes "1 6.3.1v 117840 - - -\n"
  pub web_601_reached : member_text (narrow_beam Uniform 641 171886) ≡ bytes "1 OK 118066 3975410 1 1\n"
  pub web_601_exceeded : member_text (narrow_beam Uniform 641 171887) ≡ bytes "1 6.3.1v 118066 - - -\n"
  pub web_1500_reached : member_text (narrow_beam Uniform 1540 429000) ≡ bytes "1 OK 321441 9921990 1 1\n"
  pub web_1500_exceeded : member_text (narrow_beam Uniform 1540 429001) ≡ bytes "1 6.3.1v 321441 - - -\n"
  pub web_point_500_reached : member_text (narrow_beam (Point (millimetres 6000)) 540 160875) ≡ bytes "1 OK 95217 3288561 1 1\n"
  pub web_point_500_exceeded : member_text (narrow_beam (Point (millimetres 6000)) 540 160876) ≡ bytes "1 6.3.1v 95217 - - -\n"
  -- document 02, wish 7: beam 1, column 2 and mesh 3 of each grade, C20 to C80
  pub beams-by-grade :
      map (λ (g : ℕ). member_text (graded_beam g 1 (bars 4 20) [] 0 150000 90000 120000)) grades ≡ map bytes (
      "1 OK 165478 151022 191 2106\n"
      ∷ "1 OK 173721 164707 181 1985\n"
      ∷ "1 OK 179495 177587 172 1885\n"
      ∷ "1 OK 183610 188857 164 1808\n"
      ∷ "1 OK 186690 200127 156 1742\n"
      ∷ "1 OK 188722 207372 151 1695\n"
      ∷ "1 OK 190402 214617 145 1646\n"
      ∷ "1 OK 191780 220252 141 1606\n"
      ∷ "1 OK 192934 226692 136 1571\n"
      ∷ "1 OK 193914 230717 133 1543\n"
      ∷ "1 OK 194714 234742 130 1521\n"
      ∷ "1 OK 195375 237962 128 1499\n"
      ∷ "1 OK 195993 241182 125 1478\n"
      ∷ []
      )
  pub columns-by-grade :
      map (λ (g : ℕ). member_text (graded_column g 4000 2000000)) grades ≡ map bytes (
      "2 OK 2152870 - - -\n"
      ∷ "2 OK 2477446 - - -\n"
      ∷ "2 OK 2816134 - - -\n"
      ∷ "2 OK 3154822 - - -\n"
      ∷ "2 OK 3493510 - - -\n"
      ∷ "2 OK 3775750 - - -\n"
      ∷ "2 OK 4057990 - - -\n"
      ∷ "2 OK 4368454 - - -\n"
      ∷ "2 OK 4678918 - - -\n"
      ∷ "2 OK 4989382 - - -\n"
      ∷ "2 OK 5285734 - - -\n"
      ∷ "2 OK 5567974 - - -\n"
      ∷ "2 OK 5864326 - - -\n"
      ∷ []
      )
  pub meshes-by-grade :
      map (λ (g : ℕ). member_text (graded_mesh g 336 437)) grades ≡ map bytes (
      "3 OK 336 437 - -\n"
      ∷ "3 OK 294 383 - -\n"
      ∷ "3 OK 263 342 - -\n"
      ∷ "3 OK 231 301 - -\n"
      ∷ "3 OK 221 287 - -\n"
      ∷ "3 OK 221 287 - -\n"
      ∷ "3 OK 221 287 - -\n"
      ∷ "3 OK 221 287 - -\n"
      ∷ "3 OK 221 287 - -\n"
      ∷ "3 OK 221 287 - -\n"
      ∷ "3 OK 221 287 - -\n"
      ∷ "3 OK 221 287 - -\n"
      ∷ "3 OK 221 287 - -\n"
      ∷ []
      )
  -- 4.2.2-3: the most bars of 20 mm that pass and one bar more, HRB400 and HRB500 at C50 (e) and C55, HRB500 at C80 (GB 6.2.7)
  pub depth_50_1_reached : member_text (graded_beam 50 1 (bars 12 20) [] 0 1 1 120000) ≡ bytes "1 OK 464864 214617 1 1\n"
  pub depth_50_1_exceeded : member_text (graded_beam 50 1 (bars 13 20) [] 0 1 1 120000) ≡ bytes "1 4.2.2-3 - - - -\n"
  pub depth_50_2_reached : member_text (graded_beam 50 2 (bars 9 20) [] 0 1 1 120000) ≡ bytes "1 OK 434835 214617 1 1\n"
  pub depth_50_2_exceeded : member_text (graded_beam 50 2 (bars 10 20) [] 0 1 1 120000) ≡ bytes "1 4.2.2-3 - - - -\n"
  pub depth_55_1_reached : member_text (graded_beam 55 1 (bars 12 20) [] 0 1 1 120000) ≡ bytes "1 OK 477264 220252 1 1\n"
  pub depth_55_1_exceeded : member_text (graded_beam 55 1 (bars 13 20) [] 0 1 1 120000) ≡ bytes "1 4.2.2-3 - - - -\n"
  pub depth_55_2_reached : member_text (graded_beam 55 2 (bars 9 20) [] 0 1 1 120000) ≡ bytes "1 OK 445019 220252 1 1\n"
  pub depth_55_2_exceeded : member_text (graded_beam 55 2 (bars 10 20) [] 0 1 1 120000) ≡ bytes "1 4.2.2-3 - - - -\n"
  pub depth_80_2_reached : member_text (graded_beam 80 2 (bars 12 20) [] 0 1 1 120000) ≡ bytes "1 OK 595030 241182 1 1\n"
  pub depth_80_2_exceeded : member_text (graded_beam 80 2 (bars 13 20) [] 0 1 1 120000) ≡ bytes "1 4.2.2-3 - - - -\n"
  -- the largest steel that question 10 takes at C80: HRB400 reaches its 4 percent before the depth limit
  pub depth_80_1_most : member_text (graded_beam 80 1 (bars 14 20) [] 0 1 1 120000) ≡ bytes "1 OK 579819 241182 1 1\n"
  -- between GB 6.2.7's fraction and e at C50, where e decides
  pub depth_50_by_table : member_text (graded_beam 50 1 (bars 4 32 ++ bars 1 28) [] 0 1 1 120000) ≡ bytes "1 OK 469858 214617 1 1\n"
  -- at C80 t is 678672 N and 2·a'·k 674920 N, 718000 N without α1: 4.2.2 applies; with a bar less 4.2.3
  pub yields_80_reached : member_text (graded_beam 80 1 (bars 8 20) (bars 2 20) 40 379905 90000 120000) ≡ bytes "1 OK 379905 241182 45 910\n"
  pub yields_80_exceeded : member_text (graded_beam 80 1 (bars 8 20) (bars 2 20) 40 379906 90000 120000) ≡ bytes "1 4.2.2 379905 - - -\n"
  pub couple_80_exceeded : member_text (graded_beam 80 1 (bars 7 20) (bars 2 20) 40 332550 90000 120000) ≡ bytes "1 4.2.3 332549 - - -\n"
  -- 6.3.1v with βc of C55 and of C80: the largest V that the web bears, and 1 N more
  pub web_c55_reached : member_text (graded_beam 55 1 (bars 4 20) [] 0 150000 90000 703129) ≡ bytes "1 4.3.3 191780 220252 - -\n"
  pub web_c55_exceeded : member_text (graded_beam 55 1 (bars 4 20) [] 0 150000 90000 703130) ≡ bytes "1 6.3.1v 191780 - - -\n"
  pub web_c80_reached : member_text (graded_beam 80 1 (bars 4 20) [] 0 150000 90000 825700) ≡ bytes "1 4.3.3 195993 241182 - -\n"
  pub web_c80_exceeded : member_text (graded_beam 80 1 (bars 4 20) [] 0 150000 90000 825701) ≡ bytes "1 6.3.1v 195993 - - -\n"
  -- l0/b of 8 and 50, and φ in hundredths there, where the steps write 200·b for 1
  pub stocky : member_text (column₂ (8 * 400) 2500000) ≡ bytes "2 OK 2873606 - - -\n"
  pub slender : member_text (column₂ (50 * 400) 2500000) ≡ bytes "2 4.2.4 545985 - - -\n"
  pub stability_8 : stability (8 * 400) 400 ≡ 100 * (2 * 400)
  pub stability_50 : stability (50 * 400) 400 ≡ 19 * (2 * 400)
  -- limits of 28 and 36 mm at spans of 7000 and 9000
  pub limit_7000 : 28 * span_divisor 7000 0 ≡ 7000
  pub limit_9000 : 36 * span_divisor 9000 0 ≡ 9000
  -- schedules
  pub schedule_read : schedule (printed_bytes 1) ≡ got (beam₁ 200 120000 ∷ column₂ 4000 2500000 ∷ mesh₃ 270 350 ∷ [])
  pub schedule_printed : output_of (printed_bytes 1) ≡ printed
  pub steel_three : output_of (printed_bytes 3) ≡ bytes "refused 7 member 2\n"
  pub no_members : output_of (0 ∷ []) ≡ bytes "members 0\n"
  pub empty_file : output_of [] ≡ bytes "refused 2 member 0\n"
  pub all_ones : output_of (255 ∷ 255 ∷ 255 ∷ 255 ∷ 255 ∷ 255 ∷ []) ≡ bytes "refused 3 member 0\n"
  pub five_hundred : output_of (244 ∷ 3 ∷ []) ≡ bytes "refused 2 member 1\n"
  pub one_more : output_of (245 ∷ 3 ∷ []) ≡ bytes "refused 4 member 0\n"
  pub mark_zero : output_of (1 ∷ 0 ∷ []) ≡ bytes "refused 5 member 1\n"
  pub mark_stays : output_of (2 ∷ (mesh_bytes 1 ++ mesh_bytes 1)) ≡ bytes "refused 5 member 2\n"
  pub kind_five : output_of (1 ∷ 1 ∷ 5 ∷ []) ≡ bytes "refused 6 member 1\n"
  -- beam 1 of kind 4: a = 1000, l0 = 6000, 6001 and 12001; the file ends before a
  pub point_read : schedule (point_bytes (232 ∷ 7 ∷ [])) ≡ got (point_loaded 1000 200 120000 ∷ [])
  pub point_at_span : output_of (point_bytes (240 ∷ 46 ∷ [])) ≡ bytes "members 1\n1 OK 179495 134418 172 1885\n"
  pub point_past_span : output_of (point_bytes (241 ∷ 46 ∷ [])) ≡ bytes "refused 8 member 1\n"
  pub point_past_range : output_of (point_bytes (225 ∷ 93 ∷ [])) ≡ bytes "refused 7 member 1\n"
  pub point_missing : output_of (point_bytes []) ≡ bytes "refused 2 member 1\n"
  -- question 14 of beam 1: M = Mq = 90000, Mq one above, the moments exchanged, M = 0
  pub moments_equal : output_of (moment_bytes four_bars of90000 of90000) ≡ bytes "members 1\n1 OK 179495 177587 172 1885\n"
  pub service_above : output_of (moment_bytes four_bars of90000 of90001) ≡ bytes "refused 14 member 1\n"
  pub moments_exchanged : output_of (moment_bytes four_bars of90000 of150000) ≡ bytes "refused 14 member 1\n"
  pub no_design_moment : output_of (moment_bytes four_bars (0 ∷ []) (1 ∷ [])) ≡ bytes "refused 14 member 1\n"
  -- under a point load
  pub point_moments_equal : output_of (1 ∷ beam_bytes_with 1 4 four_bars (of90000 ++ of90000) (0 ∷ [])) ≡ bytes "members 1\n1 OK 179495 177587 172 1885\n"
  pub point_service_above : output_of (1 ∷ beam_bytes_with 1 4 four_bars (of90000 ++ of90001) (0 ∷ [])) ≡ bytes "refused 14 member 1\n"
  -- 8 (a = l0 + 1), 9 (41 bars) and 10 (20 bars of 50 mm) come before it, 5 of the next member after it; it names the member's place
  pub consistency_before_service : output_of (1 ∷ beam_bytes_with 1 4 four_bars (of90000 ++ of90001) (241 ∷ 46 ∷ [])) ≡ bytes "refused 8 member 1\n"
  pub bars_before_service : output_of (moment_bytes (3 ∷ 6 ∷ 20 ∷ 6 ∷ 20 ∷ 6 ∷ 1 ∷ []) of90000 of90001) ≡ bytes "refused 9 member 1\n"
  pub ratio_before_service : output_of (moment_bytes (1 ∷ 50 ∷ 20 ∷ []) of90000 of90001) ≡ bytes "refused 10 member 1\n"
  pub service_before_mark : output_of (2 ∷ (beam_bytes_with 1 1 four_bars (of90000 ++ of90001) [] ++ mesh_bytes 1)) ≡ bytes "refused 14 member 1\n"
  pub service_of_second : output_of (2 ∷ (mesh_bytes 1 ++ beam_bytes_with 2 1 four_bars (of90000 ++ of90001) [])) ≡ bytes "refused 14 member 2\n"
  -- V one above the limit of the web: the moment, and three places without a figure
  pub web_printed : output_of (1 ∷ loaded_beam_bytes 1 1 four_bars (of150000 ++ of90000) of411126 []) ≡ bytes "members 1\n1 6.3.1v 179495 - - -\n"
  -- concrete of 80 is read, of 51 and of 85 refused, in each kind
  pub grade_read : output_of (1 ∷ graded_beam_bytes 1 1 80 four_bars (of150000 ++ of90000) of120000 []) ≡ bytes "members 1\n1 OK 195993 241182 125 1478\n"
  pub grades_of_beams : map (λ (g : ℕ). output_of (1 ∷ beam_start 1 1 g [])) (51 ∷ 80 ∷ 85 ∷ []) ≡ map bytes refused_but_ends
  pub grades_of_point_loads : map (λ (g : ℕ). output_of (1 ∷ beam_start 1 4 g [])) (51 ∷ 80 ∷ 85 ∷ []) ≡ map bytes refused_but_ends
  pub grades_of_columns : map (λ (g : ℕ). output_of (1 ∷ 1 ∷ 2 ∷ 172 ∷ 2 ∷ 172 ∷ 2 ∷ g ∷ [])) (51 ∷ 80 ∷ 85 ∷ []) ≡ map bytes refused_but_ends
  pub grades_of_meshes : map (λ (g : ℕ). output_of (1 ∷ 1 ∷ 3 ∷ 1 ∷ g ∷ [])) (51 ∷ 80 ∷ 85 ∷ []) ≡ map bytes refused_but_ends
  pub cross_bar_two : output_of (1 ∷ 1 ∷ 3 ∷ 1 ∷ 30 ∷ 10 ∷ 2 ∷ []) ≡ bytes "refused 7 member 1\n"
  pub ends_in_a_field : output_of (1 ∷ 1 ∷ 2 ∷ 172 ∷ 2 ∷ 172 ∷ 2 ∷ 30 ∷ []) ≡ bytes "refused 2 member 1\n"
  pub byte_left : output_of (0 ∷ 0 ∷ []) ≡ bytes "refused 11 member 0\n"
  -- what the bytes of a report say, and those of a line
  pub total_parsed : value_of (word_of 1 (line_of 0 printed)) ≡ 3
  pub passed-parsed :
      parse_line (line_of 1 printed) ≡ record {
        mark = 1;
        word = bytes "OK";
        first = Some 179495;
        second = Some 177587;
        third = Some 172;
        fourth = Some 1885;
      }
  pub failed-parsed :
      parse_line (bytes "1 4.3.3 179495 177587 - -") ≡ record {
        mark = 1;
        word = bytes "4.3.3";
        first = Some 179495;
        second = Some 177587;
        third = None;
        fourth = None;
      }
  -- members that a caller builds: which field stands where, and that each list is taken up to its count
  pub placed_beam_lem : lent_member (placed_beam 1) (bars 1 6 ++ bars 2 8) (bars 3 10 ++ (bars 4 12 ++ bars 5 14)) ≡ beam_placed Uniform (bars 1 6) (bars 3 10 ++ bars 4 12)
  pub placed_point : lent_member (placed_beam 4) (bars 1 6 ++ bars 2 8) (bars 3 10 ++ (bars 4 12 ++ bars 5 14)) ≡ beam_placed (Point (millimetres 121)) (bars 1 6) (bars 3 10 ++ bars 4 12)
  pub placed_column_lem : lent_member placed_column (bars 1 6 ++ (bars 2 8 ++ bars 3 10)) (bars 4 12) ≡ column_placed (bars 1 6 ++ bars 2 8)
  pub placed_mesh_lem : lent_member placed_mesh (bars 1 6) (bars 2 8) ≡ mesh_placed
  -- document 01's, their lines, and a count above its list (question 7 of member 1)
  pub built_beam_lem : lent_member (built_beam 1) (bars 4 20) [] ≡ beam₁ 200 120000
  pub built_column_lem : lent_member built_column (bars 8 20) [] ≡ column₂ 4000 2500000
  pub built_mesh_lem : lent_member (built_mesh 270 350) [] [] ≡ mesh₃ 270 350
  pub line_1 : lent_report_of (built_beam 1) (bars 4 20) [] ≡ got (bytes "1 OK 179495 177587 172 1885\n")
  -- of kind 4, a = 1000 and one past l0
  pub line_point : lent_report_of (built_beam_of 4 1 1000) (bars 4 20) [] ≡ got (bytes "1 OK 179495 153144 172 1885\n")
  pub point_refused : lent_report_of (built_beam_of 4 1 6001) (bars 4 20) [] ≡ no (refusal Consistency 1)
  -- Mq one above M
  pub line_service : lent_report_of (built_beam_with 1 1 90000 90001 0) (bars 4 20) [] ≡ no (refusal ServiceMoment 1)
  pub line_point_service : lent_report_of (built_beam_with 4 1 90000 90001 0) (bars 4 20) [] ≡ no (refusal ServiceMoment 1)
  -- V one above the limit of the web
  pub line_web : lent_report_of (built_loaded_beam 1 1 150000 90000 411126 0) (bars 4 20) [] ≡ got (bytes "1 6.3.1v 179495 - - -\n")
  pub line_point_web : lent_report_of (built_loaded_beam 4 1 150000 90000 411126 0) (bars 4 20) [] ≡ got (bytes "1 6.3.1v 179495 - - -\n")
  -- of C80, and of grades that there are not
  pub line_grade : lent_report_of (built_graded_beam 1 80 1 150000 90000 120000 0) (bars 4 20) [] ≡ got (bytes "1 OK 195993 241182 125 1478\n")
  pub line_grade_51 : lent_report_of (built_graded_beam 1 51 1 150000 90000 120000 0) (bars 4 20) [] ≡ no (refusal Field 1)
  pub line_grade_85 : lent_report_of (built_graded_beam 4 85 1 150000 90000 120000 0) (bars 4 20) [] ≡ no (refusal Field 1)
  pub line_2 : lent_report_of built_column (bars 8 20) [] ≡ got (bytes "2 OK 2816134 - - -\n")
  pub line_3 : lent_report_of (built_mesh 270 350) [] [] ≡ got (bytes "3 OK 263 342 - -\n")
  pub count_above : lent_report_of (built_beam 2) (bars 4 20) [] ≡ no (refusal Field 1)
  -- mesh 4, of family 2 without cross bar: 48 diameters at C25 in its anchorage and a flat lap (document 02, wish 1), 34 in a stacked lap, 43 at C30
  pub works_met : lent_report_of (built_mesh₄ 25 2 480 624) [] [] ≡ got (bytes "4 OK 480 624 - -\n")
  pub works_anchorage_short : lent_report_of (built_mesh₄ 25 2 479 624) [] [] ≡ got (bytes "4 5.2.5 480 - - -\n")
  pub works_lap_short : lent_report_of (built_mesh₄ 25 2 480 623) [] [] ≡ got (bytes "4 5.3.7 480 624 - -\n")
  pub works_stacked : lent_report_of (built_mesh₄ 25 1 480 442) [] [] ≡ got (bytes "4 OK 480 442 - -\n")
  pub works_not_at_30 : lent_report_of (built_mesh₄ 30 2 430 559) [] [] ≡ got (bytes "4 OK 430 559 - -\n")
  -- members written: which field stands where, each list after its count
  pub beam_numbers_lem :
      member_numbers (beam_placed Uniform (bars 1 6) (bars 3 10 ++ bars 4 12)) ≡
      9 ∷ 1 ∷ 100 ∷ 101 ∷ 102 ∷ 103 ∷ 104 ∷ 105 ∷ 106 ∷ 107 ∷ 1 ∷ 6 ∷ 1 ∷ 2 ∷ 10 ∷ 3 ∷ 12 ∷ 4
      ∷ 110 ∷ 111 ∷ 112 ∷ 113 ∷ 114 ∷ 115 ∷ 116 ∷ 117 ∷ 118 ∷ 119 ∷ 120 ∷ []
  pub point-numbers :
      member_numbers (beam_placed (Point (millimetres 121)) (bars 1 6) (bars 3 10 ++ bars 4 12)) ≡
      9 ∷ 4 ∷ 100 ∷ 101 ∷ 102 ∷ 103 ∷ 104 ∷ 105 ∷ 106 ∷ 107 ∷ 1 ∷ 6 ∷ 1 ∷ 2 ∷ 10 ∷ 3 ∷ 12 ∷ 4
      ∷ 110 ∷ 111 ∷ 112 ∷ 113 ∷ 114 ∷ 115 ∷ 116 ∷ 117 ∷ 118 ∷ 119 ∷ 120 ∷ 121 ∷ []
  pub column_numbers_lem : member_numbers (column_placed (bars 1 6 ++ bars 2 8)) ≡ 9 ∷ 2 ∷ 100 ∷ 101 ∷ 102 ∷ 103 ∷ 2 ∷ 6 ∷ 1 ∷ 8 ∷ 2 ∷ 105 ∷ 106 ∷ 107 ∷ 108 ∷ []
  pub mesh_numbers_lem : member_numbers mesh_placed ≡ 9 ∷ 3 ∷ 100 ∷ 101 ∷ 102 ∷ 103 ∷ 104 ∷ 105 ∷ 106 ∷ 107 ∷ 108 ∷ 109 ∷ 110 ∷ []
  -- document 01's three held as words, the slots past a count 0 or any other number; words left over; no members
  pub written_three : file_of (printed_words 0) ≡ got (printed_bytes 1)
  pub written_unread : file_of (printed_words 4294967295 ++ (7 ∷ 8 ∷ 9 ∷ [])) ≡ got (printed_bytes 1)
  pub written_none : file_of [] ≡ got (0 ∷ [])
  pub written_point : file_of (beam_words 4 1000 7) ≡ got (point_bytes (232 ∷ 7 ∷ []))
  -- marks that do not rise, one of them before an unknown kind; an unknown kind
  pub mark_again : file_of (mesh_words 1 0 ++ mesh_words 1 0) ≡ no (refusal Mark 2)
  pub mark_before_kind : file_of (mesh_words 2 0 ++ (1 ∷ 9 ∷ replicate 40 0)) ≡ no (refusal Mark 2)
  pub kind_nine : file_of (mesh_words 1 0 ++ (2 ∷ 9 ∷ replicate 40 0)) ≡ no (refusal Kind 2)
  -- Mq one above M, in the first and in the second member
  pub written_service : file_of (beam_words_with 1 1 90000 90001 7 7) ≡ no (refusal ServiceMoment 1)
  pub written_point_service : file_of (mesh_words 1 0 ++ beam_words_with 2 4 90000 90001 0 7) ≡ no (refusal ServiceMoment 2)
  -- a mesh of C80, and meshes of grades that there are not
  pub written_grade : file_of (graded_mesh_words 1 80 7) ≡ got (1 ∷ graded_mesh_bytes 1 80)
  pub written_grade_51 : file_of (graded_mesh_words 1 51 7) ≡ no (refusal Field 1)
  pub written_grade_85 : file_of (mesh_words 1 0 ++ graded_mesh_words 2 85 7) ≡ no (refusal Field 2)
  -- room for document 01's file of 72 bytes, and for one byte less; members' questions before it
  pub file_fits : answered file_too_long (file_of (printed_words 0)) 72 ≡ record { question = 0; member = 0; length = 72 }
  pub file_too_long_lem : answered file_too_long (file_of (printed_words 0)) 71 ≡ record { question = 13; member = 0; length = 0 }
  pub mark_before_room : answered file_too_long (file_of (mesh_words 0 0)) 0 ≡ record { question = 5; member = 1; length = 0 }
  pub service_before_room : answered file_too_long (file_of (beam_words_with 1 1 90000 90001 7 7)) 0 ≡ record { question = 14; member = 1; length = 0 }
  -- totals of a list: S in tenths of mm², D and E; and a count above the list
  pub totals : bar_totals 1 (bars 4 20) ≡ record { question = 0; member = 0; bars = 4; area = 12568; diameters = 80; squares = 1600 }
  pub totals_above : bar_totals 2 (bars 4 20) ≡ record { question = 7; member = 1; bars = 0; area = 0; diameters = 0; squares = 0 }
  -- their utilizations; an anchorage given as 0 fails and has none; a length above 100000 is refused
  pub utilization_1 : lent_utilization_of (built_beam 1) (bars 4 20) [] ≡ values_given of_beam
  pub utilization_point : lent_utilization_of (built_beam_of 4 1 1000) (bars 4 20) [] ≡ values_given of_point_loaded
  pub utilization_web : lent_utilization_of (built_loaded_beam 1 1 150000 90000 411126 0) (bars 4 20) [] ≡ values_given of_moment_alone
  pub utilization_point_web : lent_utilization_of (built_loaded_beam 4 1 150000 90000 411126 0) (bars 4 20) [] ≡ values_given of_moment_alone
  pub utilization_2 : lent_utilization_of built_column (bars 8 20) [] ≡ values_given of_column
  pub utilization_3 : lent_utilization_of (built_mesh 270 350) [] [] ≡ values_given of_mesh
  pub utilization_none : lent_utilization_of (built_mesh 0 350) [] [] ≡ values_given of_none
  pub utilization_refused : lent_utilization_of (built_mesh 270 100001) [] [] ≡ values_refused (refusal Field 1)
  pub utilization_service : lent_utilization_of (built_beam_with 1 1 90000 90001 0) (bars 4 20) [] ≡ values_refused (refusal ServiceMoment 1)
  pub utilization_point_service : lent_utilization_of (built_beam_with 4 1 90000 90001 0) (bars 4 20) [] ≡ values_refused (refusal ServiceMoment 1)
  -- the moment governs the beam, the lap the mesh
  pub governs_1 : governing_of of_beam ≡ Some of_beam.first
  pub governs_web : governing_of of_moment_alone ≡ Some of_moment_alone.first
  pub governs_3 : governing_of of_mesh ≡ Some of_mesh.second
  pub governs_none : governing_of of_none ≡ None
