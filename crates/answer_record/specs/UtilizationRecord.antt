-- The utilization of a member as a struct, for callers in C and Rust.
use Rattle.std.specs.Prelude.{true, false, Option, None, Some, Float}
use Rattle.ratio.specs.Ratio.{nought}
use Rattle.governing.specs.Governing.{governing_of}
use Rattle.utilization.specs.Utilized.{Values}
use Rattle.answer_record.specs.declared.UtilizationRecord.{UtilizationRecord}

-- "a double or the plain word none": a mark and a double, 0.0 where there is none
abbrev pub with_governing : Values → Option Float → UtilizationRecord
with_governing n (Some x) = record { question = n.question; member = n.member; utilization = n.utilization; governs = true; governing = x }
with_governing n None = record { question = n.question; member = n.member; utilization = n.utilization; governs = false; governing = nought }

abbrev pub utilization_record : Values → UtilizationRecord
utilization_record n = with_governing n (governing_of n.utilization)
