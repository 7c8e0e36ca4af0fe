-- An answer as a struct, for callers in C and Rust: its numbers.
use Rattle.text_answer.specs.Printed.{Numbers}
use Rattle.answer_record.specs.declared.AnswerRecord.{AnswerRecord}

abbrev pub answer_record : Numbers → AnswerRecord
answer_record n = record { question = n.question; member = n.member; length = n.length }
