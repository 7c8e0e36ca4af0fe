mod Answers
mod UtilizationEntry
