pub mod ProgramOutput
