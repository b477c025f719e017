pub mod ProgramTheorem
