pub mod AnsweredLines
