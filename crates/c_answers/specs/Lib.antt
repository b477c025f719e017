pub mod Areas
pub mod PackedAnswers
