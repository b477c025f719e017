pub mod LentAreas
pub mod PackedAnswers
pub mod PackedContracts
