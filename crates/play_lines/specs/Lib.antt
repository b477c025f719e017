pub mod InputLines
