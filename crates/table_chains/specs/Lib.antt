pub mod Cells
pub mod Promises
pub mod Walking
pub mod Marks
