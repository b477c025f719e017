pub mod Characters
pub mod Numbers
pub mod Fields
pub mod Steps
