pub mod ReadValue
