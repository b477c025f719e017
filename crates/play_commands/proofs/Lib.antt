pub mod FormLaws
pub mod FormReturns
pub mod Letters
pub mod Examples
