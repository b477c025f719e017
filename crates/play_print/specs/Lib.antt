pub mod Decimal
pub mod PrintedLines
