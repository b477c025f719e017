pub mod ImageMeasure
pub mod ImageReturns
pub mod RoundTrip
