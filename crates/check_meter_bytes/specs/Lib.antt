pub mod DayOnBytes
pub mod Laws
