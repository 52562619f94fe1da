pub mod SoundTests
pub mod Capped
pub mod CappedLaws
pub mod TotalsBeyondLaws
pub mod HoursTests
