pub mod Plan
pub mod Hours
pub mod Book
pub mod Stored
pub mod RecordWords
pub mod Sound
pub mod Called
pub mod Laws
