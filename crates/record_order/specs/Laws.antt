pub mod Turns
pub mod TurnsLaws
