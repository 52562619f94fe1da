pub mod TurnsSettled
pub mod LibraryTurns
