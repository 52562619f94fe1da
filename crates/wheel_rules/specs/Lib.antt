pub mod PrintedWords
pub mod Display
pub mod Laws
