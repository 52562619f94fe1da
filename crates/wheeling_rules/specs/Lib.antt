pub mod Wheeling
pub mod Laws
