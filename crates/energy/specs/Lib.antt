pub mod Limits
pub mod Energy
pub mod Laws
