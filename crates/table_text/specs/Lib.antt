pub mod TableText
pub mod Laws
