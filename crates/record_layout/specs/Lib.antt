pub mod OnBytes
pub mod Laws
