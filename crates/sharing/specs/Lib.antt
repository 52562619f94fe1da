pub mod Share
pub mod Laws
